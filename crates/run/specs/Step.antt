-- What one turn of a go does to the interpreter and to the host. Assumes nothing.
use Rattle.std.specs.Prelude.{◌≡◌, ℕ, ◌+◌, List, [], ◌++◌, length, Some, None, Option}
use Rattle.machine.specs.declared.stop.Stop.{Stop}
use Rattle.machine.specs.Machine.{fed, step}
use Rattle.machine.specs.Go.{Host, next_text, hindrance}
use Rattle.run.specs.declared.interpreter.Interpreter.{Interpreter}
use Rattle.run.specs.Standing.{program, numbers, cells, state_of}
use Rattle.run.specs.Done.{Kept}

-- a host by value
abbrev pub host_of : List ℕ → List ℕ → ℕ → Host
host_of waits written space = record { waits = waits; written = written; space = space }

-- what keeps the interpreter from its next instruction on this host, if anything does
abbrev pub hindered : Interpreter → Host → Option Stop
hindered m h = hindrance (program m) (numbers m) (cells m) h.space (fed (state_of m) h.waits [])

-- the next instruction was done, on the host too: what it writes comes after what was written, and takes as much room
pub record Advanced (m : Interpreter) (h : Host) (m' : Interpreter) (h' : Host) : Type 0 where
  pub kept : Kept m m'
  pub does : (vs : List ℕ) → step (program m) (numbers m) (fed (state_of m) h.waits vs) ≡ fed (state_of m') h'.waits (vs ++ next_text (program m) (state_of m))
  pub writes : h'.written ≡ h.written ++ next_text (program m) (state_of m)
  pub takes_room : h.space ≡ h'.space + length (next_text (program m) (state_of m))

-- a turn: nothing changes where something hinders it
abbrev pub Turn : Interpreter → Host → Option Stop → Interpreter → Host → Type 0
Turn m h None m' h' = Advanced m h m' h'
Turn m h (Some stop) m' h' = (m' ≡ m) × (h' ≡ h)
