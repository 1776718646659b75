-- A run: the state that it is in, the cells that it is lent, and what its gos leave of them. Assumes nothing.
use Rattle.std.specs.Prelude.{◌≡◌, ℕ, List, length, take, Some, None, Option}
use Rattle.std.specs.Borrow.{MutBor}
use Rattle.machine.specs.declared.stop.Stop.{Stop}
use Rattle.machine.specs.Machine.{State}
use Rattle.machine.specs.Go.{Host, top, outcome}
use Rattle.machine.specs.Cells.{cells_of}
use Rattle.machine.specs.Rows.{KeepsLevelOn, ReplaysOn}
use Rattle.run.specs.declared.run.Run.{Run}
use Rattle.run.specs.declared.run.Stage.{Stage}
use Rattle.run.specs.declared.run.Stage.TheVariants.{Begun, Unbegun}
use Rattle.run.specs.Standing.{program, numbers, state_of}

abbrev pub file_in : Stage → List ℕ
file_in (Begun m) = program m
file_in (Unbegun u) = u.file.now

abbrev pub sheet_in : Stage → List ℕ
sheet_in (Begun m) = numbers m
sheet_in (Unbegun u) = u.sheet.now

abbrev pub cells_in : Stage → MutBor (List ℕ)
cells_in (Begun m) = m.frames.cells
cells_in (Unbegun u) = u.cells

abbrev pub state_in : Stage → Option State
state_in (Begun m) = Some (state_of m)
state_in (Unbegun u) = None

-- the file, the sheet, the cells that are lent, what they hold, and how many they are
abbrev pub file_of : Run → List ℕ
file_of r = file_in r.stage

abbrev pub sheet_of : Run → List ℕ
sheet_of r = sheet_in r.stage

abbrev pub cells_of_run : Run → MutBor (List ℕ)
cells_of_run r = cells_in r.stage

abbrev pub stack_of : Run → List ℕ
stack_of r = (cells_of_run r).now

abbrev pub size_of : Run → ℕ
size_of r = length (stack_of r)

-- the state of the plain machine; a run that never began has none
abbrev pub seen : Run → Option State
seen r = state_in r.stage

-- the cells below the top are exactly the frames of the state
abbrev pub HoldsFrames : Run → Type 0
HoldsFrames r = (st : State) → seen r ≡ Some st → take (top st) (stack_of r) ≡ cells_of st

-- a go on the host h with this fuel left the run and the host so, and answered this stop and this count
abbrev pub Goes : Run → Host → ℕ → Run → Host → Stop × ℕ → Type 0
Goes r h fuel r' h' answer =
    outcome (file_of r) (sheet_of r) (size_of r) fuel (seen r) h ≡ record { run = seen r'; host = h'; stop = answer.0; counted = answer.1 }

-- a run stays on its file, its sheet and its cells
pub record Stays (before after : Run) : Type 0 where
  pub lent : (cells_of_run after).ghost_name ≡ (cells_of_run before).ghost_name
  pub size : size_of after ≡ size_of before
  pub file : file_of after ≡ file_of before
  pub sheet : sheet_of after ≡ sheet_of before

-- of the rows on a run's file, sheet and number of cells: they keep the sheet's numbers, and follow the plain machine
abbrev pub KeepsLevel : Run → Type 0
KeepsLevel r = KeepsLevelOn (file_of r) (sheet_of r) (size_of r)

abbrev pub Replays : Run → Type 0
Replays r = ReplaysOn (file_of r) (sheet_of r) (size_of r)
