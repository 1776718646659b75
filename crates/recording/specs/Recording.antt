-- Gos one after another with nothing between them, and the units of a new run that is recorded. Assumes nothing.
use Rattle.std.specs.Prelude.{◌≡◌, ℕ, true, false, List, [], ◌∷◌, length}
use Rattle.host.specs.Recorder.{units_of, room_in}
use Rattle.verifier.specs.Numbering.{Admitted}
use Rattle.machine.specs.Machine.{machine_after}
use Rattle.machine.specs.Go.{Host, begins}
use Rattle.machine.specs.Rows.{Event, slice, Row, row, new}
use Rattle.run.specs.declared.run.Run.{Run}
use Rattle.run.specs.Run.{file_of, sheet_of, size_of, seen}

abbrev pub slices : List ℕ → List Event
slices [] = []
slices (fuel ∷ fuels) = slice fuel ∷ slices fuels

-- a run on a host, when so many instructions were counted
abbrev pub row_of : Run → Host → ℕ → Row
row_of r h sum = record { cells = size_of r; run = seen r; host = h; sum = sum }

-- gos on the host h with these fuels left the run and the host so
abbrev pub Makes : Run → Host → List ℕ → Run → Host → Type 0
Makes r h fuels r' h' = (sum : ℕ) →
    let made = row (file_of r) (sheet_of r) (row_of r h sum) (slices fuels) in
    (made.run ≡ seen r') × (made.host ≡ h')

-- a recorder that is opened on this memory with these keys
abbrev pub opened : List ℕ → List ℕ → Host
opened memory keys = record { waits = units_of keys; written = []; space = room_in (length memory) }

-- a new run of the file on so many cells, after gos with these fuels, recorded in this memory
abbrev pub recorded_row : List ℕ → List ℕ → ℕ → List ℕ → List ℕ → List ℕ → Row
recorded_row f s cells memory keys fuels = row f s (new f s cells (opened memory keys)) (slices fuels)

-- the units that it wrote
abbrev pub recorded_units : List ℕ → List ℕ → ℕ → List ℕ → List ℕ → List ℕ → List ℕ
recorded_units f s cells memory keys fuels = (recorded_row f s cells memory keys fuels).host.written

-- they are what the plain machine writes, fed the keys' units, in as many instructions as the gos did; none, if main does not fit
abbrev pub PlainUnits : Type 0
PlainUnits = (f s : List ℕ) → Admitted f s → (cells : ℕ) (memory keys fuels : List ℕ) →
    (begins f s cells ≡ true → recorded_units f s cells memory keys fuels ≡ (machine_after f s (recorded_row f s cells memory keys fuels).sum (units_of keys)).wrote) ×
    (begins f s cells ≡ false → recorded_units f s cells memory keys fuels ≡ [])
