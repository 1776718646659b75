-- What every run holds: its file is admitted with its sheet once it began, and its cells hold its frames. Assumes nothing.
use Rattle.std.proofs.Common.{◌≡◌, take, Some, refl, ◌∙◌}
use Rattle.verifier.specs.Numbering.{Admitted}
use Rattle.output.specs.Mode.{mode_number}
use Rattle.machine.specs.Machine.{State}
use Rattle.machine.specs.Go.{top}
use Rattle.machine.specs.Cells.{cells_of}
use Rattle.run.specs.declared.run.Run.{Run}
use Rattle.run.specs.declared.run.Stage.{Stage}
use Rattle.run.specs.declared.run.Stage.TheVariants.{Begun, Unbegun}
use Rattle.run.specs.Run.{file_in, sheet_in, cells_in, state_in, file_of, sheet_of, seen, HoldsFrames, Stays}
use Rattle.run.proofs.Ready.{ready}
use Rattle.run.proofs.Holding.{holds}

pub admitted_run : (r : Run) (st : State) → seen r ≡ Some st → Admitted (file_of r) (sheet_of r)
admitted_run r st e = at r.stage st e
  where
    at : (x : Stage) (st : State) → state_in x ≡ Some st → Admitted (file_in x) (sheet_in x)
    at (Begun m) st e = (ready m).admitted
    at (Unbegun u) st e = cc

pub holds_frames : (r : Run) → HoldsFrames r
holds_frames r = at r.stage
  where
    at : (x : Stage) (st : State) → state_in x ≡ Some st → take (top st) (cells_in x).now ≡ cells_of st
    at (Begun m) st e = holds m.frames m.place (mode_number m.mode) m.ended st e
    at (Unbegun u) st e = cc

pub stays_refl : (r : Run) → Stays r r
stays_refl r = record { lent = refl; size = refl; file = refl; sheet = refl }

pub stays_trans : (a b c : Run) → Stays a b → Stays b c → Stays a c
stays_trans a b c p q = record { lent = q.lent ∙ p.lent; size = q.size ∙ p.size; file = q.file ∙ p.file; sheet = q.sheet ∙ p.sheet }
