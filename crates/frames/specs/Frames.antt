-- The frames of a run, as the plain machine has them. Assumes nothing.
use Rattle.std.specs.Prelude.{◌≡◌, ℕ, ◌+◌, Bool, true, false, List, [], ◌∷◌, ◌++◌, reverse, length, take, replicate, slice_index, refl}
use Rattle.std.proofs.Common.{◌∙◌}
use Rattle.format.specs.Layout.{parameters, locals}
use Rattle.machine.specs.Machine.{Frame}
use Rattle.machine.specs.Cells.{frames_cells}
use Rattle.frames.specs.declared.Frames.{Frames}
use Rattle.frames.specs.Laid.{frame_at, frames_at}

-- how many cells are lent
abbrev pub size : Frames → ℕ
size x = length x.cells.now

unfoldable pub running : Frames → Frame
running x = frame_at x.file.now (take x.top x.cells.now) x.base

unfoldable pub waiting : Frames → List Frame
waiting x = frames_at x.file.now x.depth (take x.base x.cells.now) (slice_index x.cells.now (x.base + 2))

-- a frame as a call lays it, of method k with the return place p, from its caller's operands w
abbrev pub called : List ℕ → ℕ → ℕ → List ℕ → Frame
called f k p w =
    record { method = k; return_place = p; variables = reverse (take (parameters f k) w) ++ replicate (locals f k) 0; operands = [] }

-- no frame is among these
abbrev pub alone : List Frame → Bool
alone [] = true
alone (r ∷ rs) = false

-- the cells below the top are those of the frames, as the plain machine lays them
abbrev pub CellsAreFrames : Type 0
CellsAreFrames = (x : Frames) → take x.top x.cells.now ≡ frames_cells (running x ∷ waiting x)

-- frames stay on the cells that they are lent, and are frames of the same program
pub record Kept (before after : Frames) : Type 0 where
  pub lent : after.cells.ghost_name ≡ before.cells.ghost_name
  pub same_size : size after ≡ size before
  pub same_file : after.file.now ≡ before.file.now

pub kept_refl : (x : Frames) → Kept x x
kept_refl x = record { lent = refl; same_size = refl; same_file = refl }

pub kept_trans : (a b c : Frames) → Kept a b → Kept b c → Kept a c
kept_trans a b c p q = record { lent = q.lent ∙ p.lent; same_size = q.same_size ∙ p.same_size; same_file = q.same_file ∙ p.same_file }
