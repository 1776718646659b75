-- What the cells of a stack hold: frames one upon the other from cell 0 up. Assumes nothing.
use Rattle.std.specs.Prelude.{◌≡◌, ℕ, zero, suc, ◌+◌, Bool, ◌&&◌, List, [], ◌∷◌, reverse, length, take, drop, ◌==◌, nat_le, slice_index, refl}
use Rattle.format.specs.Layout.{parameters, locals}
use Rattle.machine.specs.Machine.{Frame}

-- how many variables a frame of method k has
unfoldable pub variables_of : List ℕ → ℕ → ℕ
variables_of f k = parameters f k + locals f k

pub variables_are : (f : List ℕ) (k : ℕ) → variables_of f k ≡ parameters f k + locals f k
unfolding variables_of
variables_are f k = refl

-- the frame whose cells are q from b on
abbrev pub frame_at : List ℕ → List ℕ → ℕ → Frame
frame_at f q b =
    let n = variables_of f (slice_index q b) in
    record { method = slice_index q b; return_place = slice_index q (b + 1); variables = take n (drop (b + 3) q); operands = reverse (drop (b + 3 + n) q) }

-- d frames that end where q ends, the nearest first, with base b
abbrev pub frames_at : List ℕ → ℕ → List ℕ → ℕ → List Frame
frames_at f zero q b = []
frames_at f (suc d) q b = frame_at f q b ∷ frames_at f d (take b q) (slice_index q (b + 2))

-- q holds exactly d frames, the nearest with base b; below the last there is none, whose base is 65535
abbrev pub laid : List ℕ → ℕ → List ℕ → ℕ → Bool
laid f zero q b = length q == 0 && b == 65535
laid f (suc d) q b = nat_le (b + 3 + variables_of f (slice_index q b)) (length q) && laid f d (take b q) (slice_index q (b + 2))
