-- What holds of a run between two instructions. Assumes nothing.
use Rattle.std.specs.Prelude.{ℕ, ◌+◌, ◌-◌, Bool, true, not, ◌&&◌, List, [], ◌∷◌, length, is_some, ◌==◌, nat_le, nat_lt}
use Rattle.format.specs.Layout.{byte, methods, parameters, locals}
use Rattle.bytecode.specs.Places.{is_place}
use Rattle.verifier.specs.Numbering.{number, numbered, admit_refusal}
use Rattle.machine.specs.Machine.{Frame}
use Rattle.machine.specs.Go.{frames_size, frame_need, cells_used}
use Rattle.frames.specs.declared.Frames.{Frames}
use Rattle.frames.specs.Frames.{running, waiting, size}

-- a frame has as many variables as its method says
abbrev pub has_variables : List ℕ → Frame → Bool
has_variables f r = length r.variables == parameters f r.method + locals f r.method

-- frame c waits for a frame of method k that goes back to b: its call stands two bytes before b, and its operands and the parameters
-- taken from them are together as many as the number there
abbrev pub waits_for : List ℕ → List ℕ → ℕ → ℕ → Frame → Bool
waits_for f s k b c =
    nat_le 2 b && nat_lt c.method (methods f) && is_place f c.method (b - 2) && numbered (number s (b - 2)) &&
    (byte f (b - 2) == 0xB6) && byte f (b - 2 + 1) == k && has_variables f c &&
    (length c.operands + parameters f k == number s (b - 2))

abbrev pub all_wait : List ℕ → List ℕ → ℕ → ℕ → List Frame → Bool
all_wait f s k b [] = true
all_wait f s k b (c ∷ cs) = waits_for f s k b c && all_wait f s c.method c.return_place cs

-- the running frame stands at a place of its method with the operands that the sheet says, and each frame below waits for the one above
abbrev pub level : List ℕ → List ℕ → Frame → List Frame → ℕ → Bool
level f s r rs p =
    nat_lt r.method (methods f) && is_place f r.method p && numbered (number s p) &&
    (length r.operands == number s p) && has_variables f r && all_wait f s r.method r.return_place rs

-- each frame, with as many operands as its method's peak, ends within the cells used
abbrev pub all_fit : List ℕ → List ℕ → ℕ → List Frame → Bool
all_fit f s n [] = true
all_fit f s n (r ∷ rs) = nat_le (frame_need f s r.method (frames_size rs)) (cells_used n) && all_fit f s n rs

-- what holds between two instructions of the frames x, the sheet s and the place p: the file and its sheet are admitted, the frames
-- are level, and fit
unfoldable pub sound : Frames → List ℕ → ℕ → Bool
sound x s p =
    let f = x.file.now in
    not (is_some (admit_refusal f s)) && level f s (running x) (waiting x) p && all_fit f s (size x) (running x ∷ waiting x)
