-- How the frames lie on the cells of the stack, upward from cell 0. Assumes nothing.
use Rattle.std.specs.Prelude.{ℕ, List, [], ◌∷◌, ◌++◌, reverse}
use Rattle.machine.specs.Machine.{Frame, State}
use Rattle.machine.specs.Go.{frames_size}

-- the base of the nearest of the frames that wait; main has no caller
abbrev pub caller_base : List Frame → ℕ
caller_base [] = 65535
caller_base (c ∷ cs) = frames_size cs

-- a frame's cells: method, return place, caller's base, variables, operands in the order of pushing
abbrev pub frames_cells : List Frame → List ℕ
frames_cells [] = []
frames_cells (r ∷ rs) = frames_cells rs ++ (r.method ∷ r.return_place ∷ caller_base rs ∷ (r.variables ++ reverse r.operands))

-- the cells below the top
abbrev pub cells_of : State → List ℕ
cells_of s = frames_cells (s.running ∷ s.waiting)
