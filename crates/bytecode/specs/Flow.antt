-- The successors of a place, and the methods that return a value, as the code holds them. Assumes nothing.
use Rattle.std.specs.Prelude.{◌≡◌, ℕ, ◌<◌, Bool, false, List, [], ◌∷◌, slice_index_or}
use Rattle.format.specs.Layout.{methods}
use Rattle.bytecode.specs.Places.{holds}
use Rattle.bytecode.specs.declared.successors.Successors.{Successors}
use Rattle.bytecode.specs.declared.successors.Successors.TheVariants.{Nowhere, One, Two}

abbrev pub successor_list : Successors → List ℕ
successor_list Nowhere = []
successor_list (One p) = p ∷ []
successor_list (Two p q) = p ∷ q ∷ []

-- each method that returns a value is marked, and no other
abbrev pub Marked : List ℕ → List Bool → Type 0
Marked f marks = (k : ℕ) → k < methods f → slice_index_or marks k false ≡ holds f k 0xAC
