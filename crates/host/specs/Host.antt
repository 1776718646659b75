-- What a host's calls do to its waiting units, its written units and its space. Assumes nothing.
use Rattle.std.specs.Prelude.{◌≡◌, ℕ, ◌+◌, ◌<◌, List, [], ◌∷◌, ◌++◌, length, Some, None, Ok, Err, Option, Result}
use Rattle.refusals.specs.declared.Refusal.{Refusal}
use Rattle.refusals.specs.declared.Rule.{Rule}
use Rattle.refusals.specs.declared.Rule.TheVariants.{LineFull, NoRoom}

-- a host's refusal by a rule; its place is always 0
abbrev pub refusal : Rule → Refusal
refusal rule = record { rule = rule; place = 0 }

-- a unit written at the end, which takes one of the space; refused, with nothing changed, exactly where there is no space
abbrev pub Added : List ℕ → ℕ → ℕ → Result Unit Refusal → List ℕ → ℕ → Type 0
Added written space unit (Ok _) written' space' = (written' ≡ written ++ unit ∷ []) × (space ≡ space' + 1)
Added written space unit (Err e) written' space' = (space ≡ 0) × (e ≡ refusal NoRoom) × (written' ≡ written) × (space' ≡ space)

-- a unit added to the waiting ones; refused, with nothing changed, exactly where their line is full
abbrev pub Keyed : List ℕ → ℕ → ℕ → Result Unit Refusal → List ℕ → Type 0
Keyed waiting capacity unit (Ok _) waiting' = (length waiting < capacity) × (waiting' ≡ waiting ++ unit ∷ [])
Keyed waiting capacity unit (Err e) waiting' = (length waiting ≡ capacity) × (e ≡ refusal LineFull) × (waiting' ≡ waiting)

-- the first waiting unit written, if one waits; refused, with nothing changed, exactly where there is no space
abbrev pub Echoed : List ℕ → List ℕ → ℕ → Result (Option ℕ) Refusal → List ℕ → List ℕ → ℕ → Type 0
Echoed waiting written space (Ok (Some unit)) waiting' written' space' =
    (waiting ≡ unit ∷ waiting') × (written' ≡ written ++ unit ∷ []) × (space ≡ space' + 1)
Echoed waiting written space (Ok None) waiting' written' space' =
    (0 < space) × (waiting ≡ []) × (waiting' ≡ []) × (written' ≡ written) × (space' ≡ space)
Echoed waiting written space (Err e) waiting' written' space' =
    (space ≡ 0) × (e ≡ refusal NoRoom) × (waiting' ≡ waiting) × (written' ≡ written) × (space' ≡ space)
