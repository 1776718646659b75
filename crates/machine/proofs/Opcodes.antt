-- What an opcode says of the instruction at a place: what it takes and leaves, and where it goes on. Assumes nothing.
use Rattle.std.proofs.Common.{◌≡◌, ℕ, ◌+◌, cond, eqb, List, [], ◌∷◌, sym, ap}
use Rattle.format.specs.Layout.{byte, parameters}
use Rattle.bytecode.specs.Opcodes.{length_of, takes_of, leaves_of}
use Rattle.bytecode.specs.Places.{holds, is, is_jump, jump_target, next, takes, leaves, successors}

-- the same, with the opcode apart from the place that it was read at
abbrev pub takes_as : List ℕ → ℕ → ℕ → ℕ
takes_as f p c = cond (eqb c 0xB6) (parameters f (byte f (p + 1))) (takes_of c)

abbrev pub leaves_as : List ℕ → ℕ → ℕ → ℕ
leaves_as f p c = cond (eqb c 0xB6) (cond (holds f (byte f (p + 1)) 0xAC) 1 0) (leaves_of c)

abbrev pub successors_as : List ℕ → ℕ → ℕ → List ℕ
successors_as f p c =
    cond (is c (0xAC ∷ 0xB1 ∷ 0xF2 ∷ 0xFF ∷ [])) []
    (cond (eqb c 0xA7) (jump_target f p ∷ [])
    (cond (is_jump c) (jump_target f p ∷ next f p ∷ []) (next f p ∷ [])))

module _ (f : List ℕ) (p c : ℕ) (e : c ≡ byte f p) where
  pub takes_is : takes f p ≡ takes_as f p c
  takes_is = ap (takes_as f p) (sym e)

  pub leaves_is : leaves f p ≡ leaves_as f p c
  leaves_is = ap (leaves_as f p) (sym e)

  pub successors_are : successors f p ≡ successors_as f p c
  successors_are = ap (successors_as f p) (sym e)

  pub next_is : next f p ≡ p + length_of c
  next_is = ap (λ c. p + length_of c) (sym e)
