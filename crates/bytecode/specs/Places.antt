-- The places of a method: the addresses of its instructions. What each takes and leaves, and where control goes on from it.
-- Meant for a file whose layout is accepted. Assumes nothing.
use Rattle.std.specs.Prelude.{ℕ, zero, suc, ◌+◌, Bool, false, cond, not, ◌&&◌, ◌||◌, List, [], ◌∷◌, ◌++◌, map, ◌==◌, nat_eq, nat_le, nat_lt}
use Rattle.format.specs.Search.{any, upto}
use Rattle.format.specs.Layout.{byte, be16, methods, parameters, code_address, code_size}
use Rattle.bytecode.specs.Opcodes.{length_of, takes_of, leaves_of, target}

-- where the code of method k ends
abbrev pub code_end : List ℕ → ℕ → ℕ
code_end f k = code_address f k + code_size f k

-- where the instruction at p ends
abbrev pub next : List ℕ → ℕ → ℕ
next f p = p + length_of (byte f p)

-- the instruction at p is known, and ends at e or before
abbrev pub whole : List ℕ → ℕ → ℕ → Bool
whole f e p = not (length_of (byte f p) == 0) && nat_le (next f p) e

-- the addresses from p to e at which instructions stand, decoded one after another, at most n; the decoding ends at one that is not whole
unfoldable pub decoded : List ℕ → ℕ → ℕ → ℕ → List ℕ
decoded f e p zero = []
decoded f e p (suc n) = cond (nat_lt p e) (p ∷ cond (whole f e p) (decoded f e (next f p) n) []) []

abbrev pub places : List ℕ → ℕ → List ℕ
places f k = decoded f (code_end f k) (code_address f k) (code_size f k)

abbrev pub is_place : List ℕ → ℕ → ℕ → Bool
is_place f k p = any (nat_eq p) (places f k)

-- a place with its method
pub record Point : Type 0 where
  pub method : ℕ
  pub place : ℕ

abbrev pub points_of : List ℕ → ℕ → List Point
points_of f k = map (λ p. record { method = k; place = p }) (places f k)

unfoldable pub points_from : List ℕ → List ℕ → List Point
points_from f [] = []
points_from f (k ∷ ks) = points_of f k ++ points_from f ks

-- every place of the file, method by method, in its order
abbrev pub points : List ℕ → List Point
points f = points_from f (upto (methods f))

-- c is one of the listed opcodes
abbrev pub is : ℕ → List ℕ → Bool
is c [] = false
is c (d ∷ ds) = c == d || is c ds

abbrev pub is_jump : ℕ → Bool
is_jump c = is c (0x99 ∷ 0x9B ∷ 0x9F ∷ 0xA7 ∷ [])

-- where the jump at p leads
abbrev pub jump_target : List ℕ → ℕ → ℕ
jump_target f p = target p (be16 f (p + 1))

-- method k holds an instruction with this opcode
abbrev pub holds : List ℕ → ℕ → ℕ → Bool
holds f k c = any (λ p. nat_eq (byte f p) c) (places f k)

-- what the instruction at p takes and leaves; a call takes the parameters, and leaves one value if the method called returns one
abbrev pub takes : List ℕ → ℕ → ℕ
takes f p = cond (byte f p == 0xB6) (parameters f (byte f (p + 1))) (takes_of (byte f p))

abbrev pub leaves : List ℕ → ℕ → ℕ
leaves f p = cond (byte f p == 0xB6) (cond (holds f (byte f (p + 1)) 0xAC) 1 0) (leaves_of (byte f p))

-- where control goes on from p: nowhere from a return, an error or a halt, to the target of a jump, and to the next instruction unless the jump is GOTO
abbrev pub successors : List ℕ → ℕ → List ℕ
successors f p =
    cond (is (byte f p) (0xAC ∷ 0xB1 ∷ 0xF2 ∷ 0xFF ∷ [])) []
    (cond (byte f p == 0xA7) (jump_target f p ∷ [])
    (cond (is_jump (byte f p)) (jump_target f p ∷ next f p ∷ []) (next f p ∷ [])))
