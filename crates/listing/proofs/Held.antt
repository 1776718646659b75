-- What the parts of an accepted file hold, once they are answered. Assumes nothing.
use Rattle.std.proofs.Common.{◌≡◌, ℕ, ◌+◌, ◌*◌, ◌<◌, List, length, get_or, take, drop, Some, ap, subst, ◌∙◌, add-zero, arith, length-drop, length-take, get_or-drop, get_or-take}
use Rattle.format.specs.Layout.{byte, be16, methods, constants, code_address, code_size, constant_address}
use Rattle.format.specs.Parts.{Accepted, Piece, piece, within, constant, method_code}
use Rattle.format.proofs.Sounds.{sound}
use Rattle.format.proofs.Answered.{code_fits, found_within, found_among}

module _ (f : List ℕ) (i : ℕ) (p : Piece) (e : Some p ≡ constant f i) where
  constant_is : p.bytes ≡ take 2 (drop (constant_address f i) f)
  constant_is = ap (λ (q : Piece). q.bytes) (found_within f (constant_address f i) 2 p (found_among i (constants f) (within f (constant_address f i) 2) p e))

  constant_length : Accepted f → i < constants f → length p.bytes ≡ 2
  constant_length h l =
      let t = (sound f h).tables in
      ap length constant_is ∙ simp (length-take, length-drop) (omega arith)

  constant_number : get_or p.bytes 0 0 * 256 + get_or p.bytes 1 0 ≡ be16 f (constant_address f i)
  constant_number = ap (λ bs. get_or bs 0 0 * 256 + get_or bs 1 0) constant_is ∙ digits (byte_in 0 (omega arith) ∙ ap (byte f) (add-zero (constant_address f i))) (byte_in 1 (omega arith))
    where
      byte_in : (j : ℕ) → j < 2 → get_or (take 2 (drop (constant_address f i) f)) j 0 ≡ byte f (constant_address f i + j)
      byte_in j l = get_or-take 2 (drop (constant_address f i) f) j 0 l ∙ get_or-drop (constant_address f i) f j 0

      digits : {a b x y : ℕ} → a ≡ x → b ≡ y → a * 256 + b ≡ x * 256 + y
      digits d e = cc

module _ (f : List ℕ) (i : ℕ) (p : Piece) (e : Some p ≡ method_code f i) where
  code_is : p ≡ piece f (code_address f i) (code_size f i)
  code_is = found_within f (code_address f i) (code_size f i) p (found_among i (methods f) (within f (code_address f i) (code_size f i)) p e)

  code_place : p.place ≡ code_address f i
  code_place = ap (λ (q : Piece). q.place) code_is

  code_length : Accepted f → i < methods f → length p.bytes ≡ code_size f i
  code_length h l =
      let t = code_fits f i h l in
      ap (λ (q : Piece). length q.bytes) code_is ∙ simp (length-take, length-drop) (omega arith)

module _ (f g : List ℕ) (i : ℕ) (p : Piece) (h : Accepted g) (same : g ≡ f) where
  -- where a method's code stands, and how long it is
  pub code_told : Some p ≡ method_code g i → i < methods f → (p.place ≡ code_address f i) × (length p.bytes ≡ code_size f i)
  code_told e l =
      let e' : Some p ≡ method_code f i = subst (λ b. Some p ≡ method_code b i) same e in
      (code_place f i p e', code_length f i p e' (subst Accepted same h) l)

  -- the two bytes of a constant
  pub constant_told : Some p ≡ constant g i → i < constants f → (length p.bytes ≡ 2) × (get_or p.bytes 0 0 * 256 + get_or p.bytes 1 0 ≡ be16 f (constant_address f i))
  constant_told e l =
      let e' : Some p ≡ constant f i = subst (λ b. Some p ≡ constant b i) same e in
      (constant_length f i p e' (subst Accepted same h) l, constant_number f i p e')
