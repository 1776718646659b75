-- A walk over the places of a method, one after another: what is left of the places, and what a search of them finds. Assumes nothing.
use Rattle.std.proofs.Common.{◌≡◌, ℕ, zero, suc, ◌+◌, ◌-◌, ◌<◌, ◌≤◌, Bool, true, false, cond, not, ◌&&◌, eqb, ltb, leb, ◌⊎◌, inl, inr, List, [], ◌∷◌, Some, None, Option, sym, refl, ap, ◌∙◌, arith}
use mathlib.Core.List.Memᴰ
use Rattle.std.proofs.lemmas.Bool.{ltb-true, ltb-false}
use Rattle.std.proofs.lemmas.Bool.Decides.{nat_tests}
use Rattle.format.specs.Layout.{byte, code_address, code_size}
use Rattle.format.specs.Search.{first}
use Rattle.format.proofs.Finds.{In, first_nil, first_cons}
use Rattle.bytecode.specs.Opcodes.{length_of}
use Rattle.bytecode.specs.Places.{code_end, next, whole, decoded, places}

-- the place after p, or the end
abbrev pub after : List ℕ → ℕ → ℕ → ℕ
after f e p = cond (whole f e p) (next f p) e

-- the places that are left from p on
abbrev pub left : List ℕ → ℕ → ℕ → List ℕ
left f e p = decoded f e p (e - p)

module _ (f : List ℕ) (e : ℕ) where
  -- an instruction that is whole ends after its place
  pub whole_ends : (p : ℕ) → whole f e p ≡ true → (p < next f p) × (next f p ≤ e)
  whole_ends p w = ends (length_of (byte f p)) w
    where
      ends : (n : ℕ) → not (eqb n 0) && leb (p + n) e ≡ true → (p < p + n) × (p + n ≤ e)
      ends n w = (grind (arith, nat_tests), grind (arith, nat_tests))

  decoded_none : (p n : ℕ) → e ≤ p → decoded f e p n ≡ []
  unfolding decoded
  decoded_none p zero l = refl
  decoded_none p (suc n) l = go (ltb p e) refl
    where
      go : (b : Bool) → ltb p e ≡ b → cond b (p ∷ cond (whole f e p) (decoded f e (next f p) n) []) [] ≡ []
      go true q = let h = ltb-true p e q in absurd (omega arith)
      go false q = refl

  -- as many steps as there are bytes suffice
  decoded_enough : (p n m : ℕ) → e ≤ p + n → e ≤ p + m → decoded f e p n ≡ decoded f e p m
  unfolding decoded
  decoded_enough p zero m a b = sym (decoded_none p m (omega arith))
  decoded_enough p (suc n) zero a b = decoded_none p (suc n) (omega arith)
  decoded_enough p (suc n) (suc m) a b = go (whole f e p) refl (decoded_enough (next f p) n m)
    where
      go : (w : Bool) → whole f e p ≡ w → (e ≤ next f p + n → e ≤ next f p + m → decoded f e (next f p) n ≡ decoded f e (next f p) m) →
          cond (ltb p e) (p ∷ cond w (decoded f e (next f p) n) []) [] ≡ cond (ltb p e) (p ∷ cond w (decoded f e (next f p) m) []) []
      go true w ih = let h = whole_ends p w in rw (ih (omega arith) (omega arith))
      go false w ih = refl

  pub left_none : (p : ℕ) → e ≤ p → left f e p ≡ []
  left_none p l = decoded_none p (e - p) l

  decoded_more : (p n : ℕ) → p < e → decoded f e p (suc n) ≡ p ∷ cond (whole f e p) (decoded f e (next f p) n) []
  unfolding decoded
  decoded_more p n l = go (ltb p e) refl
    where
      go : (b : Bool) → ltb p e ≡ b → cond b (p ∷ cond (whole f e p) (decoded f e (next f p) n) []) [] ≡ p ∷ cond (whole f e p) (decoded f e (next f p) n) []
      go true q = refl
      go false q = let h = ltb-false p e q in absurd (omega arith)

  pub left_more : (p : ℕ) → p < e → left f e p ≡ p ∷ left f e (after f e p)
  left_more p l = decoded_enough p (e - p) (suc (e - p)) (omega arith) (omega arith) ∙ decoded_more p (e - p) l ∙ ap (λ xs. p ∷ xs) (go (whole f e p) refl)
    where
      go : (b : Bool) → whole f e p ≡ b → cond b (decoded f e (next f p) (e - p)) [] ≡ left f e (cond b (next f p) e)
      go true w = let h = whole_ends p w in decoded_enough (next f p) (e - p) (e - next f p) (omega arith) (omega arith)
      go false w = sym (left_none e (omega arith))

-- a walk begins with all places of the method
pub left_all : (f : List ℕ) (k : ℕ) → left f (code_end f k) (code_address f k) ≡ places f k
left_all f k = let e : (code_address f k + code_size f k) - code_address f k ≡ code_size f k = sizes (code_address f k) (code_size f k) in rw e
  where
    sizes : (a s : ℕ) → (a + s) - a ≡ s
    sizes a s = omega arith

-- a place that is decoded lies before the end, and not before the first
pub decoded_inside : (f : List ℕ) (e p n q : ℕ) → In q (decoded f e p n) → (p ≤ q) × (q < e)
unfolding decoded
decoded_inside f e p zero q m = absurd (Memᴰ.not-nil m)
decoded_inside f e p (suc n) q m = go (ltb p e) refl (whole f e p) refl (decoded_inside f e (next f p) n q) m
  where
    go : (a : Bool) → ltb p e ≡ a → (b : Bool) → whole f e p ≡ b → (In q (decoded f e (next f p) n) → (next f p ≤ q) × (q < e)) →
        In q (cond a (p ∷ cond b (decoded f e (next f p) n) []) []) → (p ≤ q) × (q < e)
    go false u b v ih m' = absurd (Memᴰ.not-nil m')
    go true u b v ih m' = let l = ltb-true p e u in here b v (Memᴰ.cases_cons m')
      where
        here : (b : Bool) → whole f e p ≡ b → (q ≡ p) ⊎ In q (cond b (decoded f e (next f p) n) []) → (p ≤ q) × (q < e)
        here b v (inl z) = omega (arith, ltb-true p e u)
        here true v (inr i) = let w = whole_ends f e p v in let r = ih i in omega arith
        here false v (inr i) = absurd (Memᴰ.not-nil i)

-- what a search of the places knows at each step, where it stops, and at the end: r is what it finds among all places
module _ (f : List ℕ) (e : ℕ) (t : ℕ → Bool) (p : ℕ) where
  first_more : p < e → first t (left f e p) ≡ cond (t p) (Some p) (first t (left f e (after f e p)))
  first_more l = ap (first t) (left_more f e p l) ∙ first_cons t p (left f e (after f e p))

  pub first_goes_on : (q : ℕ) {r : Option ℕ} → first t (left f e p) ≡ r → p < e → t p ≡ false → q ≡ after f e p → first t (left f e q) ≡ r
  first_goes_on q h l n s = rw s (let m = first_more l in cc)

  pub first_stops : {r : Option ℕ} → first t (left f e p) ≡ r → p < e → t p ≡ true → Some p ≡ r
  first_stops h l n = let m = first_more l in cc

  pub first_ends : {r : Option ℕ} → first t (left f e p) ≡ r → e ≤ p → None ≡ r
  first_ends h l = let m = ap (first t) (left_none f e p l) in let z = first_nil t in cc
