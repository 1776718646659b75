-- What the searches of specs/Search.antt say of the things that they go over. Assumes nothing.
use Rattle.std.proofs.Common.{◌≡◌, ℕ, zero, suc, ◌+◌, ◌<◌, ◌≤◌, Bool, true, false, cond, ◌&&◌, ◌||◌, ◌⊎◌, List, [], ◌∷◌, is_some, Some, None, Option, sym, refl, ap, ◌∙◌, inl, inr, arith}
use mathlib.Core.List.Memᴰ
use mathlib.Core.List.{Memᴰ}
use Rattle.std.specs.Option.{option_map}
use Rattle.std.proofs.lemmas.Bool.{both_ways, cases_eq, cases_order}
use Rattle.format.specs.Search.{from, upto, first, any, all, ◌else◌, when}

abbrev pub In : {A : Type 0} → A → List A → Type 0
In x xs = Memᴰ x xs

pub some_none : {A : Type 0} {x : A} → Some x ≡ None → ⊥
some_none e = let z : ◌≡◌ {A = ℕ} 0 1 = cc in omega arith

module _ {A : Type 0} where
  pub first_nil : (t : A → Bool) → first t [] ≡ None
  first_nil t = refl

  pub first_cons : (t : A → Bool) (x : A) (xs : List A) → first t (x ∷ xs) ≡ cond (t x) (Some x) (first t xs)
  first_cons t x xs = refl

  pub first_none : (t : A → Bool) (xs : List A) → first t xs ≡ None → (x : A) → In x xs → t x ≡ false
  first_none t [] e x m = absurd (Memᴰ.not-nil m)
  first_none t (y ∷ ys) e x m = go (t y) refl (sym (first_cons t y ys) ∙ e) (first_none t ys) (Memᴰ.cases_cons m)
    where
      go : (b : Bool) → t y ≡ b → cond b (Some y) (first t ys) ≡ None →
          (first t ys ≡ None → (z : A) → In z ys → t z ≡ false) → (x ≡ y) ⊎ In x ys → t x ≡ false
      go true b e' ih o = absurd (some_none e')
      go false b e' ih (inl p) = ap t p ∙ b
      go false b e' ih (inr n) = ih e' x n

  pub first_some : (t : A → Bool) (xs : List A) (x : A) → first t xs ≡ Some x → In x xs × (t x ≡ true)
  first_some t [] x e = absurd (some_none (sym e ∙ first_nil t))
  first_some t (y ∷ ys) x e = go (t y) refl (sym (first_cons t y ys) ∙ e) (first_some t ys x)
    where
      go : (b : Bool) → t y ≡ b → cond b (Some y) (first t ys) ≡ Some x →
          (first t ys ≡ Some x → In x ys × (t x ≡ true)) → In x (y ∷ ys) × (t x ≡ true)
      go true b e' ih = let p : x ≡ y = cc in (Memᴰ.head p, ap t p ∙ b)
      go false b e' ih = let r = ih e' in (Memᴰ.tail r.0, r.1)

  pub none_first : (t : A → Bool) (xs : List A) → ((x : A) → In x xs → t x ≡ false) → first t xs ≡ None
  none_first t [] h = first_nil t
  none_first t (y ∷ ys) h =
      first_cons t y ys ∙ go (t y) (h y (Memᴰ.head refl)) (none_first t ys (λ x m. h x (Memᴰ.tail m)))
    where
      go : (b : Bool) → b ≡ false → first t ys ≡ None → cond b (Some y) (first t ys) ≡ None
      go true b ih = absurd (both_ways true b refl)
      go false b ih = ih

  pub any_cons : (t : A → Bool) (x : A) (xs : List A) → any t (x ∷ xs) ≡ cond (t x) true (any t xs)
  any_cons t x xs = either (t x)
    where
      either : (b : Bool) → (b || any t xs) ≡ cond b true (any t xs)
      either true = refl
      either false = refl

  pub any_nil : (t : A → Bool) → any t [] ≡ false
  any_nil t = refl

  pub any_some : (t : A → Bool) (xs : List A) → any t xs ≡ true → (x : A) × In x xs × (t x ≡ true)
  any_some t [] e = absurd (both_ways false refl (sym (any_nil t) ∙ e))
  any_some t (y ∷ ys) e = go (t y) refl (sym (any_cons t y ys) ∙ e) (any_some t ys)
    where
      go : (b : Bool) → t y ≡ b → cond b true (any t ys) ≡ true →
          (any t ys ≡ true → (x : A) × In x ys × (t x ≡ true)) → (x : A) × In x (y ∷ ys) × (t x ≡ true)
      go true b e' ih = (y, Memᴰ.head refl, b)
      go false b e' ih = let r = ih e' in (r.0, Memᴰ.tail r.1, r.2)

  pub some_any : (t : A → Bool) (xs : List A) (x : A) → In x xs → t x ≡ true → any t xs ≡ true
  some_any t [] x m h = absurd (Memᴰ.not-nil m)
  some_any t (y ∷ ys) x m h = any_cons t y ys ∙ go (t y) refl (Memᴰ.cases_cons m) (λ n. some_any t ys x n h)
    where
      go : (b : Bool) → t y ≡ b → (x ≡ y) ⊎ In x ys → (In x ys → any t ys ≡ true) → cond b true (any t ys) ≡ true
      go true b o ih = refl
      go false b (inl p) ih = absurd (both_ways (t y) b (sym (ap t p) ∙ h))
      go false b (inr n) ih = ih n

  pub any_false : (t : A → Bool) (xs : List A) → any t xs ≡ false → (x : A) → In x xs → t x ≡ false
  any_false t xs e x m = go (t x) refl
    where
      go : (b : Bool) → t x ≡ b → b ≡ false
      go true b = absurd (both_ways (any t xs) e (some_any t xs x m b))
      go false b = refl

  pub false_any : (t : A → Bool) (xs : List A) → ((x : A) → In x xs → t x ≡ false) → any t xs ≡ false
  false_any t xs h = go (any t xs) refl
    where
      go : (b : Bool) → any t xs ≡ b → b ≡ false
      go true e = let r = any_some t xs e in absurd (both_ways (t r.0) (h r.0 r.1) r.2)
      go false e = refl

  pub all_cons : (t : A → Bool) (x : A) (xs : List A) → all t (x ∷ xs) ≡ cond (t x) (all t xs) false
  all_cons t x xs = both (t x)
    where
      both : (b : Bool) → (b && all t xs) ≡ cond b (all t xs) false
      both true = refl
      both false = refl

  all_nil : (t : A → Bool) → all t [] ≡ true
  all_nil t = refl

  pub all_true : (t : A → Bool) (xs : List A) → all t xs ≡ true → (x : A) → In x xs → t x ≡ true
  all_true t [] e x m = absurd (Memᴰ.not-nil m)
  all_true t (y ∷ ys) e x m = go (t y) refl (sym (all_cons t y ys) ∙ e) (all_true t ys) (Memᴰ.cases_cons m)
    where
      go : (b : Bool) → t y ≡ b → cond b (all t ys) false ≡ true →
          (all t ys ≡ true → (z : A) → In z ys → t z ≡ true) → (x ≡ y) ⊎ In x ys → t x ≡ true
      go true b e' ih (inl p) = ap t p ∙ b
      go true b e' ih (inr n) = ih e' x n
      go false b e' ih o = absurd (both_ways false refl e')

  pub true_all : (t : A → Bool) (xs : List A) → ((x : A) → In x xs → t x ≡ true) → all t xs ≡ true
  true_all t [] h = all_nil t
  true_all t (y ∷ ys) h =
      all_cons t y ys ∙ go (t y) (h y (Memᴰ.head refl)) (true_all t ys (λ x m. h x (Memᴰ.tail m)))
    where
      go : (b : Bool) → b ≡ true → all t ys ≡ true → cond b (all t ys) false ≡ true
      go true b ih = ih
      go false b ih = absurd (both_ways false refl b)

  -- something passes exactly where the search finds something
  pub some_first : (t : A → Bool) (xs : List A) → is_some (first t xs) ≡ any t xs
  some_first t [] = refl
  some_first t (y ∷ ys) = go (t y) (some_first t ys)
    where
      go : (b : Bool) → is_some (first t ys) ≡ any t ys → is_some (cond b (Some y) (first t ys)) ≡ (b || any t ys)
      go true ih = refl
      go false ih = ih

  -- the first of several answers
  pub else_none : (a b : Option A) → (a else b) ≡ None → (a ≡ None) × (b ≡ None)
  else_none None b e = (refl, e)
  else_none (Some x) b e = absurd (some_none e)

  pub none_else : (a b : Option A) → a ≡ None → b ≡ None → (a else b) ≡ None
  none_else None b e h = h
  none_else (Some x) b e h = absurd (some_none e)

  pub else_skip : (a b : Option A) → a ≡ None → (a else b) ≡ b
  else_skip None b e = refl
  else_skip (Some x) b e = absurd (some_none e)

  pub else_some : (a b : Option A) (x : A) → (a else b) ≡ Some x → (a ≡ Some x) ⊎ ((a ≡ None) × (b ≡ Some x))
  else_some None b x e = inr (refl, e)
  else_some (Some y) b x e = inl e

  pub when_none : (b : Bool) (x : A) → when b x ≡ None → b ≡ false
  when_none true x e = absurd (some_none e)
  when_none false x e = refl

  pub none_when : (b : Bool) (x : A) → b ≡ false → when b x ≡ None
  none_when true x e = absurd (both_ways true e refl)
  none_when false x e = refl

pub mapped_none : {A B : Type 0} (g : A → B) (o : Option A) → option_map g o ≡ None → o ≡ None
mapped_none g None e = refl
mapped_none g (Some x) e = absurd (some_none e)

pub none_mapped : {A B : Type 0} (g : A → B) (o : Option A) → o ≡ None → option_map g o ≡ None
none_mapped g None e = refl
none_mapped g (Some x) e = absurd (some_none e)

-- the numbers from i on
pub in_from : (i n k : ℕ) → i ≤ k → k < i + n → In k (from i n)
in_from i zero k a b = absurd (omega arith)
in_from i (suc n) k a b = go (cases_eq k i) (in_from (i + 1) n k)
  where
    go : (k ≡ i) ⊎ (k ≡ i → ⊥) → (i + 1 ≤ k → k < i + 1 + n → In k (from (i + 1) n)) → In k (from i (suc n))
    go (inl e) ih = Memᴰ.head e
    go (inr ne) ih = Memᴰ.tail (ih (omega arith) (omega arith))

pub from_in : (i n k : ℕ) → In k (from i n) → (i ≤ k) × (k < i + n)
from_in i zero k m = absurd (Memᴰ.not-nil m)
from_in i (suc n) k m = go (Memᴰ.cases_cons m) (from_in (i + 1) n k)
  where
    go : (k ≡ i) ⊎ In k (from (i + 1) n) → (In k (from (i + 1) n) → (i + 1 ≤ k) × (k < i + 1 + n)) → (i ≤ k) × (k < i + suc n)
    go (inl e) ih = omega arith
    go (inr r) ih = let h = ih r in omega arith

pub in_upto : (n k : ℕ) → k < n → In k (upto n)
in_upto n k h = in_from 0 n k (omega arith) (omega arith)

pub upto_in : (n k : ℕ) → In k (upto n) → k < n
upto_in n k m = let h = from_in 0 n k m in omega arith

-- the first number that a test finds
pub first_before : (t : ℕ → Bool) (i n k : ℕ) → first t (from i n) ≡ Some k → (j : ℕ) → i ≤ j → j < k → t j ≡ false
first_before t i zero k e j a b = absurd (some_none (sym e ∙ first_nil t))
first_before t i (suc n) k e j a b = go (t i) refl (sym (first_cons t i (from (i + 1) n)) ∙ e) (first_before t (i + 1) n k)
  where
    go : (c : Bool) → t i ≡ c → cond c (Some i) (first t (from (i + 1) n)) ≡ Some k →
        (first t (from (i + 1) n) ≡ Some k → (j : ℕ) → i + 1 ≤ j → j < k → t j ≡ false) → t j ≡ false
    go true c e' ih = let q : k ≡ i = cc in absurd (omega arith)
    go false c e' ih = pick (cases_eq j i)
      where
        pick : (j ≡ i) ⊎ (j ≡ i → ⊥) → t j ≡ false
        pick (inl q) = ap t q ∙ c
        pick (inr ne) = ih e' j (omega arith) b

pub first_is : (t : ℕ → Bool) (n k : ℕ) → k < n → t k ≡ true → ((j : ℕ) → j < k → t j ≡ false) → first t (upto n) ≡ Some k
first_is t n k l y h = go (first t (upto n)) refl
  where
    go : (o : Option ℕ) → first t (upto n) ≡ o → o ≡ Some k
    go None e = absurd (both_ways (t k) (first_none t (upto n) e k (in_upto n k l)) y)
    go (Some j) e = pick (cases_order j k)
      where
        pick : (j ≡ k) ⊎ ((j < k) ⊎ (k < j)) → Some j ≡ Some k
        pick (inl q) = ap (λ (z : ℕ). Some z) q
        pick (inr (inl q)) = absurd (both_ways (t j) (h j q) (first_some t (upto n) j e).1)
        pick (inr (inr q)) = absurd (both_ways (t k) (first_before t 0 n j e k (omega arith) q) y)

-- a search below n that finds nothing, index by index
pub none_below : (t : ℕ → Bool) (n : ℕ) → first t (upto n) ≡ None → (k : ℕ) → k < n → t k ≡ false
none_below t n e k l = first_none t (upto n) e k (in_upto n k l)

pub below_none : (t : ℕ → Bool) (n : ℕ) → ((k : ℕ) → k < n → t k ≡ false) → first t (upto n) ≡ None
below_none t n h = none_first t (upto n) (λ k m. h k (upto_in n k m))

-- what a search below n finds is below n
pub first_below : (t : ℕ → Bool) (n k : ℕ) → first t (upto n) ≡ Some k → k < n
first_below t n k e = upto_in n k (first_some t (upto n) k e).0
