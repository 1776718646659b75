-- What holds of a fold, folds over the numbers below another, and counts. Assumes nothing.
use Rattle.std.proofs.Common.{◌≡◌, ℕ, zero, suc, ◌+◌, ◌<◌, ◌≤◌, Bool, true, false, cond, ◌⊎◌, List, [], ◌∷◌, ◌++◌, length, fold, count_by, sym, refl, ap, ◌∙◌, subst, inl, inr, zero-add, add-one, arith}
use mathlib.Core.List.Memᴰ
use Rattle.std.proofs.lemmas.List.Sums.{fold_push, sum_by-cons}
use Rattle.std.proofs.lemmas.Bool.{cond-true, cond-false}
use Rattle.std.proofs.lemmas.Bool.Decides.{nat_tests}
use Rattle.format.specs.Search.{from, upto, first}
use Rattle.format.proofs.Finds.{In, upto_in, first_nil, first_cons}

-- what holds at first, and lasts under each turn, holds of the fold
pub folded_ind : {A B : Type 0} (P : B → Type 0) (t : B → A → B) (b : B) (xs : List A) → P b → ((c : B) (x : A) → In x xs → P c → P (t c x)) → P (fold t b xs)
folded_ind P t b [] h step = h
folded_ind P t b (x ∷ xs) h step = folded_ind P t (t b x) xs (step b x (Memᴰ.head refl) h) (λ c y i. step c y (Memᴰ.tail i))

pub folded_upto_ind : {B : Type 0} (P : B → Type 0) (t : B → ℕ → B) (b : B) (n : ℕ) → P b → ((c : B) (k : ℕ) → k < n → P c → P (t c k)) → P (fold t b (upto n))
folded_upto_ind P t b n h step = folded_ind P t b (upto n) h (λ c k i. step c k (upto_in n k i))

-- what the turn at x brings about, and every turn keeps, holds of the fold
module _ {A B : Type 0} (Q P : B → Type 0) (t : B → A → B) (x : A) (kept : (c : B) (y : A) → Q c → Q (t c y)) (gets : (c : B) → Q c → P (t c x)) (lasts : (c : B) (y : A) → P c → P (t c y)) where
  pub folded_gets : (xs : List A) → In x xs → (b : B) → Q b → P (fold t b xs)
  folded_gets [] i b q = absurd (Memᴰ.not-nil i)
  folded_gets (y ∷ xs) i b q = go (Memᴰ.cases_cons i) (λ j. folded_gets xs j (t b y) (kept b y q))
    where
      go : (x ≡ y) ⊎ In x xs → (In x xs → P (fold t (t b y) xs)) → P (fold t (t b y) xs)
      go (inl e) ih = folded_ind P t (t b y) xs (subst (λ z. P (t b z)) e (gets b q)) (λ c z _. lasts c z)
      go (inr j) ih = ih j

-- two folds that agree at each turn
pub folded_same : {A B : Type 0} (t u : B → A → B) (b : B) (xs : List A) → ((c : B) (x : A) → In x xs → t c x ≡ u c x) → fold t b xs ≡ fold u b xs
folded_same t u b [] h = refl
folded_same t u b (x ∷ xs) h = ap (λ c. fold t c xs) (h b x (Memᴰ.head refl)) ∙ folded_same t u (u b x) xs (λ c y i. h c y (Memᴰ.tail i))

from_push : (i n : ℕ) → from i (suc n) ≡ from i n ++ ((i + n) ∷ [])
from_push i zero = ap (λ (z : ℕ). z ∷ []) (omega arith)
from_push i (suc n) = ap (λ (xs : List ℕ). i ∷ xs) (from_push (i + 1) n ∙ ap (λ (z : ℕ). from (i + 1) n ++ (z ∷ [])) (omega arith))

pub upto_push : (n : ℕ) → upto (n + 1) ≡ upto n ++ (n ∷ [])
upto_push n = ap upto (add-one n) ∙ from_push 0 n ∙ ap (λ (z : ℕ). upto n ++ (z ∷ [])) (zero-add n)

-- a fold over the numbers below n, as a loop goes
pub folded_none : {B : Type 0} (t : B → ℕ → B) (b : B) → fold t b (upto 0) ≡ b
folded_none t b = refl

pub folded_more : {B : Type 0} (t : B → ℕ → B) (b : B) (n : ℕ) → fold t b (upto (n + 1)) ≡ t (fold t b (upto n)) n
folded_more t b n = ap (fold t b) (upto_push n) ∙ fold_push t b (upto n) n

-- a fold each of whose turns changes nothing, as D is so, or lessens m: so does the fold
module _ {A B : Type 0} (t : B → A → B) (m : B → ℕ) (D : B → A → Type 0) (Q : B → Type 0) where
  pub folded_or : (xs : List A) → ((c : B) (x : A) → In x xs → Q c → ((t c x ≡ c) × D c x) ⊎ (m (t c x) < m c)) → ((c : B) (x : A) → In x xs → Q c → Q (t c x)) →
      (b : B) → Q b → ((fold t b xs ≡ b) × ((x : A) → In x xs → D b x)) ⊎ (m (fold t b xs) < m b)
  folded_or [] step kept b q = inl (refl, λ x i. absurd (Memᴰ.not-nil i))
  folded_or (x ∷ xs) step kept b q = go (step b x (Memᴰ.head refl) q) (folded_or xs (λ c y i. step c y (Memᴰ.tail i)) (λ c y i. kept c y (Memᴰ.tail i)) (t b x) (kept b x (Memᴰ.head refl) q))
    where
      go : ((t b x ≡ b) × D b x) ⊎ (m (t b x) < m b) → ((fold t (t b x) xs ≡ t b x) × ((y : A) → In y xs → D (t b x) y)) ⊎ (m (fold t (t b x) xs) < m (t b x)) →
          ((fold t (t b x) xs ≡ b) × ((y : A) → In y (x ∷ xs) → D b y)) ⊎ (m (fold t (t b x) xs) < m b)
      go (inl s) (inl r) = inl (r.0 ∙ s.0, λ y i. pick y (Memᴰ.cases_cons i))
        where
          pick : (y : A) → (y ≡ x) ⊎ In y xs → D b y
          pick y (inl e) = subst (D b) (sym e) s.1
          pick y (inr i) = subst (λ c. D c y) s.0 (r.1 y i)
      go (inl s) (inr r) = let e = ap m s.0 in inr (omega arith)
      go (inr s) (inl r) = let e = ap m r.0 in inr (omega arith)
      go (inr s) (inr r) = inr (omega arith)

-- turns that change nothing, as D is so, or lessen m: as many as m says get to D
module _ {A B : Type 0} (t : B → B) (m : B → ℕ) (D : B → Type 0) (Q : B → Type 0) (step : (b : B) → Q b → ((t b ≡ b) × D b) ⊎ (m (t b) < m b)) (kept : (b : B) → Q b → Q (t b)) where
  folded_fixed : (b : B) (xs : List A) → t b ≡ b → fold (λ c _. t c) b xs ≡ b
  folded_fixed b [] e = refl
  folded_fixed b (x ∷ xs) e = ap (λ c. fold (λ c (_ : A). t c) c xs) e ∙ folded_fixed b xs e

  pub folded_settles : (b : B) (xs : List A) → Q b → m b ≤ length xs → D (fold (λ c _. t c) b xs)
  folded_settles b [] q l = go (step b q)
    where
      go : ((t b ≡ b) × D b) ⊎ (m (t b) < m b) → D b
      go (inl r) = r.1
      go (inr r) = absurd (omega arith)
  folded_settles b (x ∷ xs) q l = go (step b q) (folded_settles (t b) xs (kept b q))
    where
      go : ((t b ≡ b) × D b) ⊎ (m (t b) < m b) → (m (t b) ≤ length xs → D (fold (λ c _. t c) (t b) xs)) → D (fold (λ c _. t c) (t b) xs)
      go (inl r) ih = subst D (sym (ap (λ c. fold (λ c (_ : A). t c) c xs) r.0 ∙ folded_fixed b xs r.0)) r.1
      go (inr r) ih = ih (omega arith)

-- a test that passes less often counts less
one_le : (a b : Bool) → (b ≡ true → a ≡ true) → cond b 1 0 ≤ cond a 1 0
one_le a b h = grind (arith, nat_tests)

module _ {A : Type 0} (a b : A → Bool) (h : (x : A) → b x ≡ true → a x ≡ true) where
  pub count_by_le : (xs : List A) → count_by b xs ≤ count_by a xs
  count_by_le [] = omega arith
  count_by_le (x ∷ xs) =
      let p = sum_by-cons (λ x. cond (a x) 1 0) x xs in
      let q = sum_by-cons (λ x. cond (b x) 1 0) x xs in
      let r = count_by_le xs in
      let s = one_le (a x) (b x) (h x) in
      omega arith

  pub count_by_lt : (xs : List A) (x : A) → In x xs → a x ≡ true → b x ≡ false → count_by b xs < count_by a xs
  count_by_lt [] x i y n = absurd (Memᴰ.not-nil i)
  count_by_lt (z ∷ xs) x i y n = go (Memᴰ.cases_cons i) (λ j. count_by_lt xs x j y n)
    where
      go : (x ≡ z) ⊎ In x xs → (In x xs → count_by b xs < count_by a xs) → count_by b (z ∷ xs) < count_by a (z ∷ xs)
      go (inl e) ih =
          let p = sum_by-cons (λ x. cond (a x) 1 0) z xs in
          let q = sum_by-cons (λ x. cond (b x) 1 0) z xs in
          let r = count_by_le xs in
          let s : ◌≡◌ {A = ℕ} (cond (a z) 1 0) 1 = cond-true (a z) 1 0 (sym (ap a e) ∙ y) in
          let t : ◌≡◌ {A = ℕ} (cond (b z) 1 0) 0 = cond-false (b z) 1 0 (sym (ap b e) ∙ n) in
          omega arith
      go (inr j) ih =
          let p = sum_by-cons (λ x. cond (a x) 1 0) z xs in
          let q = sum_by-cons (λ x. cond (b x) 1 0) z xs in
          let r = ih j in
          let s = one_le (a z) (b z) (h z) in
          omega arith

-- two tests that agree on a list find the same
pub first_same : {A : Type 0} (t u : A → Bool) (xs : List A) → ((x : A) → In x xs → t x ≡ u x) → first t xs ≡ first u xs
first_same t u [] h = first_nil t ∙ sym (first_nil u)
first_same t u (x ∷ xs) h =
    let a = first_cons t x xs in
    let b = first_cons u x xs in
    let c = h x (Memᴰ.head refl) in
    let d = first_same t u xs (λ y i. h y (Memᴰ.tail i)) in
    cc
