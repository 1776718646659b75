-- An array that a loop fills: below the loop's index it holds what was written, from there on what it held at first. Assumes nothing.
use Rattle.std.proofs.Common.{◌≡◌, ℕ, zero, suc, ◌+◌, ◌<◌, ◌≤◌, ◌≢◌, ◌⊎◌, List, length, get_or, set, replicate, refl, inl, inr, arith, get_or-set_other, get_or-set_same}
use Rattle.std.proofs.lemmas.Bool.{cases_eq}

module _ {A : Type 0} (a : A) where
  pub get_or-all : (n j : ℕ) → get_or (replicate n a) j a ≡ a
  get_or-all zero j = refl
  get_or-all (suc n) zero = refl
  get_or-all (suc n) (suc j) = get_or-all n j

  module _ (g : ℕ → A) (xs : List A) (i : ℕ) (x : A) where
    pub filled_more : i < length xs → x ≡ g i → ((j : ℕ) → j < i → get_or xs j a ≡ g j) → (j : ℕ) → j < i + 1 → get_or (set xs i x) j a ≡ g j
    filled_more l e h j k = go (cases_eq j i)
      where
        go : (j ≡ i) ⊎ (j ≡ i → ⊥) → get_or (set xs i x) j a ≡ g j
        go (inl q) = rw (q, get_or-set_same xs i x a l) e
        go (inr ne) = rw get_or-set_other (h j (omega arith))

    pub rest_kept : ((j : ℕ) → i ≤ j → get_or xs j a ≡ a) → (j : ℕ) → i + 1 ≤ j → get_or (set xs i x) j a ≡ a
    rest_kept h j k = let ne : j ≢ i = omega arith in rw get_or-set_other (h j (omega arith))
