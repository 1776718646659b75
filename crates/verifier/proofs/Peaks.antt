-- The peaks: the largest of a method's numbers, and a sheet with them at the methods' entries. Assumes nothing.
use Rattle.std.proofs.Common.{◌≡◌, ℕ, ◌+◌, ◌*◌, ◌<◌, ◌≤◌, max, ◌⊎◌, List, length, set, refl, ap, ◌∙◌, subst, inl, inr, arith, length-set}
use Rattle.std.proofs.lemmas.Bool.{cases_lt, leb-true, le-leb, cond-true, cond_both}
use Rattle.format.specs.Search.{upto}
use Rattle.format.specs.Layout.{methods, constants, entry, tables_end}
use Rattle.format.specs.Parts.{Accepted}
use Rattle.format.proofs.Finds.{In, in_upto}
use Rattle.bytecode.specs.Places.{places}
use Rattle.verifier.specs.Numbering.{number, numbered, larger, peak, peaks_to}
use Rattle.verifier.proofs.Folds.{folded_ind, folded_upto_ind, folded_gets, folded_same}
use Rattle.verifier.proofs.Entries.{number-set_same, number-set_other, number-set_cases}
use Rattle.verifier.proofs.Places.{place_bounds}

-- two sheets with the same entries at the places of method k
abbrev pub Same : List ℕ → ℕ → List ℕ → List ℕ → Type 0
Same f k s t = (p : ℕ) → In p (places f k) → number s p ≡ number t p

module _ (f s : List ℕ) (k : ℕ) where
  larger_ind : (P : ℕ → Type 0) (m p : ℕ) → (number s p ≤ 255 → P (max m (number s p))) → P m → P (larger s m p)
  larger_ind P m p h i = cond_both (numbered (number s p)) (max m (number s p)) m P (λ e. h (leb-true (number s p) 255 e)) (λ _. i)

  pub peak_le : peak f s k ≤ 255
  peak_le = folded_ind (λ m. m ≤ 255) (larger s) 0 (places f k) (omega arith) (λ m p _ h. larger_ind (λ m. m ≤ 255) m p (λ l. omega arith) h)

  -- no number is larger
  pub peak_above : (p : ℕ) → In p (places f k) → number s p ≤ 255 → number s p ≤ peak f s k
  peak_above p i l = folded_gets (λ _. Unit {0}) (λ m. number s p ≤ m) (larger s) p (λ _ _ _. tt)
      (λ m _. let e = cond-true (numbered (number s p)) (max m (number s p)) m (le-leb (number s p) 255 l) in omega arith)
      (λ m q h. larger_ind (λ m. number s p ≤ m) m q (λ _. omega arith) h) (places f k) i 0 tt

  -- it is one of them, or 0
  pub peak_met : (peak f s k ≡ 0) ⊎ ((p : ℕ) × In p (places f k) × (number s p ≤ 255) × (number s p ≡ peak f s k))
  peak_met = folded_ind Met (larger s) 0 (places f k) (inl refl) (λ m p i h. larger_ind Met m p (λ l. pick m p i l h (cases_lt (number s p) m)) h)
    where
      Met : ℕ → Type 0
      Met d = (d ≡ 0) ⊎ ((p : ℕ) × In p (places f k) × (number s p ≤ 255) × (number s p ≡ d))

      pick : (m p : ℕ) → In p (places f k) → number s p ≤ 255 → Met m → (number s p < m) ⊎ (m ≤ number s p) → Met (max m (number s p))
      pick m p i l h (inl o) = let e : m ≡ max m (number s p) = omega arith in subst Met e h
      pick m p i l h (inr o) = inr (p, i, l, omega arith)

pub peak_same : (f s t : List ℕ) (k : ℕ) → Same f k s t → peak f s k ≡ peak f t k
peak_same f s t k h = folded_same (larger s) (larger t) 0 (places f k) (λ m p i. rw (h p i))

-- the sheet with peaks: the entries of the methods lie below every place
pub entry_low : (f : List ℕ) (k : ℕ) → k < methods f → entry k < tables_end f
entry_low f k h = go (methods f) (constants f) h
  where
    go : (m c : ℕ) → k < m → 13 + 10 * k < 13 + 10 * m + 2 * c
    go m c h = omega arith

module _ (f s : List ℕ) (n : ℕ) where
  abbrev write : List ℕ → ℕ → List ℕ
  write t k = set t (entry k) (peak f s k)

  pub peaks_length : length (peaks_to f s n) ≡ length s
  peaks_length = folded_ind (λ t. length t ≡ length s) write s (upto n) refl (λ t k _ h. length-set t (entry k) (peak f s k) ∙ h)

  pub peaks_other : (p : ℕ) → ((k : ℕ) → k < n → p ≡ entry k → ⊥) → number (peaks_to f s n) p ≡ number s p
  peaks_other p h = folded_upto_ind (λ t. number t p ≡ number s p) write s n refl (λ t k l w. number-set_other t (entry k) (peak f s k) p (h k l) ∙ w)

  -- each method's entry has its peak
  pub peaks_entry : (k : ℕ) → k < n → entry k < length s → number (peaks_to f s n) (entry k) ≡ peak f s k
  peaks_entry k l h = folded_gets (λ t. length t ≡ length s) (λ t. number t (entry k) ≡ peak f s k) write k
      (λ t j w. length-set t (entry j) (peak f s j) ∙ w)
      (λ t w. number-set_same t (entry k) (peak f s k) (omega arith))
      (λ t j w. pick t j w (number-set_cases t (entry j) (peak f s j) (entry k)))
      (upto n) (in_upto n k l) s refl
    where
      pick : (t : List ℕ) (j : ℕ) → number t (entry k) ≡ peak f s k → ((entry k ≡ entry j) × (number (write t j) (entry k) ≡ peak f s j)) ⊎ (number (write t j) (entry k) ≡ number t (entry k)) → number (write t j) (entry k) ≡ peak f s k
      pick t j w (inl r) = let e : j ≡ k = entries r.0 in r.1 ∙ ap (peak f s) e
        where
          entries : 13 + 10 * k ≡ 13 + 10 * j → j ≡ k
          entries e = omega arith
      pick t j w (inr r) = r ∙ w

-- the numbers of the places stay, and so do the peaks
module _ (f : List ℕ) (g : Accepted f) (s : List ℕ) (n : ℕ) (h : n ≤ methods f) where
  pub peaks_same : (k : ℕ) → k < methods f → Same f k (peaks_to f s n) s
  peaks_same k l p m = peaks_other f s n p (λ j i e. apart (entry j) (tables_end f) (entry_low f j (omega arith)) (place_bounds f g k p l m).0 e)
    where
      apart : (e b : ℕ) → e < b → b ≤ p → p ≡ e → ⊥
      apart e b x y z = omega arith

  pub peaks_peak : (k : ℕ) → k < methods f → peak f (peaks_to f s n) k ≡ peak f s k
  peaks_peak k l = peak_same f (peaks_to f s n) s k (peaks_same k l)
