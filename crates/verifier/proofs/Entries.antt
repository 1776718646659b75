-- What a sheet says at a place after a write, and what the blank sheet says. Assumes nothing.
use Rattle.std.proofs.Common.{◌≡◌, ℕ, ◌<◌, ◌≤◌, true, eqb, ◌⊎◌, List, length, set, count_by, ap, ◌∙◌, inl, inr, arith}
use lib.ListN.{length-replicate, get_or-replicate}
use Rattle.std.proofs.lemmas.List.{get_or-set_same, get_or-set_other, set_past, get_or_past}
use Rattle.std.proofs.lemmas.Bool.{cases_eq, cases_lt, eq-eqb, ne_eqb}
use Rattle.format.proofs.Finds.{In}
use Rattle.verifier.specs.Numbering.{blank, number, blanks}
use Rattle.verifier.proofs.Folds.{count_by_lt}

pub number-set_same : (s : List ℕ) (q d : ℕ) → q < length s → number (set s q d) q ≡ d
number-set_same s q d h = get_or-set_same s q d blank h

pub number-set_other : (s : List ℕ) (q d p : ℕ) → (p ≡ q → ⊥) → number (set s q d) p ≡ number s p
number-set_other s q d p h = get_or-set_other s q p d blank h

-- after a write of d at q: d there if the sheet reaches so far, else what it said before
pub number-set_cases : (s : List ℕ) (q d p : ℕ) → ((p ≡ q) × (number (set s q d) p ≡ d)) ⊎ (number (set s q d) p ≡ number s p)
number-set_cases s q d p = go (cases_eq p q) (cases_lt q (length s))
  where
    go : (p ≡ q) ⊎ (p ≡ q → ⊥) → (q < length s) ⊎ (length s ≤ q) → ((p ≡ q) × (number (set s q d) p ≡ d)) ⊎ (number (set s q d) p ≡ number s p)
    go (inl e) (inl l) = inl (e, ap (λ (z : ℕ). number (set s q d) z) e ∙ number-set_same s q d l)
    go (inl e) (inr l) = inr (ap (λ (t : List ℕ). number t p) (set_past s q d l))
    go (inr n) l = inr (number-set_other s q d p n)

-- a number for a blank entry leaves fewer blank, among those that xs stand at
pub fewer_blank : {A : Type 0} (at : A → ℕ) (xs : List A) (x : A) (s : List ℕ) (d : ℕ) → In x xs → at x < length s → number s (at x) ≡ blank → d ≤ 255 →
    count_by (λ y. eqb (number (set s (at x) d) (at y)) blank) xs < count_by (λ y. eqb (number s (at y)) blank) xs
fewer_blank {A} at xs x s d i l e n = count_by_lt (λ y. eqb (number s (at y)) blank) (λ y. eqb (number (set s (at x) d) (at y)) blank) was xs x i
    (eq-eqb (number s (at x)) blank e)
    (ne_eqb (number (set s (at x) d) (at x)) blank (λ z. let v = number-set_same s (at x) d l in omega arith))
  where
    was : (y : A) → eqb (number (set s (at x) d) (at y)) blank ≡ true → eqb (number s (at y)) blank ≡ true
    was y h = go (number-set_cases s (at x) d (at y))
      where
        go : ((at y ≡ at x) × (number (set s (at x) d) (at y) ≡ d)) ⊎ (number (set s (at x) d) (at y) ≡ number s (at y)) → eqb (number s (at y)) blank ≡ true
        go (inl r) = eq-eqb (number s (at y)) blank (ap (number s) r.0 ∙ e)
        go (inr r) = rw r at h

pub blanks_blank : (f : List ℕ) (p : ℕ) → number (blanks f) p ≡ blank
blanks_blank f p = go (cases_lt p (length f))
  where
    go : (p < length f) ⊎ (length f ≤ p) → number (blanks f) p ≡ blank
    go (inl l) = get_or-replicate (length f) p blank blank l
    go (inr l) = let e = length-replicate (length f) blank in get_or_past (blanks f) p blank (omega arith)

pub blanks_length : (f : List ℕ) → length (blanks f) ≡ length f
blanks_length f = length-replicate (length f) blank
