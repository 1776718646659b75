-- The tally and the peaks, method by method as a loop goes. Assumes nothing.
use Rattle.std.proofs.Common.{◌≡◌, ℕ, ◌+◌, max, Bool, cond, List, [], ◌∷◌, ◌++◌, map, set, count_by, sym, refl, ap, ◌∙◌, append_assoc, append-nil, arith}
use Rattle.std.proofs.lemmas.List.Sums.{sum_by-cons, sum_by-append}
use Rattle.format.specs.Search.{upto}
use Rattle.format.specs.Layout.{entry}
use Rattle.bytecode.specs.Places.{Point, points_of, points_from, places}
use Rattle.verifier.specs.Numbering.{number, numbered, peak, count_to, largest_to, peaks_to}
use Rattle.verifier.proofs.Folds.{folded_none, folded_more, upto_push}
use Rattle.verifier.proofs.Places.{point}

pub largest_none : (f s : List ℕ) → largest_to f s 0 ≡ 0
largest_none f s = folded_none (λ m k. max m (peak f s k)) 0

pub largest_more : (f s : List ℕ) (n : ℕ) → largest_to f s (n + 1) ≡ max (largest_to f s n) (peak f s n)
largest_more f s n = folded_more (λ m k. max m (peak f s k)) 0 n

pub peaks_none : (f s : List ℕ) → peaks_to f s 0 ≡ s
peaks_none f s = folded_none (λ t k. set t (entry k) (peak f s k)) s

pub peaks_more : (f s : List ℕ) (n : ℕ) → peaks_to f s (n + 1) ≡ set (peaks_to f s n) (entry n) (peak f s n)
peaks_more f s n = folded_more (λ t k. set t (entry k) (peak f s k)) s n

-- the points of one more method
points_push : (f : List ℕ) (ks : List ℕ) (k : ℕ) → points_from f (ks ++ (k ∷ [])) ≡ points_from f ks ++ points_of f k
unfolding points_from
points_push f [] k = append-nil (points_of f k)
points_push f (j ∷ ks) k = ap (λ xs. points_of f j ++ xs) (points_push f ks k) ∙ sym (append_assoc (points_of f j) (points_from f ks) (points_of f k))

pub points_none : (f : List ℕ) → points_from f (upto 0) ≡ []
unfolding points_from
points_none f = refl

pub points_more : (f : List ℕ) (n : ℕ) → points_from f (upto (n + 1)) ≡ points_from f (upto n) ++ points_of f n
points_more f n = ap (points_from f) (upto_push n) ∙ points_push f (upto n) n

pub count_none : (f s : List ℕ) → count_to f s 0 ≡ 0
count_none f s = ap (count_by (λ (x : Point). numbered (number s x.place))) (points_none f)

pub count_more : (f s : List ℕ) (n : ℕ) → count_to f s (n + 1) ≡ count_to f s n + count_by (λ p. numbered (number s p)) (places f n)
count_more f s n =
    ap (count_by has) (points_more f n) ∙ sum_by-append (λ x. cond (has x) 1 0) (points_from f (upto n)) (points_of f n) ∙
    ap (λ m. count_to f s n + m) (of (places f n))
  where
    has : Point → Bool
    has x = numbered (number s x.place)

    of : (ps : List ℕ) → count_by has (map (point n) ps) ≡ count_by (λ p. numbered (number s p)) ps
    of [] = refl
    of (p ∷ ps) =
        let a = sum_by-cons (λ x. cond (has x) 1 0) (point n p) (map (point n) ps) in
        let b = sum_by-cons (λ p. cond (numbered (number s p)) 1 0) p ps in
        let c = of ps in
        omega arith
