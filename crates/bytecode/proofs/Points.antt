-- A search through the places of all methods, method by method. Assumes nothing.
use Rattle.std.proofs.Common.{◌≡◌, ℕ, suc, ◌+◌, ◌-◌, ◌<◌, ◌≤◌, Bool, true, false, cond, List, [], ◌∷◌, ◌++◌, map, Some, None, Option, sym, refl, ap, ◌∙◌, add-one, arith}
use Rattle.std.specs.Option.{option_map}
use Rattle.format.specs.Layout.{methods}
use Rattle.format.specs.Search.{first, from, ◌else◌}
use Rattle.format.proofs.Finds.{first_nil, mapped_none}
use Rattle.bytecode.specs.Places.{Point, places, points_of, points_from, points}

abbrev pub point : ℕ → ℕ → Point
point k p = record { method = k; place = p }

first_append : {A : Type 0} (t : A → Bool) (xs ys : List A) → first t (xs ++ ys) ≡ (first t xs else first t ys)
first_append t [] ys = refl
first_append t (x ∷ xs) ys = go (t x) (first_append t xs ys)
  where
    go : (b : Bool) → first t (xs ++ ys) ≡ (first t xs else first t ys) → cond b (Some x) (first t (xs ++ ys)) ≡ (cond b (Some x) (first t xs) else first t ys)
    go true ih = refl
    go false ih = ih

-- a search of a method's places by the place alone
first_of : (t : Point → Bool) (k : ℕ) (xs : List ℕ) → option_map (λ (x : Point). x.place) (first t (map (point k) xs)) ≡ first (λ p. t (point k p)) xs
first_of t k [] = refl
first_of t k (x ∷ xs) = go (t (point k x)) (first_of t k xs)
  where
    go : (b : Bool) → option_map (λ (x : Point). x.place) (first t (map (point k) xs)) ≡ first (λ p. t (point k p)) xs →
        option_map (λ (x : Point). x.place) (cond b (Some (point k x)) (first t (map (point k) xs))) ≡ cond b (Some x) (first (λ p. t (point k p)) xs)
    go true ih = refl
    go false ih = ih

-- the points of the methods from k on
abbrev pub points_left : List ℕ → ℕ → List Point
points_left f k = points_from f (from k (methods f - k))

left_more : (f : List ℕ) (k : ℕ) → k < methods f → points_left f k ≡ points_of f k ++ points_left f (k + 1)
unfolding points_from
left_more f k l = let e : methods f - k ≡ suc (methods f - (k + 1)) = omega arith in rw (e, add-one k)

left_none : (f : List ℕ) (k : ℕ) → methods f ≤ k → points_left f k ≡ []
unfolding points_from
left_none f k l = let e : methods f - k ≡ 0 = omega arith in rw e

-- what the search knows after each method, where it stops, and at the end
module _ (f : List ℕ) (t : Point → Bool) where
  more : (k : ℕ) → k < methods f → first t (points_left f k) ≡ (first t (points_of f k) else first t (points_left f (k + 1)))
  more k l = ap (first t) (left_more f k l) ∙ first_append t (points_of f k) (points_left f (k + 1))

  pub points_go_on : (k : ℕ) → first t (points_left f k) ≡ first t (points f) → k < methods f → None ≡ first (λ p. t (point k p)) (places f k) →
      first t (points_left f (k + 1)) ≡ first t (points f)
  points_go_on k h l n = let z = mapped_none (λ (x : Point). x.place) (first t (points_of f k)) (first_of t k (places f k) ∙ sym n) in let m = more k l in cc

  pub points_stop : (k p : ℕ) → first t (points_left f k) ≡ first t (points f) → k < methods f → Some p ≡ first (λ p. t (point k p)) (places f k) →
      option_map (λ (x : Point). x.place) (first t (points f)) ≡ Some p
  points_stop k p h l s = ap (option_map (λ (x : Point). x.place)) (sym h ∙ more k l) ∙ found (first t (points_of f k)) (first_of t k (places f k) ∙ sym s)
    where
      found : (o : Option Point) → option_map (λ (x : Point). x.place) o ≡ Some p → option_map (λ (x : Point). x.place) (o else first t (points_left f (k + 1))) ≡ Some p
      found (Some x) e = e
      found None e = let z : ◌≡◌ {A = ℕ} 0 1 = cc in absurd (omega arith)

  pub points_end : (k : ℕ) → first t (points_left f k) ≡ first t (points f) → methods f ≤ k → option_map (λ (x : Point). x.place) (first t (points f)) ≡ None
  points_end k h l = ap (option_map (λ (x : Point). x.place)) (sym h ∙ ap (first t) (left_none f k l) ∙ first_nil t)
