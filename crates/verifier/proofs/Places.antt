-- Where the places of a file lie, and which point is whose place. Assumes nothing.
use Rattle.std.proofs.Common.{◌≡◌, ℕ, zero, suc, ◌+◌, ◌<◌, ◌≤◌, Bool, true, false, cond, not, eqb, ltb, leb, ◌⊎◌, List, [], ◌∷◌, ◌++◌, map, length, sym, refl, ap, ◌∙◌, subst, inl, inr, arith}
use mathlib.Core.List.Memᴰ
use Rattle.std.proofs.lemmas.Bool.{both_ways, not-true, eqb-true, eqb-false, eq-eqb, cases_lt, cases_order, and_parts, ltb-true, lt-ltb, le-ltb}
use Rattle.format.specs.Search.{any, upto}
use Rattle.format.specs.Layout.{byte, methods, tables_end, code_address, code_size, code_due, code_none}
use Rattle.format.specs.Parts.{Accepted}
use Rattle.format.proofs.Finds.{In, any_some, some_any, any_false, in_upto, upto_in}
use Rattle.format.proofs.Sounds.{sound}
use Rattle.format.proofs.Answered.{code_before, code_fits}
use Rattle.bytecode.specs.Opcodes.{length_of}
use Rattle.bytecode.specs.Places.{Point, points, points_of, points_from, places, decoded, whole, next, code_end, is_place}

-- one turn of the decoding: a place is the first, or comes after it where that is whole
decoded_cases : (f : List ℕ) (e q n p : ℕ) → In p (decoded f e q (suc n)) → (q < e) × ((p ≡ q) ⊎ ((whole f e q ≡ true) × In p (decoded f e (next f q) n)))
unfolding decoded
decoded_cases f e q n p m = go (ltb q e) refl m
  where
    later : (w : Bool) → whole f e q ≡ w → In p (cond w (decoded f e (next f q) n) []) → (whole f e q ≡ true) × In p (decoded f e (next f q) n)
    later true w i = (w, i)
    later false w i = absurd (Memᴰ.not-nil i)

    here : (p ≡ q) ⊎ In p (cond (whole f e q) (decoded f e (next f q) n) []) → (p ≡ q) ⊎ ((whole f e q ≡ true) × In p (decoded f e (next f q) n))
    here (inl s) = inl s
    here (inr i) = inr (later (whole f e q) refl i)

    go : (b : Bool) → ltb q e ≡ b → In p (cond b (q ∷ cond (whole f e q) (decoded f e (next f q) n) []) []) → (q < e) × ((p ≡ q) ⊎ ((whole f e q ≡ true) × In p (decoded f e (next f q) n)))
    go true b i = (ltb-true q e b, here (Memᴰ.cases_cons i))
    go false b i = absurd (Memᴰ.not-nil i)

decoded_first : (f : List ℕ) (e q n : ℕ) → q < e → In q (decoded f e q (suc n))
unfolding decoded
decoded_first f e q n l = rw (lt-ltb q e l) (Memᴰ.head refl)

decoded_later : (f : List ℕ) (e q n p : ℕ) → q < e → whole f e q ≡ true → In p (decoded f e (next f q) n) → In p (decoded f e q (suc n))
unfolding decoded
decoded_later f e q n p l w i = rw (lt-ltb q e l, w) (Memᴰ.tail i)

-- a place lies from where the decoding begins to where it ends
decoded_in : (f : List ℕ) (e q n p : ℕ) → In p (decoded f e q n) → (q ≤ p) × (p < e)
unfolding decoded
decoded_in f e q zero p m = absurd (Memᴰ.not-nil m)
decoded_in f e q (suc n) p m = go (decoded_cases f e q n p m) (decoded_in f e (next f q) n p)
  where
    go : (q < e) × ((p ≡ q) ⊎ ((whole f e q ≡ true) × In p (decoded f e (next f q) n))) →
        (In p (decoded f e (next f q) n) → (next f q ≤ p) × (p < e)) → (q ≤ p) × (p < e)
    go (l, inl s) ih = omega arith
    go (l, inr r) ih = let h = ih r.1 in omega arith

-- the instruction after a whole one is a place too, if it begins before the end
decoded_next : (f : List ℕ) (e q n p : ℕ) → In p (decoded f e q n) → whole f e p ≡ true → next f p < e → e ≤ q + n → In (next f p) (decoded f e q n)
unfolding decoded
decoded_next f e q zero p m w l h = absurd (Memᴰ.not-nil m)
decoded_next f e q (suc n) p m w l h = go (decoded_cases f e q n p m) (decoded_next f e (next f q) n p)
  where
    after : (r : ℕ) → whole f e r ≡ true → r < next f r
    after r w = let z = eqb-false (length_of (byte f r)) 0 (not-true (eqb (length_of (byte f r)) 0) (and_parts (not (eqb (length_of (byte f r)) 0)) (leb (next f r) e) w).0) in omega arith

    some : (r n : ℕ) → r < e → e ≤ r + n → In r (decoded f e r n)
    some r zero l h = absurd (omega arith)
    some r (suc n) l h = decoded_first f e r n l

    go : (q < e) × ((p ≡ q) ⊎ ((whole f e q ≡ true) × In p (decoded f e (next f q) n))) →
        (In p (decoded f e (next f q) n) → whole f e p ≡ true → next f p < e → e ≤ next f q + n → In (next f p) (decoded f e (next f q) n)) → In (next f p) (decoded f e q (suc n))
    go (b, inl s) ih =
        let w' : whole f e q ≡ true = rw s at w in
        let l' : next f q < e = rw s at l in
        let a = after q w' in
        subst (λ z. In (next f z) (decoded f e q (suc n))) (sym s) (decoded_later f e q n (next f q) b w' (some (next f q) n l' (omega arith)))
    go (b, inr r) ih = let a = after q r.0 in decoded_later f e q n (next f p) b r.0 (ih r.1 w l (omega arith))

decoded_few : (f : List ℕ) (e q n : ℕ) → length (decoded f e q n) ≤ n
unfolding decoded
decoded_few f e q zero = omega arith
decoded_few f e q (suc n) = go (ltb q e) (whole f e q) (decoded_few f e (next f q) n)
  where
    go : (b w : Bool) → length (decoded f e (next f q) n) ≤ n → length (cond b (q ∷ cond w (decoded f e (next f q) n) []) []) ≤ suc n
    go true true h = omega arith
    go true false h = omega arith
    go false w h = omega arith

pub is_place_in : (f : List ℕ) (k p : ℕ) → is_place f k p ≡ true → In p (places f k)
is_place_in f k p e = let r = any_some (eqb p) (places f k) e in subst (λ (z : ℕ). In z (places f k)) (sym (eqb-true p r.0 r.2)) r.1

pub in_is_place : (f : List ℕ) (k p : ℕ) → In p (places f k) → is_place f k p ≡ true
in_is_place f k p i = some_any (eqb p) (places f k) p i (eq-eqb p p refl)

-- a method has at most as many places as bytes
pub places_few : (f : List ℕ) (k : ℕ) → length (places f k) ≤ code_size f k
places_few f k = decoded_few f (code_end f k) (code_address f k) (code_size f k)

-- the next instruction of a whole one, and where it is a place
pub next_place : (f : List ℕ) (k p : ℕ) → In p (places f k) → whole f (code_end f k) p ≡ true → is_place f k (next f p) ≡ ltb (next f p) (code_end f k)
next_place f k p i w = go (cases_lt (next f p) (code_end f k))
  where
    go : (next f p < code_end f k) ⊎ (code_end f k ≤ next f p) → is_place f k (next f p) ≡ ltb (next f p) (code_end f k)
    go (inl l) = in_is_place f k (next f p) (decoded_next f (code_end f k) (code_address f k) (code_size f k) p i w l (omega arith)) ∙ sym (lt-ltb (next f p) (code_end f k) l)
    go (inr l) = none (is_place f k (next f p)) refl ∙ sym (le-ltb (next f p) (code_end f k) l)
      where
        none : (b : Bool) → is_place f k (next f p) ≡ b → b ≡ false
        none true e = let r = decoded_in f (code_end f k) (code_address f k) (code_size f k) (next f p) (is_place_in f k (next f p) e) in absurd (omega arith)
        none false e = refl

-- the point of a place and its method
abbrev pub point : ℕ → ℕ → Point
point k p = record { method = k; place = p }

of_in : (k : ℕ) (ps : List ℕ) (x : Point) → In x (map (point k) ps) → (x.method ≡ k) × In x.place ps
of_in k [] x m = absurd (Memᴰ.not-nil m)
of_in k (p ∷ ps) x m = go (Memᴰ.cases_cons m) (of_in k ps x)
  where
    go : (x ≡ point k p) ⊎ In x (map (point k) ps) → (In x (map (point k) ps) → (x.method ≡ k) × In x.place ps) → (x.method ≡ k) × In x.place (p ∷ ps)
    go (inl e) ih = (ap (λ (y : Point). y.method) e, Memᴰ.head (ap (λ (y : Point). y.place) e))
    go (inr i) ih = let r = ih i in (r.0, Memᴰ.tail r.1)

in_of : (k : ℕ) (ps : List ℕ) (p : ℕ) → In p ps → In (point k p) (map (point k) ps)
in_of k [] p m = absurd (Memᴰ.not-nil m)
in_of k (q ∷ ps) p m = go (Memᴰ.cases_cons m) (in_of k ps p)
  where
    go : (p ≡ q) ⊎ In p ps → (In p ps → In (point k p) (map (point k) ps)) → In (point k p) (map (point k) (q ∷ ps))
    go (inl e) ih = Memᴰ.head (ap (point k) e)
    go (inr i) ih = Memᴰ.tail (ih i)

from_in_points : (f : List ℕ) (ks : List ℕ) (x : Point) → In x (points_from f ks) → In x.method ks × In x.place (places f x.method)
unfolding points_from
from_in_points f [] x m = absurd (Memᴰ.not-nil m)
from_in_points f (k ∷ ks) x m = go (Memᴰ.append_cases (points_of f k) m) (from_in_points f ks x)
  where
    go : In x (points_of f k) ⊎ In x (points_from f ks) → (In x (points_from f ks) → In x.method ks × In x.place (places f x.method)) →
        In x.method (k ∷ ks) × In x.place (places f x.method)
    go (inl i) ih = let r = of_in k (places f k) x i in (Memᴰ.head r.0, subst (λ (z : ℕ). In x.place (places f z)) (sym r.0) r.1)
    go (inr i) ih = let r = ih i in (Memᴰ.tail r.0, r.1)

in_points_from : (f : List ℕ) (ks : List ℕ) (k p : ℕ) → In k ks → In p (places f k) → In (point k p) (points_from f ks)
unfolding points_from
in_points_from f [] k p m i = absurd (Memᴰ.not-nil m)
in_points_from f (j ∷ ks) k p m i = go (Memᴰ.cases_cons m) (λ n. in_points_from f ks k p n i)
  where
    go : (k ≡ j) ⊎ In k ks → (In k ks → In (point k p) (points_from f ks)) → In (point k p) (points_of f j ++ points_from f ks)
    go (inl e) ih = Memᴰ.append_left (points_from f ks) (subst (λ (z : ℕ). In (point k p) (points_of f z)) e (in_of k (places f k) p i))
    go (inr n) ih = Memᴰ.append_right (points_of f j) (ih n)

-- the points of a file are the places of its methods
pub points_in : (f : List ℕ) (x : Point) → In x (points f) → (x.method < methods f) × In x.place (places f x.method)
points_in f x m = let r = from_in_points f (upto (methods f)) x m in (upto_in (methods f) x.method r.0, r.1)

pub in_points : (f : List ℕ) (k p : ℕ) → k < methods f → In p (places f k) → In (point k p) (points f)
in_points f k p h i = in_points_from f (upto (methods f)) k p (in_upto (methods f) k h) i

-- an address is a place of some method or of none
pub place_cases : (f : List ℕ) (p : ℕ) → ((k : ℕ) × (k < methods f) × In p (places f k)) ⊎ ((k : ℕ) → k < methods f → In p (places f k) → ⊥)
place_cases f p = go (any (λ (k : ℕ). is_place f k p) (upto (methods f))) refl
  where
    go : (b : Bool) → any (λ (k : ℕ). is_place f k p) (upto (methods f)) ≡ b → ((k : ℕ) × (k < methods f) × In p (places f k)) ⊎ ((k : ℕ) → k < methods f → In p (places f k) → ⊥)
    go true e = let r = any_some (λ (k : ℕ). is_place f k p) (upto (methods f)) e in inl (r.0, upto_in (methods f) r.0 r.1, is_place_in f r.0 p r.2)
    go false e = inr (λ k l m. both_ways (is_place f k p) (any_false (λ (k : ℕ). is_place f k p) (upto (methods f)) e k (in_upto (methods f) k l)) (in_is_place f k p m))

-- where the places of an accepted file lie
module _ (f : List ℕ) (g : Accepted f) where
  pub start_is_place : (k : ℕ) → k < methods f → In (code_address f k) (places f k)
  start_is_place k h = go (code_address f k) (code_size f k) ((sound f g).method k h).some
    where
      go : (a z : ℕ) → 1 ≤ z → In a (decoded f (a + z) a z)
      go a zero l = absurd (omega arith)
      go a (suc z) l = decoded_first f (a + suc z) a z (omega arith)

  pub place_in : (k p : ℕ) → k < methods f → In p (places f k) → (code_due f k ≤ p) × (p < code_due f k + code_size f k)
  place_in k p h i = let a = ((sound f g).method k h).code in let b = decoded_in f (code_end f k) (code_address f k) (code_size f k) p i in omega arith

  pub place_bounds : (k p : ℕ) → k < methods f → In p (places f k) → (tables_end f ≤ p) × (p < length f)
  place_bounds k p h i =
      let a = ((sound f g).method k h).code in
      let b = place_in k p h i in
      let c = code_fits f k g h in
      let d = after_tables k in
      omega arith
    where
      after_tables : (k : ℕ) → tables_end f ≤ code_due f k
      after_tables zero = let a = code_none f in omega arith
      after_tables (suc k) = let a = code_none f in let b = code_before f 0 (suc k) (omega arith) in omega arith

  -- so a place is an index into the file, and sixteen bits hold it
  pub place_inside : (k p : ℕ) → k < methods f → is_place f k p ≡ true → (p < length f) × (p < 65535)
  place_inside k p h e = let b = place_bounds k p h (is_place_in f k p e) in let s = (sound f g).short in omega arith

  pub start_inside : (k : ℕ) → k < methods f → (code_address f k < length f) × (code_address f k < 65535)
  start_inside k h = place_inside k (code_address f k) h (in_is_place f k (code_address f k) (start_is_place k h))

  -- the places of two methods are apart
  pub places_apart : (j k p : ℕ) → j < methods f → k < methods f → In p (places f j) → In p (places f k) → j ≡ k
  places_apart j k p l m a b = go (cases_order j k) (place_in j p l a) (place_in k p m b)
    where
      go : (j ≡ k) ⊎ ((j < k) ⊎ (k < j)) → (code_due f j ≤ p) × (p < code_due f j + code_size f j) → (code_due f k ≤ p) × (p < code_due f k + code_size f k) → j ≡ k
      go (inl e) x y = e
      go (inr (inl h)) x y = let c = code_before f j k h in absurd (omega arith)
      go (inr (inr h)) x y = let c = code_before f k j h in absurd (omega arith)

  pub starts_apart : (j k : ℕ) → j < methods f → k < methods f → code_address f j ≡ code_address f k → j ≡ k
  starts_apart j k l m e = places_apart j k (code_address f j) l m (start_is_place j l) (subst (λ (p : ℕ). In p (places f k)) (sym e) (start_is_place k m))
