-- Nothing is left to number in the numbering: after as many passes as there are places another gives no number. Assumes nothing.
use Rattle.std.proofs.Common.{◌≡◌, ℕ, ◌<◌, ◌≤◌, Bool, true, false, ◌&&◌, eqb, ◌⊎◌, List, length, set, fold, count_by, sym, refl, ap, ◌∙◌, subst, inl, inr, arith, length-set}
use Rattle.std.proofs.lemmas.List.Sums.{count_by-le-length}
use Rattle.std.proofs.lemmas.Bool.{both_ways, eqb-true, eq-eqb, leb-true, le-leb, and_parts, and_from, cond-true, cond-false, cond_both}
use Rattle.format.specs.Search.{upto}
use Rattle.format.specs.Layout.{methods, code_address}
use Rattle.format.specs.Parts.{Accepted}
use Rattle.format.proofs.Finds.{In, in_upto}
use Rattle.bytecode.specs.Places.{Point, points, places, is_place, successors}
use Rattle.verifier.specs.Numbering.{blank, number, numbered, depth_after, balanced, give, give_on, pass, blanks, starts, numbering}
use Rattle.verifier.specs.Verdicts.{Counts, none_at_start, result_onward}
use Rattle.verifier.specs.Worklist.{Counted, Complete}
use Rattle.verifier.proofs.Folds.{folded_ind, folded_upto_ind, folded_gets, folded_or, folded_settles}
use Rattle.verifier.proofs.Entries.{number-set_same, number-set_cases, fewer_blank, blanks_blank, blanks_length}
use Rattle.verifier.proofs.Places.{point, points_in, in_points, is_place_in, in_is_place, start_is_place, place_bounds, places_apart}
use Rattle.verifier.proofs.Rule.{balanced_parts}

-- what holds of a sheet, holds after a gift if it lasts under the write
pub give_ind : (P : List ℕ → Type 0) (f : List ℕ) (k d : ℕ) (t : List ℕ) (q : ℕ) → P t → (In q (places f k) → number t q ≡ blank → P (set t q d)) → P (give f k d t q)
give_ind P f k d t q h step =
    cond_both (is_place f k q && eqb (number t q) blank) (set t q d) t P
    (λ e. let r = and_parts (is_place f k q) (eqb (number t q) blank) e in step (is_place_in f k q r.0) (eqb-true (number t q) blank r.1))
    (λ _. h)

-- how many points are blank
abbrev blank_at : List ℕ → Point → Bool
blank_at t x = eqb (number t x.place) blank

abbrev blank_count : List ℕ → List ℕ → ℕ
blank_count f t = count_by (blank_at t) (points f)

-- a sheet that the passes make: its numbers are depths of ways
pub record Made (f t : List ℕ) : Type 0 where
  pub long : length t ≡ length f
  pub entry : (p : ℕ) → (number t p ≡ blank) ⊎ ((k : ℕ) × (k < methods f) × In p (places f k) × (number t p ≤ 255) × Counts f k p (number t p))

abbrev Begun : List ℕ → List ℕ → Type 0
Begun f t = (k : ℕ) → k < methods f → number t (code_address f k) ≡ 0

module _ (f : List ℕ) (g : Accepted f) where
  made_set : (t : List ℕ) (k q d : ℕ) → Made f t → k < methods f → In q (places f k) → d ≤ 255 → Counts f k q d → Made f (set t q d)
  made_set t k q d h l m s c = record { long = length-set t q d ∙ h.long; entry = λ p. go p (number-set_cases t q d p) (h.entry p) }
    where
      Entry : ℕ → ℕ → Type 0
      Entry p n = (n ≡ blank) ⊎ ((k : ℕ) × (k < methods f) × In p (places f k) × (n ≤ 255) × Counts f k p n)

      go : (p : ℕ) → ((p ≡ q) × (number (set t q d) p ≡ d)) ⊎ (number (set t q d) p ≡ number t p) → Entry p (number t p) → Entry p (number (set t q d) p)
      go p (inl r) o = subst (Entry p) (sym r.1) (subst (λ z. Entry z d) (sym r.0) (inr (k, l, m, s, c)))
      go p (inr r) o = subst (Entry p) (sym r) o

  -- the way to a numbered place
  made_counts : (t : List ℕ) → Made f t → (k p : ℕ) → k < methods f → In p (places f k) → number t p ≤ 255 → Counts f k p (number t p)
  made_counts t h k p l m n = go (h.entry p)
    where
      go : (number t p ≡ blank) ⊎ ((k : ℕ) × (k < methods f) × In p (places f k) × (number t p ≤ 255) × Counts f k p (number t p)) → Counts f k p (number t p)
      go (inl e) = absurd (omega arith)
      go (inr r) = subst (λ (z : ℕ). Counts f z p (number t p)) (places_apart f g r.0 k p r.1 l r.2 m) r.4

  -- a write at a blank place leaves fewer blank
  fewer : (t : List ℕ) (k q d : ℕ) → length t ≡ length f → k < methods f → In q (places f k) → number t q ≡ blank → d ≤ 255 → blank_count f (set t q d) < blank_count f t
  fewer t k q d h l m e s = fewer_blank (λ (x : Point). x.place) (points f) (point k q) t d (in_points f k q l m) (let b = place_bounds f g k q l m in omega arith) e s

  -- a gift is not needed, or leaves fewer blank
  abbrev waits : ℕ → List ℕ → ℕ → Bool
  waits k t q = is_place f k q && eqb (number t q) blank

  give_or : (k d : ℕ) → k < methods f → d ≤ 255 → (t : List ℕ) (q : ℕ) → length t ≡ length f →
      ((give f k d t q ≡ t) × (waits k t q ≡ false)) ⊎ (blank_count f (give f k d t q) < blank_count f t)
  give_or k d l s t q h = go (waits k t q) refl
    where
      go : (b : Bool) → waits k t q ≡ b → ((give f k d t q ≡ t) × (waits k t q ≡ false)) ⊎ (blank_count f (give f k d t q) < blank_count f t)
      go true e =
          let r = and_parts (is_place f k q) (eqb (number t q) blank) e in
          inr (subst (λ u. blank_count f u < blank_count f t) (sym (cond-true (waits k t q) (set t q d) t e)) (fewer t k q d h l (is_place_in f k q r.0) (eqb-true (number t q) blank r.1) s))
      go false e = inl (cond-false (waits k t q) (set t q d) t e, e)

  give_length : (k d : ℕ) (t : List ℕ) (q : ℕ) → length t ≡ length f → length (give f k d t q) ≡ length f
  give_length k d t q h = give_ind (λ u. length u ≡ length f) f k d t q h (λ _ _. length-set t q d ∙ h)

  -- no successor of a numbered and balanced place waits for a number
  abbrev ready : List ℕ → Point → Bool
  ready t x = numbered (number t x.place) && balanced f x.place (number t x.place)

  abbrev Idle : List ℕ → Point → Type 0
  Idle t x = ready t x ≡ true → (q : ℕ) → In q (successors f x.place) → waits x.method t q ≡ false

  give_on_or : (t : List ℕ) (x : Point) → x.method < methods f → length t ≡ length f →
      ((give_on f t x ≡ t) × Idle t x) ⊎ (blank_count f (give_on f t x) < blank_count f t)
  give_on_or t x l h = go (ready t x) refl
    where
      d : ℕ
      d = depth_after f x.place (number t x.place)

      all : List ℕ
      all = fold (give f x.method d) t (successors f x.place)

      given : ready t x ≡ true → ((all ≡ t) × ((q : ℕ) → In q (successors f x.place) → waits x.method t q ≡ false)) ⊎ (blank_count f all < blank_count f t) →
          ((give_on f t x ≡ t) × Idle t x) ⊎ (blank_count f (give_on f t x) < blank_count f t)
      given e (inl r) = inl (cond-true (ready t x) all t e ∙ r.0, λ _. r.1)
      given e (inr r) = inr (subst (λ u. blank_count f u < blank_count f t) (sym (cond-true (ready t x) all t e)) r)

      go : (b : Bool) → ready t x ≡ b → ((give_on f t x ≡ t) × Idle t x) ⊎ (blank_count f (give_on f t x) < blank_count f t)
      go true e =
          let s = (balanced_parts f x.place (number t x.place) (and_parts (numbered (number t x.place)) (balanced f x.place (number t x.place)) e).1).1 in
          given e (folded_or (give f x.method d) (blank_count f) (λ u q. waits x.method u q ≡ false) (λ u. length u ≡ length f) (successors f x.place)
          (λ u q _ w. give_or x.method d l s u q w) (λ u q _ w. give_length x.method d u q w) t h)
      go false e = inl (cond-false (ready t x) all t e, λ y. absurd (both_ways (ready t x) e y))

  -- a pass over made sheets
  abbrev Going : List ℕ → Type 0
  Going t = Made f t × Begun f t

  going_set : (t : List ℕ) (k q d : ℕ) → Going t → k < methods f → In q (places f k) → number t q ≡ blank → d ≤ 255 → Counts f k q d → Going (set t q d)
  going_set t k q d h l m e s c = (made_set t k q d h.0 l m s c, λ j i. go j i (number-set_cases t q d (code_address f j)))
    where
      go : (j : ℕ) → j < methods f → ((code_address f j ≡ q) × (number (set t q d) (code_address f j) ≡ d)) ⊎ (number (set t q d) (code_address f j) ≡ number t (code_address f j)) → number (set t q d) (code_address f j) ≡ 0
      go j i (inl r) = let z = h.1 j i in let y = ap (number t) r.0 in absurd (omega arith)
      go j i (inr r) = r ∙ h.1 j i

  going_on : (t : List ℕ) (x : Point) → In x (points f) → Going t → Going (give_on f t x)
  going_on t x i h = cond_both (ready t x) (fold (give f k d) t (successors f x.place)) t Going given (λ _. h)
    where
      k : ℕ
      k = x.method

      d : ℕ
      d = depth_after f x.place (number t x.place)

      given : ready t x ≡ true → Going (fold (give f k d) t (successors f x.place))
      given e =
          let r = and_parts (numbered (number t x.place)) (balanced f x.place (number t x.place)) e in
          let y = points_in f x i in
          let c = made_counts t h.0 k x.place y.0 y.1 (leb-true (number t x.place) 255 r.0) in
          let s = (balanced_parts f x.place (number t x.place) r.1).1 in
          folded_ind Going (give f k d) t (successors f x.place) h (λ u q j w. give_ind Going f k d u q w (λ m b. going_set u k q d w y.0 m b s (result_onward c j)))

  pass_kept : (t : List ℕ) → Going t → Going (pass f t)
  pass_kept t h = folded_ind Going (give_on f) t (points f) h (λ u x i w. going_on u x i w)

  pass_or : (t : List ℕ) → Going t → ((pass f t ≡ t) × ((x : Point) → In x (points f) → Idle t x)) ⊎ (blank_count f (pass f t) < blank_count f t)
  pass_or t h = folded_or (give_on f) (blank_count f) Idle Going (points f) (λ u x i w. give_on_or u x (points_in f x i).0 w.0.long) (λ u x i w. going_on u x i w) t h

  -- the starts
  starts_made : Made f (starts f)
  starts_made = folded_upto_ind (Made f) (λ s k. set s (code_address f k) 0) (blanks f) (methods f)
      (record { long = blanks_length f; entry = λ p. inl (blanks_blank f p) })
      (λ t k l h. made_set t k (code_address f k) 0 h l (start_is_place f g k l) (omega arith) none_at_start)

  starts_begun : Begun f (starts f)
  starts_begun k l = folded_gets (λ t. length t ≡ length f) (λ t. number t (code_address f k) ≡ 0) (λ t k. set t (code_address f k) 0) k
      (λ t j h. length-set t (code_address f j) 0 ∙ h)
      (λ t h. number-set_same t (code_address f k) 0 (let b = place_bounds f g k (code_address f k) l (start_is_place f g k l) in omega arith))
      (λ t j h. go t j h (number-set_cases t (code_address f j) 0 (code_address f k)))
      (upto (methods f)) (in_upto (methods f) k l) (blanks f) (blanks_length f)
    where
      go : (t : List ℕ) (j : ℕ) → number t (code_address f k) ≡ 0 → ((code_address f k ≡ code_address f j) × (number (set t (code_address f j) 0) (code_address f k) ≡ 0)) ⊎ (number (set t (code_address f j) 0) (code_address f k) ≡ number t (code_address f k)) → number (set t (code_address f j) 0) (code_address f k) ≡ 0
      go t j h (inl r) = r.1
      go t j h (inr r) = r ∙ h

  numbering_going : Going (numbering f)
  unfolding numbering
  numbering_going = folded_ind Going (λ s _. pass f s) (starts f) (points f) (starts_made, starts_begun) (λ t _ _ h. pass_kept t h)

  numbering_idle : (x : Point) → In x (points f) → Idle (numbering f) x
  unfolding numbering
  numbering_idle = folded_settles (pass f) (blank_count f) (λ t. (x : Point) → In x (points f) → Idle t x) Going pass_or pass_kept (starts f) (points f) (starts_made, starts_begun) (count_by-le-length (blank_at (starts f)) (points f))

  -- nothing is left to number
  pub numbering_complete : Complete f (numbering f)
  numbering_complete = record {
    long = h.0.long;
    closed = λ k l. record {
      starts = h.1 k l;
      counted = λ p m. counted k p l m (h.0.entry p);
      settled = λ p m n b q i j. settled k p l m n b q i j (h.0.entry q);
    };
    others = λ p none. other p none (h.0.entry p);
  }
    where
      h : Going (numbering f)
      h = numbering_going

      Entry : ℕ → Type 0
      Entry p = (number (numbering f) p ≡ blank) ⊎ ((k : ℕ) × (k < methods f) × In p (places f k) × (number (numbering f) p ≤ 255) × Counts f k p (number (numbering f) p))

      counted : (k p : ℕ) → k < methods f → In p (places f k) → Entry p → Counted f k (numbering f) p
      counted k p l m (inl e) = inl e
      counted k p l m (inr r) = inr (r.3, made_counts (numbering f) h.0 k p l m r.3)

      settled : (k p : ℕ) → k < methods f → In p (places f k) → number (numbering f) p ≤ 255 → balanced f p (number (numbering f) p) ≡ true →
          (q : ℕ) → In q (successors f p) → In q (places f k) → Entry q → number (numbering f) q ≤ 255
      settled k p l m n b q i j (inr r) = r.3
      settled k p l m n b q i j (inl e) = absurd (both_ways (waits k (numbering f) q)
          (numbering_idle (point k p) (in_points f k p l m) (and_from (numbered (number (numbering f) p)) (balanced f p (number (numbering f) p)) (le-leb (number (numbering f) p) 255 n) b) q i)
          (and_from (is_place f k q) (eqb (number (numbering f) q) blank) (in_is_place f k q j) (eq-eqb (number (numbering f) q) blank e)))

      other : (p : ℕ) → ((k : ℕ) → k < methods f → In p (places f k) → ⊥) → Entry p → number (numbering f) p ≡ blank
      other p none (inl e) = e
      other p none (inr r) = absurd (none r.0 r.1 r.2)
