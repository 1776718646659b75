-- The turns of the worklist: what they keep, that they end, and what they lead to. Assumes nothing.
use Rattle.std.proofs.Common.{◌≡◌, ℕ, ◌<◌, ◌≤◌, Bool, true, false, ◌&&◌, eqb, ◌⊎◌, List, [], ◌∷◌, ◌++◌, length, set, fold, count_by, sym, refl, ap, ◌∙◌, subst, inl, inr, arith, length-append, length-set}
use mathlib.Core.List.Memᴰ
use Rattle.std.proofs.lemmas.List.Sums.{count_by-le-length}
use Rattle.std.proofs.lemmas.Bool.{both_ways, eqb-true, eq-eqb, ne_eqb, cases_eq, and_parts, and_from, and_left, and_right, cond-true, cond-false, cond_both}
use Rattle.format.specs.Layout.{methods, code_address}
use Rattle.format.specs.Parts.{Accepted}
use Rattle.format.proofs.Finds.{In}
use Rattle.bytecode.specs.Places.{places, is_place, successors}
use Rattle.verifier.specs.declared.pending.Pending.{Pending}
use Rattle.verifier.specs.Numbering.{blank, number, depth_after, balanced}
use Rattle.verifier.specs.Verdicts.{Counts, none_at_start, result_onward}
use Rattle.verifier.specs.Worklist.{Work, pend, turn, turns_left, Counted, Settled, Spreads, Closed, OnlyMethod}
use Rattle.verifier.proofs.Folds.{folded_ind, folded_gets, count_by_lt}
use Rattle.verifier.proofs.Entries.{number-set_same, number-set_other, number-set_cases, fewer_blank}
use Rattle.verifier.proofs.Places.{is_place_in, in_is_place, start_is_place, place_bounds}
use Rattle.verifier.proofs.Rule.{balanced_parts}

abbrev pub work : List ℕ → List Pending → Work
work s ps = record { sheet = s; pending = ps }

abbrev pub pending : ℕ → ℕ → Pending
pending p d = record { place = p; number = d }

-- what holds of the work, holds after a gift if it lasts under the write and the push
pub pend_ind : (P : Work → Type 0) (f : List ℕ) (k d : ℕ) (w : Work) (q : ℕ) → P w →
    (In q (places f k) → number w.sheet q ≡ blank → P (work (set w.sheet q d) (w.pending ++ (pending q d ∷ [])))) → P (pend f k d w q)
pend_ind P f k d w q h step =
    cond_both (is_place f k q && eqb (number w.sheet q) blank) (work (set w.sheet q d) (w.pending ++ (pending q d ∷ []))) w P
    (λ e. let r = and_parts (is_place f k q) (eqb (number w.sheet q) blank) e in step (is_place_in f k q r.0) (eqb-true (number w.sheet q) blank r.1))
    (λ _. h)

-- the three ways of a gift
pub pend_new : (f : List ℕ) (k d : ℕ) (w : Work) (q : ℕ) → is_place f k q ≡ true → number w.sheet q ≡ blank → pend f k d w q ≡ work (set w.sheet q d) (w.pending ++ (pending q d ∷ []))
pend_new f k d w q a b = cond-true (is_place f k q && eqb (number w.sheet q) blank) (work (set w.sheet q d) (w.pending ++ (pending q d ∷ []))) w (and_from (is_place f k q) (eqb (number w.sheet q) blank) a (eq-eqb (number w.sheet q) blank b))

pub pend_astray : (f : List ℕ) (k d : ℕ) (w : Work) (q : ℕ) → is_place f k q ≡ false → pend f k d w q ≡ w
pend_astray f k d w q a = cond-false (is_place f k q && eqb (number w.sheet q) blank) (work (set w.sheet q d) (w.pending ++ (pending q d ∷ []))) w (and_left (is_place f k q) (eqb (number w.sheet q) blank) a)

pub pend_old : (f : List ℕ) (k d : ℕ) (w : Work) (q : ℕ) → (number w.sheet q ≡ blank → ⊥) → pend f k d w q ≡ w
pend_old f k d w q b = cond-false (is_place f k q && eqb (number w.sheet q) blank) (work (set w.sheet q d) (w.pending ++ (pending q d ∷ []))) w (and_right (is_place f k q) (eqb (number w.sheet q) blank) (ne_eqb (number w.sheet q) blank b))

module _ (f : List ℕ) (g : Accepted f) (k : ℕ) (l : k < methods f) where
  inside : (s : List ℕ) → length s ≡ length f → (q : ℕ) → In q (places f k) → q < length s
  inside s h q m = let b = place_bounds f g k q l m in omega arith

  -- one blank place is numbered and waits
  pub spreads_give : (s : List ℕ) (ps : List Pending) (q d : ℕ) → Spreads f k (work s ps) → In q (places f k) → number s q ≡ blank → d ≤ 255 → Counts f k q d →
      Spreads f k (work (set s q d) (ps ++ (pending q d ∷ [])))
  spreads_give s ps q d h m e n c = record {
    long = length-set s q d ∙ h.long;
    starts = was (code_address f k) 0 h.starts (omega arith);
    counted = λ p i. counted p (number-set_cases s q d p) (h.counted p i);
    waiting = λ x i. waiting x (Memᴰ.append_cases ps i);
    settled = λ p i o. settled p i o (cases_eq p q);
  }
    where
      new : number (set s q d) q ≡ d
      new = number-set_same s q d (inside s h.long q m)

      -- a place that has a number is another
      other : (p v : ℕ) → number s p ≡ v → v ≤ 255 → p ≡ q → ⊥
      other p v a b r = let z = ap (number s) r in omega arith

      was : (p v : ℕ) → number s p ≡ v → v ≤ 255 → number (set s q d) p ≡ v
      was p v a b = number-set_other s q d p (other p v a b) ∙ a

      small : (p : ℕ) → number s p ≤ 255 → number (set s q d) p ≤ 255
      small p o = subst (λ z. z ≤ 255) (sym (was p (number s p) refl o)) o

      Entry : ℕ → ℕ → Type 0
      Entry p v = (v ≡ blank) ⊎ ((v ≤ 255) × Counts f k p v)

      counted : (p : ℕ) → ((p ≡ q) × (number (set s q d) p ≡ d)) ⊎ (number (set s q d) p ≡ number s p) → Counted f k s p → Counted f k (set s q d) p
      counted p (inl r) o = subst (Entry p) (sym r.1) (subst (λ z. Entry z d) (sym r.0) (inr (n, c)))
      counted p (inr r) o = subst (Entry p) (sym r) o

      Waits : Pending → Type 0
      Waits x = In x.place (places f k) × (number (set s q d) x.place ≡ x.number) × (x.number ≤ 255)

      waiting : (x : Pending) → In x ps ⊎ In x (pending q d ∷ []) → Waits x
      waiting x (inl i) = let r = h.waiting x i in (r.0, was x.place x.number r.1 r.2, r.2)
      waiting x (inr i) = last (Memᴰ.cases_cons i)
        where
          last : (x ≡ pending q d) ⊎ In x [] → Waits x
          last (inl r) = subst Waits (sym r) (m, new, n)
          last (inr r) = absurd (Memᴰ.not-nil r)

      State : ℕ → ℕ → Type 0
      State p v = In (pending p v) (ps ++ (pending q d ∷ [])) ⊎ Settled f k (set s q d) p

      settled : (p : ℕ) → In p (places f k) → number (set s q d) p ≤ 255 → (p ≡ q) ⊎ (p ≡ q → ⊥) → State p (number (set s q d) p)
      settled p i o (inl r) = inl (Memᴰ.append_right ps (Memᴰ.head (ap (λ z. pending z (number (set s q d) z)) r ∙ ap (pending q) new)))
      settled p i o (inr ne) = keep (h.settled p i (subst (λ z. z ≤ 255) same o))
        where
          same : number (set s q d) p ≡ number s p
          same = number-set_other s q d p ne

          keep : In (pending p (number s p)) ps ⊎ Settled f k s p → State p (number (set s q d) p)
          keep (inl j) = inl (Memᴰ.append_left (pending q d ∷ []) (subst (λ z. In (pending p z) ps) (sym same) j))
          keep (inr t) = inr (λ y z j m'. small z (t (subst (λ v. balanced f p v ≡ true) same y) z j m'))

  -- what is done with need not wait
  pub spreads_drop : (s : List ℕ) (x : Pending) (ps : List Pending) → Spreads f k (work s (x ∷ ps)) → Settled f k s x.place → Spreads f k (work s ps)
  spreads_drop s x ps h t = record {
    long = h.long;
    starts = h.starts;
    counted = h.counted;
    waiting = λ y i. h.waiting y (Memᴰ.tail i);
    settled = λ p i o. go p (h.settled p i o);
  }
    where
      go : (p : ℕ) → In (pending p (number s p)) (x ∷ ps) ⊎ Settled f k s p → In (pending p (number s p)) ps ⊎ Settled f k s p
      go p (inr u) = inr u
      go p (inl i) = pick (Memᴰ.cases_cons i)
        where
          pick : (pending p (number s p) ≡ x) ⊎ In (pending p (number s p)) ps → In (pending p (number s p)) ps ⊎ Settled f k s p
          pick (inl e) = inr (subst (Settled f k s) (sym (ap (λ (y : Pending). y.place) e)) t)
          pick (inr j) = inl j

  -- the start of a method whose places are blank
  pub spreads_start : (s : List ℕ) → length s ≡ length f → ((p : ℕ) → In p (places f k) → number s p ≡ blank) → Spreads f k (work (set s (code_address f k) 0) (pending (code_address f k) 0 ∷ []))
  spreads_start s h b = record {
    long = length-set s a 0 ∙ h;
    starts = new;
    counted = λ p i. counted p (number-set_cases s a 0 p) (b p i);
    waiting = λ x i. waiting x (Memᴰ.cases_cons i);
    settled = λ p i o. inl (Memᴰ.head (only p i o (cases_eq p a)));
  }
    where
      a : ℕ
      a = code_address f k

      m : In a (places f k)
      m = start_is_place f g k l

      new : number (set s a 0) a ≡ 0
      new = number-set_same s a 0 (inside s h a m)

      Entry : ℕ → ℕ → Type 0
      Entry p v = (v ≡ blank) ⊎ ((v ≤ 255) × Counts f k p v)

      counted : (p : ℕ) → ((p ≡ a) × (number (set s a 0) p ≡ 0)) ⊎ (number (set s a 0) p ≡ number s p) → number s p ≡ blank → Counted f k (set s a 0) p
      counted p (inl r) e = subst (Entry p) (sym r.1) (subst (λ z. Entry z 0) (sym r.0) (inr (omega arith, none_at_start)))
      counted p (inr r) e = inl (r ∙ e)

      waiting : (x : Pending) → (x ≡ pending a 0) ⊎ In x [] → In x.place (places f k) × (number (set s a 0) x.place ≡ x.number) × (x.number ≤ 255)
      waiting x (inl r) = let P : Pending → Type 0 = λ y. In y.place (places f k) × (number (set s a 0) y.place ≡ y.number) × (y.number ≤ 255) in subst P (sym r) (m, new, omega arith)
      waiting x (inr r) = absurd (Memᴰ.not-nil r)

      only : (p : ℕ) → In p (places f k) → number (set s a 0) p ≤ 255 → (p ≡ a) ⊎ (p ≡ a → ⊥) → pending p (number (set s a 0) p) ≡ pending a 0
      only p i o (inl r) = ap (λ z. pending z (number (set s a 0) z)) r ∙ ap (pending a) new
      only p i o (inr ne) = let x = number-set_other s a 0 p ne in let y = b p i in absurd (omega arith)

  -- a turn
  pub spreads_turn : (s : List ℕ) (x : Pending) (ps : List Pending) → Spreads f k (work s (x ∷ ps)) → Spreads f k (turn f k (work s ps) x)
  spreads_turn s x ps h = cond_both (balanced f x.place x.number) all (work s ps) (Spreads f k) given idle
    where
      d : ℕ
      d = depth_after f x.place x.number

      all : Work
      all = fold (pend f k d) (work s ps) (successors f x.place)

      here : In x.place (places f k) × (number s x.place ≡ x.number) × (x.number ≤ 255)
      here = h.waiting x (Memᴰ.head refl)

      idle : balanced f x.place x.number ≡ false → Spreads f k (work s ps)
      idle e = spreads_drop s x ps h (λ y. absurd (both_ways (balanced f x.place x.number) e (subst (λ v. balanced f x.place v ≡ true) here.1 y)))

      way : Counts f k x.place x.number
      way = go (h.counted x.place here.0)
        where
          go : Counted f k s x.place → Counts f k x.place x.number
          go (inl e) = let a = here.1 in let b = here.2 in absurd (omega arith)
          go (inr c) = subst (Counts f k x.place) here.1 c.1

      -- with x still in front
      Fronted : Work → Type 0
      Fronted w = Spreads f k (work w.sheet (x ∷ w.pending)) × (number w.sheet x.place ≡ x.number)

      given : balanced f x.place x.number ≡ true → Spreads f k all
      given e = spreads_drop all.sheet x all.pending fronted.0 (λ _ q i m. numbered q i m)
        where
          n : d ≤ 255
          n = (balanced_parts f x.place x.number e).1

          step : (w : Work) (q : ℕ) → In q (successors f x.place) → Fronted w → Fronted (pend f k d w q)
          step w q i v = pend_ind Fronted f k d w q v (λ m b. let r = spreads_give w.sheet (x ∷ w.pending) q d v.0 m b n (result_onward way i) in (r, (r.waiting x (Memᴰ.head refl)).1))

          fronted : Fronted all
          fronted = folded_ind Fronted (pend f k d) (work s ps) (successors f x.place) (h, here.1) step

          numbered : (q : ℕ) → In q (successors f x.place) → In q (places f k) → number all.sheet q ≤ 255
          numbered q i m = go (fronted.0.counted q m)
            where
              Given : Work → Type 0
              Given w = number w.sheet q ≡ blank → ⊥

              gets : (w : Work) → length w.sheet ≡ length f → Given (pend f k d w q)
              gets w v =
                  cond_both (is_place f k q && eqb (number w.sheet q) blank) (work (set w.sheet q d) (w.pending ++ (pending q d ∷ []))) w Given
                  (λ _ z. let y = number-set_same w.sheet q d (inside w.sheet v q m) in omega (arith, n))
                  (λ y z. both_ways (is_place f k q && eqb (number w.sheet q) blank) y (and_from (is_place f k q) (eqb (number w.sheet q) blank) (in_is_place f k q m) (eq-eqb (number w.sheet q) blank z)))

              lasts : (w : Work) (p : ℕ) → Given w → Given (pend f k d w p)
              lasts w p v = pend_ind Given f k d w p v (λ _ _. pick (number-set_cases w.sheet p d q))
                where
                  pick : ((q ≡ p) × (number (set w.sheet p d) q ≡ d)) ⊎ (number (set w.sheet p d) q ≡ number w.sheet q) → number (set w.sheet p d) q ≡ blank → ⊥
                  pick (inl r) z = let y = r.1 in omega (arith, n)
                  pick (inr r) z = v (sym r ∙ z)

              go : Counted f k all.sheet q → number all.sheet q ≤ 255
              go (inr c) = c.0
              go (inl z) = absurd (folded_gets (λ w. length w.sheet ≡ length f) Given (pend f k d) q
                  (λ w p v. pend_ind (λ w. length w.sheet ≡ length f) f k d w p v (λ _ _. length-set w.sheet p d ∙ v)) gets lasts (successors f x.place) i (work s ps) h.long z)

  -- when none waits, nothing is left to number
  pub spreads_end : (s : List ℕ) → Spreads f k (work s []) → Closed f k s
  spreads_end s h = record { starts = h.starts; counted = h.counted; settled = λ p i o. go p (h.settled p i o) }
    where
      go : (p : ℕ) → In (pending p (number s p)) [] ⊎ Settled f k s p → Settled f k s p
      go p (inl i) = absurd (Memᴰ.not-nil i)
      go p (inr t) = t

  -- a gift costs a blank place, so that there is room for it and no turn is added
  abbrev blank_at : List ℕ → ℕ → Bool
  blank_at s p = eqb (number s p) blank

  blanks_some : (s : List ℕ) (q : ℕ) → In q (places f k) → number s q ≡ blank → 1 ≤ count_by (blank_at s) (places f k)
  blanks_some s q m e = let r = count_by_lt (blank_at s) (λ _. false) (λ _ y. absurd (both_ways false refl y)) (places f k) q m (eq-eqb (number s q) blank e) refl in omega arith

  blanks_fewer : (s : List ℕ) (q d : ℕ) → length s ≡ length f → In q (places f k) → number s q ≡ blank → d ≤ 255 → count_by (blank_at (set s q d)) (places f k) < count_by (blank_at s) (places f k)
  blanks_fewer s q d h m e n = fewer_blank (λ (p : ℕ). p) (places f k) q s d m (inside s h q m) e n

  pub pend_room : (w : Work) (q : ℕ) → In q (places f k) → number w.sheet q ≡ blank → length w.pending < turns_left f k w
  pend_room w q m e = let r = blanks_some w.sheet q m e in omega arith

  pub pend_left : (d : ℕ) (w : Work) (q : ℕ) → length w.sheet ≡ length f → d ≤ 255 → turns_left f k (pend f k d w q) ≤ turns_left f k w
  pend_left d w q h n = pend_ind (λ v. turns_left f k v ≤ turns_left f k w) f k d w q (omega arith)
      (λ m e. let r = blanks_fewer w.sheet q d h m e n in let t = length-append w.pending (pending q d ∷ []) in omega arith)

  pub turn_left : (w : Work) (x : Pending) → length w.sheet ≡ length f → turns_left f k (turn f k w x) ≤ turns_left f k w
  turn_left w x h = cond_both (balanced f x.place x.number) (fold (pend f k d) w (successors f x.place)) w (λ v. turns_left f k v ≤ turns_left f k w) given (λ _. omega arith)
    where
      d : ℕ
      d = depth_after f x.place x.number

      Good : Work → Type 0
      Good v = (length v.sheet ≡ length f) × (turns_left f k v ≤ turns_left f k w)

      given : balanced f x.place x.number ≡ true → turns_left f k (fold (pend f k d) w (successors f x.place)) ≤ turns_left f k w
      given e = (folded_ind Good (pend f k d) w (successors f x.place) (h, omega arith) step).1
        where
          step : (v : Work) (q : ℕ) → In q (successors f x.place) → Good v → Good (pend f k d v q)
          step v q i o = (
            pend_ind (λ v. length v.sheet ≡ length f) f k d v q o.0 (λ _ _. length-set v.sheet q d ∙ o.0),
            let r = pend_left d v q o.0 (balanced_parts f x.place x.number e).1 in let t = o.1 in omega arith,
          )

  pub start_left : (s : List ℕ) → length s ≡ length f → ((p : ℕ) → In p (places f k) → number s p ≡ blank) →
      turns_left f k (work (set s (code_address f k) 0) (pending (code_address f k) 0 ∷ [])) ≤ length (places f k)
  start_left s h b =
      let m = start_is_place f g k l in
      let r = blanks_fewer s (code_address f k) 0 h m (b (code_address f k) m) (omega arith) in
      let t = count_by-le-length (blank_at s) (places f k) in
      omega arith

  -- a turn writes at places of the method alone
  only_set : (s t : List ℕ) (q d : ℕ) → In q (places f k) → OnlyMethod f k s t → OnlyMethod f k s (set t q d)
  only_set s t q d m h = record {
    long = length-set t q d ∙ h.long;
    others = λ p no. number-set_other t q d p (λ e. no (subst (λ z. In z (places f k)) (sym e) m)) ∙ h.others p no;
  }

  pub only_none : (s : List ℕ) → OnlyMethod f k s s
  only_none s = record { long = refl; others = λ _ _. refl }

  pub only_more : (s t u : List ℕ) → OnlyMethod f k s t → OnlyMethod f k t u → OnlyMethod f k s u
  only_more s t u a b = record { long = b.long ∙ a.long; others = λ p no. b.others p no ∙ a.others p no }

  pub only_start : (s : List ℕ) → OnlyMethod f k s (set s (code_address f k) 0)
  only_start s = only_set s s (code_address f k) 0 (start_is_place f g k l) (only_none s)

  pub only_turn : (s : List ℕ) (w : Work) (x : Pending) → OnlyMethod f k s w.sheet → OnlyMethod f k s (turn f k w x).sheet
  only_turn s w x h = cond_both (balanced f x.place x.number) (fold (pend f k d) w (successors f x.place)) w (λ v. OnlyMethod f k s v.sheet) (λ _. given) (λ _. h)
    where
      d : ℕ
      d = depth_after f x.place x.number

      given : OnlyMethod f k s (fold (pend f k d) w (successors f x.place)).sheet
      given = folded_ind (λ v. OnlyMethod f k s v.sheet) (pend f k d) w (successors f x.place) h (λ v q _ o. pend_ind (λ v. OnlyMethod f k s v.sheet) f k d v q o (λ m _. only_set s v.sheet q d m o))
