-- The sheet after check, entry by entry; and what check accepts, admit accepts with check's sheet. Assumes nothing.
use Rattle.std.proofs.Common.{◌≡◌, ℕ, ◌-◌, ◌<◌, ◌≤◌, leb, ◌⊎◌, List, ◌++◌, length, drop, set, Some, None, Option, sym, refl, ap, ◌∙◌, subst, inl, inr, arith, length-append, length-drop}
use Rattle.std.proofs.lemmas.List.{get_or_append_left, get_or-append_right, get_or-drop}
use Rattle.std.proofs.lemmas.Bool.{cases_lt, le-leb, lt-leb, cond-true, cond-false}
use Rattle.refusals.specs.Refusals.{number_of}
use Rattle.refusals.specs.declared.Refusal.{Refusal}
use Rattle.format.specs.Layout.{methods, entry, code_address}
use Rattle.format.specs.Parts.{Accepted}
use Rattle.format.proofs.Finds.{In, some_none}
use Rattle.format.proofs.Sounds.{sound}
use Rattle.bytecode.specs.Places.{places}
use Rattle.bytecode.specs.Rules.{code_refusal}
use Rattle.verifier.specs.Numbering.{blank, number, peak, blanks, numbering, with_peaks, Admitted, check_refusal, sheet_left, sheet_after}
use Rattle.verifier.specs.Verdicts.{Reached, Counts, none_at_start, Largest, KeepsRule, CheckAdmits, SixteenBits, KeptPast, Filled, Blanked, Apart, SheetFacts}
use Rattle.verifier.specs.Worklist.{Counted}
use Rattle.verifier.proofs.Folds.{folded_upto_ind}
use Rattle.verifier.proofs.Entries.{number-set_cases, blanks_blank, blanks_length}
use Rattle.verifier.proofs.Places.{place_bounds, place_cases, start_is_place}
use Rattle.verifier.proofs.Rule.{rule_keeps, rule_same}
use Rattle.verifier.proofs.Ways.{counts_reached, counts_numbered}
use Rattle.verifier.proofs.Settles.{numbering_complete}
use Rattle.verifier.proofs.Peaks.{Same, peak_le, peak_above, peak_met, peak_same, entry_low, peaks_length, peaks_other, peaks_entry, peaks_same}
use Rattle.verifier.proofs.Numbers.{number_counts, accepted_rule}
use Rattle.verifier.proofs.Refusals.{from_admits, accepted_parts, past_12, check_up_to}

-- a sheet whose first entries are replaced
module _ (f s a : List ℕ) (long : length a ≡ length f) (fits : length f ≤ length s) where
  pub replaced_past : KeptPast f s (a ++ drop (length f) s)
  replaced_past = (
    let p = length-append a (drop (length f) s) in let q = length-drop (length f) s in omega arith,
    λ p l. get_or-append_right a (drop (length f) s) (length f) p blank long l ∙ get_or-drop (length f) s (p - length f) blank ∙ ap (number s) (omega arith),
  )

  pub replaced_front : (p : ℕ) → p < length f → number (a ++ drop (length f) s) p ≡ number a p
  replaced_front p l = get_or_append_left a (drop (length f) s) blank p (omega arith)

-- the three ways that check leaves a sheet
pub left_accepted : (f s : List ℕ) (o : Option Refusal) → o ≡ None → sheet_left f s o ≡ with_peaks f (numbering f) ++ drop (length f) s
left_accepted f s None e = refl
left_accepted f s (Some x) e = absurd (some_none e)

pub left_early : (f s : List ℕ) (o : Option Refusal) (x : Refusal) → o ≡ Some x → number_of x.rule ≤ 12 → sheet_left f s o ≡ s
left_early f s o x e l = ap (sheet_left f s) e ∙ cond-true (leb (number_of x.rule) 12) s (blanks f ++ drop (length f) s) (le-leb (number_of x.rule) 12 l)

pub left_late : (f s : List ℕ) (o : Option Refusal) (x : Refusal) → o ≡ Some x → 12 < number_of x.rule → sheet_left f s o ≡ blanks f ++ drop (length f) s
left_late f s o x e l = ap (sheet_left f s) e ∙ cond-false (leb (number_of x.rule) 12) s (blanks f ++ drop (length f) s) (lt-leb (number_of x.rule) 12 l)

-- the peak of the numbering is the largest depth
pub peak_largest : (f : List ℕ) → Accepted f → (k : ℕ) → k < methods f → KeepsRule f k (number (numbering f)) → Largest f k (peak f (numbering f) k)
peak_largest f g k l w = (met (peak_met f (numbering f) k), above)
  where
    met : (peak f (numbering f) k ≡ 0) ⊎ ((p : ℕ) × In p (places f k) × (number (numbering f) p ≤ 255) × (number (numbering f) p ≡ peak f (numbering f) k)) → (p : ℕ) × Counts f k p (peak f (numbering f) k)
    met (inl e) = (code_address f k, subst (λ (d : ℕ). Counts f k (code_address f k) d) (sym e) none_at_start)
    met (inr (p, i, h, e)) = (p, subst (λ (d : ℕ). Counts f k p d) e (number_counts f g k l p i h))

    above : (p d : ℕ) → Counts f k p d → d ≤ peak f (numbering f) k
    above p d c = let r = counts_numbered f g k l (number (numbering f)) w c in let q = peak_above f (numbering f) k p r.0 (subst (λ (z : ℕ). z ≤ 255) (sym r.1) r.2) in subst (λ (z : ℕ). z ≤ peak f (numbering f) k) r.1 q

-- the sheet t of a file that check accepts
module _ (f s t : List ℕ) (g : Accepted f) (fits : length f ≤ length s) (is : t ≡ with_peaks f (numbering f) ++ drop (length f) s) where
  full : length (with_peaks f (numbering f)) ≡ length f
  full = peaks_length f (numbering f) (methods f) ∙ (numbering_complete f g).long

  pub accepted_past : KeptPast f s t
  accepted_past = subst (KeptPast f s) (sym is) (replaced_past f s (with_peaks f (numbering f)) full fits)

  front : (p : ℕ) → p < length f → number t p ≡ number (with_peaks f (numbering f)) p
  front p l = ap (λ u. number u p) is ∙ replaced_front f s (with_peaks f (numbering f)) full fits p l

  pub accepted_same : (k : ℕ) → k < methods f → Same f k (numbering f) t
  accepted_same k l p m = sym (front p (place_bounds f g k p l m).1 ∙ peaks_same f g (numbering f) (methods f) (omega arith) k l p m)

  pub accepted_peak : (k : ℕ) → k < methods f → number t (entry k) ≡ peak f (numbering f) k
  accepted_peak k l =
      front (entry k) (inside (entry_low f k l) (sound f g).tables) ∙
      peaks_entry f (numbering f) (methods f) k l (subst (λ n. entry k < n) (sym (numbering_complete f g).long) (inside (entry_low f k l) (sound f g).tables))
    where
      inside : {e b n : ℕ} → e < b → b ≤ n → e < n
      inside x y = omega arith

  -- the other entries of the file
  accepted_other : (p : ℕ) → p < length f → ((k : ℕ) → k < methods f → p ≡ entry k → ⊥) → number t p ≡ number (numbering f) p
  accepted_other p l n = front p l ∙ peaks_other f (numbering f) (methods f) p n

  pub accepted_filled : ((k : ℕ) → k < methods f → KeepsRule f k (number (numbering f))) → Filled f t
  accepted_filled w = record {
    numbers = λ k p d l c. let r = counts_numbered f g k l (number (numbering f)) (w k l) c in sym (accepted_same k l p r.0) ∙ r.1;
    peaks = λ k l. (accepted_peak k l, subst (Largest f k) (sym (accepted_peak k l)) (peak_largest f g k l (w k l)));
    others = λ p l r n. accepted_other p l n ∙ unreached p r (place_cases f p);
  }
    where
      unreached : (p : ℕ) → ((k : ℕ) → k < methods f → Reached f k p → ⊥) → ((k : ℕ) × (k < methods f) × In p (places f k)) ⊎ ((k : ℕ) → k < methods f → In p (places f k) → ⊥) → number (numbering f) p ≡ blank
      unreached p r (inl (k, l, m)) = go (((numbering_complete f g).closed k l).counted p m)
        where
          go : Counted f k (numbering f) p → number (numbering f) p ≡ blank
          go (inl e) = e
          go (inr c) = absurd (r k l (counts_reached c.1))
      unreached p r (inr none) = (numbering_complete f g).others p none

  pub accepted_admitted : code_refusal f ≡ None → ((k : ℕ) → k < methods f → KeepsRule f k (number (numbering f))) → Admitted f t
  accepted_admitted c w = from_admits f t (record {
    accepted = g;
    long = subst (λ n. length f ≤ n) (sym accepted_past.0) fits;
    code = c;
    kept = rule_keeps f t (λ k l. rule_same f k (number (numbering f)) (number t) (start_is_place f g k l) (accepted_same k l) (w k l));
    peaks = λ k l. accepted_peak k l ∙ peak_same f (numbering f) t k (accepted_same k l);
  })

pub check_admits : CheckAdmits
check_admits f s m e =
    let r = accepted_parts f (length s) m e in
    accepted_admitted f s (sheet_after f s m) r.0.0 r.0.1 (left_accepted f s (check_refusal f (length s) m) e) r.0.3 (accepted_rule f (length s) m e)

-- a number, a peak or blank
numbering_sixteen : (f : List ℕ) → Accepted f → (p : ℕ) → number (numbering f) p < 65536
numbering_sixteen f g p = go (place_cases f p)
  where
    counted : (k : ℕ) → Counted f k (numbering f) p → number (numbering f) p < 65536
    counted k (inl e) = omega arith
    counted k (inr c) = let h = c.0 in omega arith

    go : ((k : ℕ) × (k < methods f) × In p (places f k)) ⊎ ((k : ℕ) → k < methods f → In p (places f k) → ⊥) → number (numbering f) p < 65536
    go (inl (k, l, m)) = counted k (((numbering_complete f g).closed k l).counted p m)
    go (inr none) = let e = (numbering_complete f g).others p none in omega arith

peaks_sixteen : (f s : List ℕ) → ((p : ℕ) → number s p < 65536) → (p : ℕ) → number (with_peaks f s) p < 65536
peaks_sixteen f s h = folded_upto_ind (λ t. (p : ℕ) → number t p < 65536) (λ t k. set t (entry k) (peak f s k)) s (methods f) h (λ t k _ w p. go t k p (w p) (number-set_cases t (entry k) (peak f s k) p))
  where
    go : (t : List ℕ) (k p : ℕ) → number t p < 65536 → ((p ≡ entry k) × (number (set t (entry k) (peak f s k)) p ≡ peak f s k)) ⊎ (number (set t (entry k) (peak f s k)) p ≡ number t p) → number (set t (entry k) (peak f s k)) p < 65536
    go t k p w (inl r) = subst (λ d. d < 65536) (sym r.1) (let l = peak_le f s k in omega arith)
    go t k p w (inr r) = subst (λ d. d < 65536) (sym r) w

pub check_sixteen : (f s : List ℕ) (m : ℕ) → check_refusal f (length s) m ≡ None → SixteenBits s → SixteenBits (sheet_after f s m)
check_sixteen f s m e h p l =
    let r = accepted_parts f (length s) m e in
    let is = left_accepted f s (check_refusal f (length s) m) e in
    let k = accepted_past f s (sheet_after f s m) r.0.0 r.0.1 is in
    go r.0.0 r.0.1 is k (cases_lt p (length f))
  where
    go : Accepted f → length f ≤ length s → sheet_after f s m ≡ with_peaks f (numbering f) ++ drop (length f) s → KeptPast f s (sheet_after f s m) → (p < length f) ⊎ (length f ≤ p) → number (sheet_after f s m) p < 65536
    go g b is k (inl i) = subst (λ d. d < 65536) (sym (front f s (sheet_after f s m) g b is p i)) (peaks_sixteen f (numbering f) (numbering_sixteen f g) p)
    go g b is k (inr i) = subst (λ d. d < 65536) (sym (k.1 p i)) (h p (subst (λ n. p < n) k.0 l))

pub apart : (f : List ℕ) → Accepted f → Apart f
apart f g j k p l (n, i) e = below (entry_low f j l) (place_bounds f g k p n i).0 e
  where
    below : {a b : ℕ} → a < b → b ≤ p → p ≡ a → ⊥
    below x y z = omega arith

pub sheet_facts : SheetFacts
sheet_facts f s m = (accepted, late, λ x e h. left_early f s (check_refusal f (length s) m) x e h, λ x e. check_up_to f (length s) m x e)
  where
    accepted : check_refusal f (length s) m ≡ None → Filled f (sheet_after f s m) × Apart f × KeptPast f s (sheet_after f s m)
    accepted e =
        let r = accepted_parts f (length s) m e in
        let is = left_accepted f s (check_refusal f (length s) m) e in
        (accepted_filled f s (sheet_after f s m) r.0.0 r.0.1 is (accepted_rule f (length s) m e), apart f r.0.0, accepted_past f s (sheet_after f s m) r.0.0 r.0.1 is)

    late : (x : Refusal) → check_refusal f (length s) m ≡ Some x → (13 ≤ number_of x.rule) × (number_of x.rule ≤ 17) → Blanked f (sheet_after f s m) × KeptPast f s (sheet_after f s m)
    late x e h =
        let r = past_12 f (length s) m x h.0 e in
        let is = left_late f s (check_refusal f (length s) m) x e h.0 in (
          λ p l. ap (λ u. number u p) is ∙ replaced_front f s (blanks f) (blanks_length f) r.1 p l ∙ blanks_blank f p,
          subst (KeptPast f s) (sym is) (replaced_past f s (blanks f) (blanks_length f) r.1),
        )
