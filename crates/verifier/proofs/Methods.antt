-- The worklist over all methods: what is closed stays closed, and what a complete sheet says of check's answer. Assumes nothing.
use Rattle.std.proofs.Common.{◌≡◌, ℕ, ◌+◌, ◌<◌, ◌≤◌, true, ◌⊎◌, List, [], ◌∷◌, length, set, None, sym, ap, ◌∙◌, subst, inl, inr, arith}
use Rattle.std.proofs.lemmas.Bool.{cases_eq}
use Rattle.format.specs.Search.{first, upto}
use Rattle.format.specs.Layout.{methods, code_address}
use Rattle.format.specs.Parts.{Accepted}
use Rattle.format.proofs.Finds.{In, none_below, upto_in}
use Rattle.format.proofs.Answered.{code_fits}
use Rattle.bytecode.specs.Places.{places}
use Rattle.verifier.specs.declared.pending.Pending.{Pending}
use Rattle.verifier.specs.Numbering.{blank, number, balanced, method_breaks, blanks, numbering, unnumberable, check_refusal}
use Rattle.verifier.specs.Verdicts.{Counts, EarlierPass}
use Rattle.verifier.specs.Worklist.{Work, turn, turns_left, Spreads, Closed, ClosedTo, Complete, OnlyMethod}
use Rattle.verifier.proofs.Entries.{blanks_blank, blanks_length}
use Rattle.verifier.proofs.Folds.{first_same}
use Rattle.verifier.proofs.Places.{start_is_place, places_apart, places_few}
use Rattle.verifier.proofs.Peaks.{Same}
use Rattle.verifier.proofs.Closed.{closed_breaks, complete_same}
use Rattle.verifier.proofs.Settles.{numbering_complete}
use Rattle.verifier.proofs.Turns.{work, pending, spreads_start, spreads_turn, spreads_end, turn_left, start_left, only_turn}
use Rattle.verifier.proofs.Refusals.{numberless, last_rule, earlier_17}

pub closed_none : (f : List ℕ) → ClosedTo f 0 (blanks f)
closed_none f = record { long = blanks_length f; closed = λ k l. absurd (omega arith); others = λ p _. blanks_blank f p }

module _ (f : List ℕ) (g : Accepted f) where
  -- the method's numbers alone matter
  closed_kept : (k : ℕ) (s t : List ℕ) → k < methods f → Same f k s t → Closed f k s → Closed f k t
  closed_kept k s t l e c = record {
    starts = sym (e (code_address f k) (start_is_place f g k l)) ∙ c.starts;
    counted = λ p i. subst (λ v. (v ≡ blank) ⊎ ((v ≤ 255) × Counts f k p v)) (e p i) (c.counted p i);
    settled = λ p i o b q j m. subst (λ v. v ≤ 255) (e q m) (c.settled p i (subst (λ v. v ≤ 255) (sym (e p i)) o) (subst (λ v. balanced f p v ≡ true) (sym (e p i)) b) q j m);
  }

  -- the next method's places are still blank
  pub closed_blank : (i : ℕ) (s : List ℕ) → ClosedTo f i s → i < methods f → (p : ℕ) → In p (places f i) → number s p ≡ blank
  closed_blank i s c l p m = c.others p (λ k h n. let e = places_apart f g k i p (omega arith) l n m in absurd (omega arith))

  -- and when they are closed, so are the methods up to it
  pub closed_more : (i : ℕ) (s t : List ℕ) → ClosedTo f i s → i < methods f → OnlyMethod f i s t → Closed f i t → ClosedTo f (i + 1) t
  closed_more i s t c l o d = record {
    long = o.long ∙ c.long;
    closed = λ k h. closed k h (cases_eq k i);
    others = λ p no. o.others p (no i (omega arith)) ∙ c.others p (λ k h. no k (omega arith));
  }
    where
      closed : (k : ℕ) → k < i + 1 → (k ≡ i) ⊎ (k ≡ i → ⊥) → Closed f k t
      closed k h (inl e) = subst (λ z. Closed f z t) (sym e) d
      closed k h (inr ne) = closed_kept k s t (omega arith)
          (λ p m. sym (o.others p (λ n. ne (places_apart f g k i p (omega arith) l m n)))) (c.closed k (omega arith))

  -- the worklist of method k, from the sheet s, as its loop begins, at each turn, and at its end
  module _ (k : ℕ) (l : k < methods f) (s : List ℕ) (c : ClosedTo f k s) where
    abbrev opened : List ℕ
    opened = set s (code_address f k) 0

    pub loop_begins : Spreads f k (work opened (pending (code_address f k) 0 ∷ [])) × (turns_left f k (work opened (pending (code_address f k) 0 ∷ [])) ≤ length f)
    loop_begins =
        let b = closed_blank k s c l in
        let t = start_left f g k l s c.long b in
        let n = places_few f k in
        let m = code_fits f k g l in
        (spreads_start f g k l s c.long b, omega arith)

    pub loop_ends : (t : List ℕ) → Spreads f k (work t []) → OnlyMethod f k s t → ClosedTo f (k + 1) t
    loop_ends t h o = closed_more k s t c l o (spreads_end f g k l t h)

  module _ (k : ℕ) (l : k < methods f) (s t : List ℕ) (x : Pending) (ps : List Pending) (w : Work) (e : w ≡ turn f k (work t ps) x) (h : Spreads f k (work t (x ∷ ps))) where
    pub loop_keeps : OnlyMethod f k s t → Spreads f k w × OnlyMethod f k s w.sheet
    loop_keeps o = (subst (Spreads f k) (sym e) (spreads_turn f g k l t x ps h), subst (λ v. OnlyMethod f k s v.sheet) (sym e) (only_turn f g k l s (work t ps) x o))

    pub loop_falls : turns_left f k w < turns_left f k (work t (x ∷ ps))
    loop_falls = let r = turn_left f g k l (work t ps) x h.long in subst (λ v. turns_left f k v < turns_left f k (work t (x ∷ ps))) (sym e) (omega arith)

  -- a closed method breaks the rule just if it is unnumberable
  pub closed_unnumberable : (k : ℕ) (s : List ℕ) → k < methods f → Closed f k s → method_breaks f s k ≡ unnumberable f k
  closed_unnumberable k s l c = closed_breaks f g k l s (numbering f) c ((numbering_complete f g).closed k l)

  -- a complete sheet
  module _ (s : List ℕ) (c : Complete f s) where
    pub complete_numberless : first (method_breaks f s) (upto (methods f)) ≡ numberless f
    complete_numberless = first_same (method_breaks f s) (unnumberable f) (upto (methods f)) (λ k i. closed_unnumberable k s (upto_in (methods f) k i) (c.closed k (upto_in (methods f) k i)))

    pub complete_numbering : numberless f ≡ None → s ≡ numbering f
    complete_numbering e = complete_same f g s (numbering f) c (numbering_complete f g) (none_below (unnumberable f) (methods f) e)

    pub complete_check : (n m : ℕ) → EarlierPass f n m → check_refusal f n m ≡ last_rule f (first (method_breaks f s) (upto (methods f)))
    complete_check n m p = earlier_17 f n m p ∙ ap (last_rule f) (sym complete_numberless)
