-- What check answers and leaves once the layout passes and there is memory enough; and its laws for one file. Assumes nothing.
use Rattle.std.proofs.Common.{◌≡◌, ℕ, ◌<◌, ◌≤◌, true, false, ◌||◌, ltb, ◌⊎◌, ◌↔◌, List, ◌++◌, length, drop, Some, None, Ok, Err, Option, Result, sym, refl, ap, ◌∙◌, subst, inl, inr, arith, lit<, MatchResult}
use Rattle.std.specs.Option.{option_map}
use Rattle.std.specs.Result.{result_err}
use Rattle.std.proofs.lemmas.Bool.{cases_lt}
use Rattle.std.proofs.lemmas.Bool.Decides.{nat_tests}
use Rattle.refusals.specs.Refusals.{number_of}
use Rattle.refusals.specs.declared.Rule.{Rule}
use Rattle.refusals.specs.declared.Rule.TheVariants.{MemoryShort, BadInstruction, BadIndex, BadTarget, MixedReturns, NoNumbering}
use Rattle.refusals.specs.declared.Refusal.{Refusal}
use Rattle.format.specs.Search.{first, upto, when, ◌else◌}
use Rattle.format.specs.Layout.{methods, code_address}
use Rattle.format.specs.Parts.{Accepted}
use Rattle.format.specs.Rules.{refused, layout_refusal}
use Rattle.format.proofs.Finds.{else_skip, else_some, none_when, some_none}
use Rattle.bytecode.specs.Places.{Point, points}
use Rattle.bytecode.specs.Rules.{bad_instruction, bad_index, bad_target, mixed_returns}
use Rattle.verifier.specs.Numbering.{number, numbered, numbering, unnumberable, blanks, with_peaks, code_or_numbering_refusal, check_refusal, sheet_after}
use Rattle.verifier.specs.Verdicts.{Place, Reached, Counts, KeptPast, CheckLaws}
use Rattle.verifier.proofs.Refusals.{none_refused, layout_up_to, accepted_parts}
use Rattle.verifier.proofs.Numbers.{numbers_reached, numbers_counted}
use Rattle.verifier.proofs.Sheets.{left_accepted, left_early, left_late, accepted_same, check_admits, sheet_facts}
use Rattle.verifier.proofs.Exact.{exact_refusal_17, place_of_refusal_17, no_sheet_whatever}

-- the rules before the code's pass
pub late : (f : List ℕ) (n m : ℕ) → Accepted f → length f ≤ n → length f ≤ m → check_refusal f n m ≡ code_or_numbering_refusal f
late f n m g a b =
    else_skip (layout_refusal f) _ g ∙
    else_skip (refused MemoryShort (when (ltb n (length f) || ltb m (length f)) 0)) _ (none_refused MemoryShort (when (ltb n (length f) || ltb m (length f)) 0) (none_when (ltb n (length f) || ltb m (length f)) 0 (enough (length f) a b)))
  where
    enough : (k : ℕ) → k ≤ n → k ≤ m → (ltb n k || ltb m k) ≡ false
    enough k a b = grind (arith, nat_tests)

-- a refusal by the layout is check's, and leaves the sheet
pub early : (f : List ℕ) (n m : ℕ) (x : Refusal) → layout_refusal f ≡ Some x → check_refusal f n m ≡ Some x
early f n m x e = go (layout_refusal f) _ e
  where
    go : (o q : Option Refusal) → o ≡ Some x → (o else q) ≡ Some x
    go (Some y) q h = h
    go None q h = absurd (some_none (sym h))

pub left_layout : (f s : List ℕ) (m : ℕ) (x : Refusal) → layout_refusal f ≡ Some x → s ≡ sheet_after f s m
left_layout f s m x e = let h = layout_up_to f x e in sym (left_early f s (check_refusal f (length s) m) x (early f (length s) m x e) (omega arith))

-- a refusal, if there is one, has a number over 12
abbrev Over : Option Refusal → Type 0
Over o = (x : Refusal) → o ≡ Some x → 12 < number_of x.rule

over_refused : (r : Rule) (o : Option ℕ) → 12 < number_of r → Over (refused r o)
over_refused r (Some p) h x e = let q : r ≡ x.rule = cc in subst (λ z. 12 < number_of z) q h
over_refused r None h x e = absurd (some_none (sym e))

over_else : (o q : Option Refusal) → Over o → Over q → Over (o else q)
over_else o q a b x e = go (else_some o q x e)
  where
    go : (o ≡ Some x) ⊎ ((o ≡ None) × (q ≡ Some x)) → 12 < number_of x.rule
    go (inl h) = a x h
    go (inr h) = b x h.1

late_over : (f : List ℕ) → Over (code_or_numbering_refusal f)
late_over f =
    over_else _ _
    (over_else _ _ (over_refused BadInstruction (option_map (λ (y : Point). y.place) (first (bad_instruction f) (points f))) (lit< tt))
    (over_else _ _ (over_refused BadIndex (option_map (λ (y : Point). y.place) (first (bad_index f) (points f))) (lit< tt))
    (over_else _ _ (over_refused BadTarget (option_map (λ (y : Point). y.place) (first (bad_target f) (points f))) (lit< tt))
    (over_refused MixedReturns (option_map (code_address f) (first (mixed_returns f) (upto (methods f)))) (lit< tt)))))
    (over_refused NoNumbering (option_map (code_address f) (first (unnumberable f) (upto (methods f)))) (lit< tt))

-- the sheet that is left: its front as it was filled, the rest as it was
pub left_filled : {X : Type 0} (f s front : List ℕ) (m : ℕ) (r : Result X Refusal) → Accepted f → length f ≤ length s → length f ≤ m → result_err r ≡ code_or_numbering_refusal f →
    MatchResult r (λ _. front ≡ with_peaks f (numbering f)) (λ _. front ≡ blanks f) → front ++ drop (length f) s ≡ sheet_after f s m
left_filled f s front m (Ok x) g a b e h =
    ap (λ t. t ++ drop (length f) s) h ∙ sym (left_accepted f s (check_refusal f (length s) m) (late f (length s) m g a b ∙ sym e))
left_filled f s front m (Err x) g a b e h =
    ap (λ t. t ++ drop (length f) s) h ∙ sym (left_late f s (check_refusal f (length s) m) x (late f (length s) m g a b ∙ sym e) (late_over f x (sym e)))

-- past the file the sheet is as it was, whatever is answered
past_kept : (f s : List ℕ) (m : ℕ) → KeptPast f s (sheet_after f s m)
past_kept f s m = go (check_refusal f (length s) m) refl
  where
    go : (o : Option Refusal) → check_refusal f (length s) m ≡ o → KeptPast f s (sheet_after f s m)
    go None e = ((sheet_facts f s m).0 e).2
    go (Some x) e = elim (cases_lt 12 (number_of x.rule)) [
      | inl h ↦ let u = (sheet_facts f s m).3 x e in ((sheet_facts f s m).1 x e (omega arith, u)).1
      | inr h ↦ subst (KeptPast f s) (sym ((sheet_facts f s m).2 x e h)) (refl, λ _ _. refl)
    ]

-- the laws of check for one file
pub check_laws : (f s : List ℕ) (m : ℕ) → CheckLaws f s m (check_refusal f (length s) m) (sheet_after f s m)
check_laws f s m = record {
  reached = λ e k p a. subst (λ d. (numbered d ≡ true) ↔ Reached f k p) (same e k p a) (numbers_reached f (length s) m e k p a);
  counted = λ e k p a d. subst (λ n. ((n ≡ d) × (d ≤ 255)) ↔ Counts f k p d) (same e k p a) (numbers_counted f (length s) m e k p a d);
  admitted = check_admits f s m;
  filled = λ e. ((sheet_facts f s m).0 e).0;
  blanked = λ x e h. let u = (sheet_facts f s m).3 x e in ((sheet_facts f s m).1 x e (omega arith, u)).0;
  kept = λ x e h. (sheet_facts f s m).2 x e h;
  past = past_kept f s m;
  first_without = λ e. (place_of_refusal_17 f (length s) m e).0;
  exact = exact_refusal_17 f (length s) m;
  none_at_all = λ p e. no_sheet_whatever f (length s) m (p, e);
}
  where
    same : check_refusal f (length s) m ≡ None → (k p : ℕ) → Place f k p → number (numbering f) p ≡ number (sheet_after f s m) p
    same e k p a =
        let r = accepted_parts f (length s) m e in
        accepted_same f s (sheet_after f s m) r.0.0 r.0.1 (left_accepted f s (check_refusal f (length s) m) e) k a.0 p a.1

pub laws_of : (f s t : List ℕ) (m : ℕ) (o : Option Refusal) → o ≡ check_refusal f (length s) m → t ≡ sheet_after f s m → CheckLaws f s m o t
laws_of f s t m o e h = subst (λ z. CheckLaws f s m z t) (sym e) (subst (CheckLaws f s m (check_refusal f (length s) m)) (sym h) (check_laws f s m))
