-- Check refuses by rule 17 exactly when every earlier rule passes and no sheet would be admitted, at the first method without a numbering. Assumes nothing.
use Rattle.std.proofs.Common.{◌≡◌, ℕ, ◌<◌, Bool, true, false, List, length, Some, None, Option, sym, refl, ap, ◌∙◌, subst, arith}
use Rattle.std.proofs.lemmas.Bool.{both_ways}
use Rattle.format.specs.Search.{upto}
use Rattle.format.specs.Layout.{methods, code_address}
use Rattle.format.specs.Parts.{Accepted}
use Rattle.format.proofs.Finds.{first_some, first_before, first_is, upto_in}
use Rattle.verifier.specs.Numbering.{number, numbering, blanks, unnumberable, check_refusal, sheet_after}
use Rattle.verifier.specs.Verdicts.{EarlierPass, Refused17At, Refused17, FirstWithout, PlaceOfRefusal17, SixteenBits, NoSheet, ExactRefusal17, NoSheetWhatever}
use Rattle.verifier.proofs.Entries.{blanks_blank, blanks_length}
use Rattle.verifier.proofs.Places.{starts_apart}
use Rattle.verifier.proofs.Rule.{keeps_rule}
use Rattle.verifier.proofs.Numbers.{numberable_rule, rule_numberable}
use Rattle.verifier.proofs.Refusals.{numberless, last_rule, admits, at_17_earlier, earlier_17, last_rule_some}
use Rattle.verifier.proofs.Sheets.{check_admits, check_sixteen}

-- the first method that is unnumberable is the first without a numbering
module _ (f : List ℕ) (g : Accepted f) where
  numberless_first : (k : ℕ) → numberless f ≡ Some k → FirstWithout f k
  numberless_first k e =
      let r = first_some (unnumberable f) (upto (methods f)) k e in
      let l = upto_in (methods f) k r.0 in (
        l,
        λ a. both_ways (unnumberable f k) (rule_numberable f g k l a.0 a.1) r.1,
        λ j h. (number (numbering f), numberable_rule f g j (omega arith) (first_before (unnumberable f) 0 (methods f) k e j (omega arith) h)),
      )

  first_numberless : (k : ℕ) → FirstWithout f k → numberless f ≡ Some k
  first_numberless k (l, n, h) = first_is (unnumberable f) (methods f) k l (go (unnumberable f k) refl) (λ j i. let a = h j i in rule_numberable f g j (omega arith) a.0 a.1)
    where
      go : (b : Bool) → unnumberable f k ≡ b → b ≡ true
      go true e = refl
      go false e = absurd (n (number (numbering f), numberable_rule f g k l e))

pub place_of_refusal_17 : PlaceOfRefusal17
place_of_refusal_17 f n m p = (λ k l. (at_start k l, λ w. there k w), λ q. (λ e. found q e, λ w. subst (Refused17At f n m) (sym w.1) (there w.0 w.2)))
  where
    g : Accepted f
    g = p.0

    found : (q : ℕ) → Refused17At f n m q → (k : ℕ) × (q ≡ code_address f k) × FirstWithout f k
    found q e = let r = last_rule_some f q (numberless f) (sym (earlier_17 f n m p) ∙ e) in (r.0, r.2, numberless_first f g r.0 r.1)

    there : (k : ℕ) → FirstWithout f k → Refused17At f n m (code_address f k)
    there k w = earlier_17 f n m p ∙ ap (last_rule f) (first_numberless f g k w)

    at_start : (k : ℕ) → k < methods f → Refused17At f n m (code_address f k) → FirstWithout f k
    at_start k l e = let r = found (code_address f k) e in subst (FirstWithout f) (sym (starts_apart f g k r.0 l r.2.0 r.1)) r.2

-- an admitted sheet leaves no method unnumberable
pub no_sheet_whatever : NoSheetWhatever
no_sheet_whatever f n m (p, e) s h =
    let o = admits f s h in
    let g = o.accepted in
    let r = last_rule_some f p (numberless f) (sym (earlier_17 f n m (at_17_earlier f n m p e)) ∙ e) in
    let w = numberless_first f g r.0 r.1 in
    w.1 (number s, keeps_rule f g s o.kept r.0 w.0)

pub exact_refusal_17 : ExactRefusal17
exact_refusal_17 f n m = (λ a. (at_17_earlier f n m a.0 a.1, λ s b h. no_sheet_whatever f n m a s h), λ p. go p (numberless f) refl)
  where
    go : EarlierPass f n m × NoSheet f → (o : Option ℕ) → numberless f ≡ o → Refused17 f n m
    go (p, h) (Some k) e = (code_address f k, earlier_17 f n m p ∙ ap (last_rule f) e)
    go (p, h) None e = absurd (h (sheet_after f (blanks f) (length f)) (check_sixteen f (blanks f) (length f) accepted blank_bits) (check_admits f (blanks f) (length f) accepted))
      where
        accepted : check_refusal f (length (blanks f)) (length f) ≡ None
        accepted = earlier_17 f (length (blanks f)) (length f) (p.0, let l = blanks_length f in omega arith, omega arith, p.3) ∙ ap (last_rule f) e

        blank_bits : SixteenBits (blanks f)
        blank_bits q l = let b = blanks_blank f q in omega arith
