-- The numbers of check's sheet: which places have one, and that every admitted sheet has the same. Assumes nothing.
use Rattle.std.proofs.Common.{◌≡◌, ℕ, ◌<◌, ◌≤◌, false, List, None, sym, subst, inl, inr, arith}
use Rattle.std.proofs.lemmas.Bool.{leb-true, le-leb}
use Rattle.format.specs.Layout.{methods}
use Rattle.format.specs.Parts.{Accepted}
use Rattle.format.proofs.Finds.{In}
use Rattle.bytecode.specs.Places.{places}
use Rattle.verifier.specs.Numbering.{number, numbering, unnumberable, check_refusal}
use Rattle.verifier.specs.Verdicts.{Counts, KeepsRule, NumbersReached, NumbersCounted, Agrees, AgreesWhereReached}
use Rattle.verifier.specs.Worklist.{Counted}
use Rattle.verifier.proofs.Rule.{keeps_rule, method_rule, rule_method}
use Rattle.verifier.proofs.Ways.{counts_reached, counts_numbered, reached_counts}
use Rattle.verifier.proofs.Closed.{closed_rule}
use Rattle.verifier.proofs.Settles.{numbering_complete}
use Rattle.verifier.proofs.Refusals.{admits, accepted_parts}

module _ (f : List ℕ) (g : Accepted f) (k : ℕ) (l : k < methods f) where
  -- a method is unnumberable, or the numbering keeps the rule there
  pub numberable_rule : unnumberable f k ≡ false → KeepsRule f k (number (numbering f))
  numberable_rule e = method_rule f g (numbering f) k l e

  -- if some numbering keeps the rule, check's does
  pub numbering_rule : (a : ℕ → ℕ) → KeepsRule f k a → KeepsRule f k (number (numbering f))
  numbering_rule a w = closed_rule f g k l (numbering f) ((numbering_complete f g).closed k l) a w

  pub rule_numberable : (a : ℕ → ℕ) → KeepsRule f k a → unnumberable f k ≡ false
  rule_numberable a w = rule_method f (numbering f) k (numbering_rule a w)

  -- a number is the depth of a way
  pub number_counts : (p : ℕ) → In p (places f k) → number (numbering f) p ≤ 255 → Counts f k p (number (numbering f) p)
  number_counts p m n = go (((numbering_complete f g).closed k l).counted p m)
    where
      go : Counted f k (numbering f) p → Counts f k p (number (numbering f) p)
      go (inl e) = absurd (omega arith)
      go (inr c) = c.1

pub accepted_rule : (f : List ℕ) (n m : ℕ) → check_refusal f n m ≡ None → (k : ℕ) → k < methods f → KeepsRule f k (number (numbering f))
accepted_rule f n m e k l = let r = accepted_parts f n m e in numberable_rule f r.0.0 k l (r.1 k l)

pub numbers_counted : NumbersCounted
numbers_counted f n m e k p (l, i) d = (
  λ h. subst (λ (z : ℕ). Counts f k p z) h.0 (number_counts f g k l p i (subst (λ (z : ℕ). z ≤ 255) (sym h.0) h.1)),
  λ c. let r = counts_numbered f g k l (number (numbering f)) (accepted_rule f n m e k l) c in (r.1, r.2),
)
  where
    g : Accepted f
    g = (accepted_parts f n m e).0.0

pub numbers_reached : NumbersReached
numbers_reached f n m e k p (l, i) = (
  λ h. counts_reached (number_counts f g k l p i (leb-true (number (numbering f) p) 255 h)),
  λ r. let w = accepted_rule f n m e k l in le-leb (number (numbering f) p) 255 (counts_numbered f g k l (number (numbering f)) w (reached_counts f g k l (number (numbering f)) w r)).2,
)
  where
    g : Accepted f
    g = (accepted_parts f n m e).0.0

pub agrees : Agrees
agrees f s a k p (l, i) n =
    let h = admits f s a in
    (counts_numbered f h.accepted k l (number s) (keeps_rule f h.accepted s h.kept k l) (number_counts f h.accepted k l p i (leb-true (number (numbering f) p) 255 n))).1

pub agrees_where_reached : AgreesWhereReached
agrees_where_reached f s a k p l r =
    let h = admits f s a in
    let g = h.accepted in
    let w = numbering_rule f g k l (number s) (keeps_rule f g s h.kept k l) in
    let c = reached_counts f g k l (number (numbering f)) w r in
    let n = counts_numbered f g k l (number (numbering f)) w c in
    let v = le-leb (number (numbering f) p) 255 n.2 in
    (v, agrees f s a k p (l, n.0) v)
