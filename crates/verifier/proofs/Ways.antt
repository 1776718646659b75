-- What a numbering that keeps the rule says of the places that a method's start reaches. Assumes nothing.
use Rattle.std.proofs.Common.{◌≡◌, ℕ, ◌<◌, ◌≤◌, List, sym, ap, ◌∙◌, subst, arith}
use Rattle.format.specs.Layout.{methods, code_address}
use Rattle.format.specs.Parts.{Accepted}
use Rattle.format.proofs.Finds.{In}
use Rattle.bytecode.specs.Places.{places}
use Rattle.verifier.specs.Numbering.{depth_after}
use Rattle.verifier.specs.Verdicts.{Reached, at_start, onward, Counts, none_at_start, result_onward, KeepsRule}
use Rattle.verifier.proofs.Places.{start_is_place}

pub counts_reached : {f : List ℕ} {k p d : ℕ} → Counts f k p d → Reached f k p
counts_reached none_at_start = at_start
counts_reached (result_onward c i) = onward (counts_reached c) i

module _ (f : List ℕ) (g : Accepted f) (k : ℕ) (l : k < methods f) (a : ℕ → ℕ) (w : KeepsRule f k a) where
  -- it has the depth of every way
  pub counts_numbered : {p d : ℕ} → Counts f k p d → In p (places f k) × (a p ≡ d) × (d ≤ 255)
  counts_numbered none_at_start = (start_is_place f g k l, w.starts, omega arith)
  counts_numbered (result_onward {p} {q} {d} c i) =
      let h = counts_numbered c in
      let small : a p ≤ 255 = subst (λ (d : ℕ). d ≤ 255) (sym h.1) h.2 in
      let s = w.goes_on p h.0 small q i in
      (s.0, s.1 ∙ ap (λ (d : ℕ). depth_after f p d) h.1, subst (λ (d : ℕ). depth_after f p d ≤ 255) h.1 (w.balances p h.0 small).1)

  -- every reached place is one to which some way counts
  pub reached_counts : {p : ℕ} → Reached f k p → Counts f k p (a p)
  reached_counts at_start = subst (λ (d : ℕ). Counts f k (code_address f k) d) (sym w.starts) none_at_start
  reached_counts (onward {p} {q} r i) =
      let c = reached_counts r in
      let h = counts_numbered c in
      subst (λ (d : ℕ). Counts f k q d) (sym (w.goes_on p h.0 h.2 q i).1) (result_onward c i)
