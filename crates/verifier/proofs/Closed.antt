-- The sheets in which nothing is left to number: they keep the rule together, and then they agree. Assumes nothing.
use Rattle.std.proofs.Common.{◌≡◌, ℕ, ◌<◌, ◌≤◌, Bool, true, false, ◌⊎◌, List, sym, refl, ap, ◌∙◌, subst, inl, inr, arith}
use Rattle.std.proofs.lemmas.List.{ext_get_or}
use Rattle.std.proofs.lemmas.Bool.{both_ways}
use Rattle.format.specs.Layout.{methods}
use Rattle.format.specs.Parts.{Accepted}
use Rattle.format.proofs.Finds.{In}
use Rattle.bytecode.specs.Places.{places, takes, successors}
use Rattle.verifier.specs.Numbering.{blank, number, depth_after, method_breaks}
use Rattle.verifier.specs.Verdicts.{Counts, KeepsRule}
use Rattle.verifier.specs.Worklist.{Counted, Closed, Complete}
use Rattle.verifier.proofs.Places.{place_cases}
use Rattle.verifier.proofs.Rule.{parts_balanced, method_rule, rule_method}
use Rattle.verifier.proofs.Ways.{counts_numbered}

module _ (f : List ℕ) (g : Accepted f) (k : ℕ) (l : k < methods f) where
  -- if some numbering of the method keeps the rule, a closed sheet does
  pub closed_rule : (s : List ℕ) → Closed f k s → (a : ℕ → ℕ) → KeepsRule f k a → KeepsRule f k (number s)
  closed_rule s c a w = record {
    starts = c.starts;
    formed = λ p m. formed p (c.counted p m);
    balances = balances;
    goes_on = λ p m h q i. let r = w.goes_on p m (was p m h) q i in (r.0, next p m h q i r.0 r.1);
  }
    where
      formed : (p : ℕ) → Counted f k s p → (number s p ≤ 255) ⊎ (number s p ≡ blank)
      formed p (inl e) = inr e
      formed p (inr h) = inl h.0

      counts : (p : ℕ) → number s p ≤ 255 → Counted f k s p → Counts f k p (number s p)
      counts p h (inl e) = absurd (omega arith)
      counts p h (inr c) = c.1

      same : (p : ℕ) → In p (places f k) → number s p ≤ 255 → a p ≡ number s p
      same p m h = (counts_numbered f g k l a w (counts p h (c.counted p m))).1

      was : (p : ℕ) → In p (places f k) → number s p ≤ 255 → a p ≤ 255
      was p m h = subst (λ (d : ℕ). d ≤ 255) (sym (same p m h)) h

      balances : (p : ℕ) → In p (places f k) → number s p ≤ 255 → (takes f p ≤ number s p) × (depth_after f p (number s p) ≤ 255)
      balances p m h = subst (λ (d : ℕ). (takes f p ≤ d) × (depth_after f p d ≤ 255)) (same p m h) (w.balances p m (was p m h))

      next : (p : ℕ) → In p (places f k) → number s p ≤ 255 → (q : ℕ) → In q (successors f p) → In q (places f k) → a q ≡ depth_after f p (a p) → number s q ≡ depth_after f p (number s p)
      next p m h q i j e = sym (same q j (c.settled p m h (parts_balanced f p (number s p) (balances p m h)) q i j)) ∙ e ∙ ap (λ (d : ℕ). depth_after f p d) (same p m h)

  -- two closed sheets both break the rule in the method, or neither does
  pub closed_breaks : (s t : List ℕ) → Closed f k s → Closed f k t → method_breaks f s k ≡ method_breaks f t k
  closed_breaks s t c d = go (method_breaks f s k) (method_breaks f t k) refl refl
    where
      follows : (s t : List ℕ) → Closed f k t → method_breaks f s k ≡ false → method_breaks f t k ≡ false
      follows s t d e = rule_method f t k (closed_rule t d (number s) (method_rule f g s k l e))

      go : (a b : Bool) → method_breaks f s k ≡ a → method_breaks f t k ≡ b → a ≡ b
      go true true x y = refl
      go true false x y = absurd (both_ways (method_breaks f s k) (follows t s c y) x)
      go false true x y = absurd (both_ways (method_breaks f t k) (follows s t d x) y)
      go false false x y = refl

  -- and where neither does, they have the same numbers there
  pub closed_same : (s t : List ℕ) → Closed f k s → Closed f k t → (a : ℕ → ℕ) → KeepsRule f k a → (p : ℕ) → In p (places f k) → number s p ≡ number t p
  closed_same s t c d a w p m = go (c.counted p m) (d.counted p m)
    where
      go : Counted f k s p → Counted f k t p → number s p ≡ number t p
      go (inr x) y = sym (counts_numbered f g k l (number t) (closed_rule t d a w) x.1).1
      go (inl x) (inr y) = (counts_numbered f g k l (number s) (closed_rule s c a w) y.1).1
      go (inl x) (inl y) = x ∙ sym y

-- sheets of a whole file are the same, where none of its methods breaks the rule
module _ (f : List ℕ) (g : Accepted f) (s t : List ℕ) (c : Complete f s) (d : Complete f t) where
  pub complete_same : ((k : ℕ) → k < methods f → method_breaks f t k ≡ false) → s ≡ t
  complete_same h = ext_get_or blank s t (c.long ∙ sym d.long) (λ p _. go p (place_cases f p))
    where
      go : (p : ℕ) → ((k : ℕ) × (k < methods f) × In p (places f k)) ⊎ ((k : ℕ) → k < methods f → In p (places f k) → ⊥) → number s p ≡ number t p
      go p (inl (k, l, m)) = closed_same f g k l s t (c.closed k l) (d.closed k l) (number t) (method_rule f g t k l (h k l)) p m
      go p (inr none) = c.others p none ∙ sym (d.others p none)
