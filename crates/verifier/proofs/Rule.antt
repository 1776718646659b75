-- The rule of a method's places, as a test of the sheet and as facts, each from the other. Assumes nothing.
use Rattle.std.proofs.Common.{◌≡◌, ℕ, ◌<◌, ◌≤◌, Bool, true, false, cond, not, ◌&&◌, ◌||◌, eqb, leb, ◌⊎◌, List, sym, refl, ap, ◌∙◌, subst, inl, inr, arith}
use Rattle.std.proofs.lemmas.Bool.{eqb-true, eq-eqb, leb-true, leb-false, le-leb, and_parts, and_from, cases_Bool}
use Rattle.std.proofs.lemmas.Bool.Decides.{nat_tests}
use Rattle.format.specs.Search.{all}
use Rattle.format.specs.Layout.{methods, code_address}
use Rattle.format.specs.Parts.{Accepted}
use Rattle.format.proofs.Finds.{In, all_true, true_all, any_false, false_any}
use Rattle.bytecode.specs.Places.{Point, points, places, is_place, takes, successors}
use Rattle.verifier.specs.Numbering.{blank, number, numbered, depth_after, balanced, keeps, is_start, breaks, method_breaks}
use Rattle.verifier.specs.Verdicts.{KeepsRule}
use Rattle.verifier.proofs.Places.{point, points_in, in_points, is_place_in, in_is_place, start_is_place}

-- the parts of a place's test
parts : (a b c d e : Bool) → (a && not b || cond c (not d) (not e)) ≡ false → (a ≡ true → b ≡ true) × (c ≡ true → d ≡ true) × (c ≡ false → e ≡ true)
parts a b c d e h = (λ x. grind (arith, nat_tests), λ x. grind (arith, nat_tests), λ x. grind (arith, nat_tests))

from_parts : (a b c d e : Bool) → (a ≡ true → b ≡ true) → (c ≡ true → d ≡ true) → (c ≡ false → e ≡ true) → (a && not b || cond c (not d) (not e)) ≡ false
from_parts a b c d e x y z = grind (arith, nat_tests)

pub balanced_parts : (f : List ℕ) (p d : ℕ) → balanced f p d ≡ true → (takes f p ≤ d) × (depth_after f p d ≤ 255)
balanced_parts f p d e = let r = and_parts (leb (takes f p) d) (numbered (depth_after f p d)) e in (leb-true (takes f p) d r.0, leb-true (depth_after f p d) 255 r.1)

pub parts_balanced : (f : List ℕ) (p d : ℕ) → (takes f p ≤ d) × (depth_after f p d ≤ 255) → balanced f p d ≡ true
parts_balanced f p d r = and_from (leb (takes f p) d) (numbered (depth_after f p d)) (le-leb (takes f p) d r.0) (le-leb (depth_after f p d) 255 r.1)

-- a place that does not break the rule
module _ (f s : List ℕ) (k p : ℕ) where
  abbrev d : ℕ
  d = number s p

  abbrev onward : ℕ → Bool
  onward q = is_place f k q && eqb (number s q) (depth_after f p d)

  abbrev Onward : Type 0
  Onward = (q : ℕ) → In q (successors f p) → In q (places f k) × (number s q ≡ depth_after f p d)

  pub record Unbroken : Type 0 where
    pub start : p ≡ code_address f k → d ≡ 0
    pub formed : (d ≤ 255) ⊎ (d ≡ blank)
    pub balances : d ≤ 255 → (takes f p ≤ d) × (depth_after f p d ≤ 255)
    pub goes_on : d ≤ 255 → Onward

  pub unbroken : breaks f s (point k p) ≡ false → Unbroken
  unbroken e = record {
    start = λ q. eqb-true d 0 (o.0 (eq-eqb p (code_address f k) q));
    formed = form (cases_Bool (numbered d));
    balances = λ l. balanced_parts f p d (kept l).0;
    goes_on = λ l q i. let r = and_parts (is_place f k q) (eqb (number s q) (depth_after f p d)) (all_true onward (successors f p) (kept l).1 q i) in
        (is_place_in f k q r.0, eqb-true (number s q) (depth_after f p d) r.1);
  }
    where
      o : (is_start f (point k p) ≡ true → eqb d 0 ≡ true) × (numbered d ≡ true → keeps f s (point k p) d ≡ true) × (numbered d ≡ false → eqb d blank ≡ true)
      o = parts (is_start f (point k p)) (eqb d 0) (numbered d) (keeps f s (point k p) d) (eqb d blank) e

      form : (numbered d ≡ true) ⊎ (numbered d ≡ false) → (d ≤ 255) ⊎ (d ≡ blank)
      form (inl n) = inl (leb-true d 255 n)
      form (inr n) = inr (eqb-true d blank (o.2 n))

      kept : d ≤ 255 → (balanced f p d ≡ true) × (all onward (successors f p) ≡ true)
      kept l = and_parts (balanced f p d) (all onward (successors f p)) (o.1 (le-leb d 255 l))

  pub from_unbroken : Unbroken → breaks f s (point k p) ≡ false
  from_unbroken u = from_parts (is_start f (point k p)) (eqb d 0) (numbered d) (keeps f s (point k p) d) (eqb d blank)
      (λ e. eq-eqb d 0 (u.start (eqb-true p (code_address f k) e)))
      (λ e. kept (leb-true d 255 e))
      (λ e. eq-eqb d blank (form (leb-false d 255 e) u.formed))
    where
      form : 255 < d → (d ≤ 255) ⊎ (d ≡ blank) → d ≡ blank
      form l (inl h) = absurd (omega arith)
      form l (inr h) = h

      kept : d ≤ 255 → keeps f s (point k p) d ≡ true
      kept l = and_from (balanced f p d) (all onward (successors f p)) (parts_balanced f p d (u.balances l))
          (true_all onward (successors f p) (λ q i. let r = u.goes_on l q i in and_from (is_place f k q) (eqb (number s q) (depth_after f p d)) (in_is_place f k q r.0) (eq-eqb (number s q) (depth_after f p d) r.1)))

-- a method none of whose places breaks the rule, and the numbers of the sheet
pub test_rule : (f s : List ℕ) (k : ℕ) → In (code_address f k) (places f k) → ((p : ℕ) → In p (places f k) → breaks f s (point k p) ≡ false) → KeepsRule f k (number s)
test_rule f s k i h = record {
  starts = (unbroken f s k (code_address f k) (h (code_address f k) i)).start refl;
  formed = λ p m. (unbroken f s k p (h p m)).formed;
  balances = λ p m. (unbroken f s k p (h p m)).balances;
  goes_on = λ p m. (unbroken f s k p (h p m)).goes_on;
}

pub rule_test : (f s : List ℕ) (k p : ℕ) → KeepsRule f k (number s) → In p (places f k) → breaks f s (point k p) ≡ false
rule_test f s k p w m = from_unbroken f s k p (record {
  start = λ e. ap (number s) e ∙ w.starts;
  formed = w.formed p m;
  balances = w.balances p m;
  goes_on = w.goes_on p m;
})

pub method_rule : (f : List ℕ) → Accepted f → (s : List ℕ) (k : ℕ) → k < methods f → method_breaks f s k ≡ false → KeepsRule f k (number s)
method_rule f g s k l e = test_rule f s k (start_is_place f g k l) (any_false (λ (p : ℕ). breaks f s (point k p)) (places f k) e)

pub rule_method : (f s : List ℕ) (k : ℕ) → KeepsRule f k (number s) → method_breaks f s k ≡ false
rule_method f s k w = false_any (λ (p : ℕ). breaks f s (point k p)) (places f k) (λ p m. rule_test f s k p w m)

-- the sheet of a file
abbrev pub Keeps : List ℕ → List ℕ → Type 0
Keeps f s = (x : Point) → In x (points f) → breaks f s x ≡ false

pub keeps_rule : (f : List ℕ) → Accepted f → (s : List ℕ) → Keeps f s → (k : ℕ) → k < methods f → KeepsRule f k (number s)
keeps_rule f g s h k l = test_rule f s k (start_is_place f g k l) (λ p m. h (point k p) (in_points f k p l m))

pub rule_keeps : (f s : List ℕ) → ((k : ℕ) → k < methods f → KeepsRule f k (number s)) → Keeps f s
rule_keeps f s h x i = let r = points_in f x i in rule_test f s x.method x.place (h x.method r.0) r.1

-- other numbers that are the same at the method's places
pub rule_same : (f : List ℕ) (k : ℕ) (a b : ℕ → ℕ) → In (code_address f k) (places f k) → ((p : ℕ) → In p (places f k) → a p ≡ b p) → KeepsRule f k a → KeepsRule f k b
rule_same f k a b i e w = record {
  starts = sym (e (code_address f k) i) ∙ w.starts;
  formed = λ p m. subst (λ (d : ℕ). (d ≤ 255) ⊎ (d ≡ blank)) (e p m) (w.formed p m);
  balances = λ p m l. subst (λ (d : ℕ). (takes f p ≤ d) × (depth_after f p d ≤ 255)) (e p m) (w.balances p m (was p m l));
  goes_on = λ p m l q j. let r = w.goes_on p m (was p m l) q j in (r.0, sym (e q r.0) ∙ r.1 ∙ ap (λ (d : ℕ). depth_after f p d) (e p m));
}
  where
    was : (p : ℕ) → In p (places f k) → b p ≤ 255 → a p ≤ 255
    was p m l = subst (λ (d : ℕ). d ≤ 255) (sym (e p m)) l
