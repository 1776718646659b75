-- What a loop over indices knows as it starts, at each turn, where it stops, and at its end. Assumes nothing.
use Rattle.std.proofs.Common.{◌≡◌, ℕ, ◌+◌, ◌<◌, Bool, true, false, ◌⊎◌, Some, None, sym, ap, inl, inr, arith}
use Rattle.std.specs.Option.{option_map}
use Rattle.std.proofs.lemmas.Bool.{cases_eq}
use Rattle.refusals.specs.declared.Rule.{Rule}
use Rattle.format.specs.Search.{first, upto}
use Rattle.format.specs.Rules.{refused}
use Rattle.format.proofs.Finds.{none_below, below_none, first_is}

pub first_start : (t : ℕ → Bool) → first t (upto 0) ≡ None
first_start t = below_none t 0 (λ k l. absurd (omega arith))

pub first_more : (t : ℕ → Bool) (i : ℕ) → first t (upto i) ≡ None → t i ≡ false → first t (upto (i + 1)) ≡ None
first_more t i h e = below_none t (i + 1) (λ k l. pick k l (cases_eq k i))
  where
    pick : (k : ℕ) → k < i + 1 → (k ≡ i) ⊎ (k ≡ i → ⊥) → t k ≡ false
    pick k l (inl q) = rw q e
    pick k l (inr ne) = none_below t i h k (omega arith)

-- what is said where the loop stops, and at its end
pub stops : (r : Rule) (place : ℕ → ℕ) (t : ℕ → Bool) (i m : ℕ) → first t (upto i) ≡ None → t i ≡ true → i < m → Some (record { rule = r; place = place i }) ≡ refused r (option_map place (first t (upto m)))
stops r place t i m h e l = sym (ap (λ o. refused r (option_map place o)) (first_is t m i l e (none_below t i h)))

pub ends : (r : Rule) (place : ℕ → ℕ) (t : ℕ → Bool) (i m : ℕ) → first t (upto i) ≡ None → i ≡ m → None ≡ refused r (option_map place (first t (upto m)))
ends r place t i m h e = rw (sym e, h)

pub ruleset firsts = (first_start, first_more, stops, ends)
