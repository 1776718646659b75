-- A search of the methods, as the library says what it finds. Assumes nothing.
use Rattle.std.proofs.Common.{◌≡◌, ℕ, ◌<◌, Bool, true, false, List, Some, Option, sym, refl, ◌∙◌, arith, MatchOption}
use Rattle.std.specs.Bool.{⊤}
use Rattle.std.specs.Fn.{CalledAt}
use Rattle.std.specs.Iterator.{YieldsThen}
use Rattle.std.specs.List.{FoldsTo}
use Rattle.std.proofs.iter.Yields.{nat_range_steps}
use Rattle.std.proofs.lemmas.Iterator.{YieldsList-from_range}
use Rattle.std.proofs.lemmas.Iterator.Adapters.{option_map_id}
use Rattle.std.proofs.lemmas.Iterator.Search.{find_from_yields_List}
use Rattle.std.specs.declared.ops.Range.{Range}
use Rattle.format.specs.Search.{first, upto}
use Rattle.format.proofs.Finds.{first_some, upto_in}
use denote.Param.Members.{Mut}
use denote.Ref.{Bor}

module _ {F : Type 0} {g : Mut F (Bor ℕ × Unit {0}) Bool} {f : F} (t : ℕ → Bool) (n m : ℕ) (r : Option ℕ) where
  -- it finds the first method that passes the test
  pub sought : (u : Range ℕ) → (xs : List ℕ) × (j : F) × YieldsThen nat_range_steps (record { start = 0; end = m }) xs r u × FoldsTo (λ p x q. CalledAt g p x false q) f xs j × MatchOption r ⊤ (λ x. (h : F) × CalledAt g j x true h) →
      m ≡ n → ((x : ℕ) (b : Bool) (q : F) → CalledAt g f x b q → (q ≡ f) × (b ≡ t x)) → r ≡ first t (upto n)
  sought u ran e k = sym (option_map_id r) ∙ find_from_yields_List t u f r ran (YieldsList-from_range 0 m n refl (omega arith)) k

-- and the method is one that there is
pub sought_below : (t : ℕ → Bool) (n k : ℕ) {r : Option ℕ} → r ≡ first t (upto n) → r ≡ Some k → k < n
sought_below t n k h e = upto_in n k (first_some t (upto n) k (sym h ∙ e)).0
