-- What the count of a go says of each instruction before it. Assumes nothing.
use Rattle.std.proofs.Common.{◌≡◌, ℕ, zero, suc, ◌+◌, ◌<◌, ◌≤◌, Bool, true, false, cond, eqb, ltb, List, length, is_some, Some, None, Option, sym, refl, ◌∙◌, subst, inl, inr, zero-le, add-zero, add-suc, suc-add, zero-add, arith}
use Rattle.std.specs.Option.{option_map}
use Rattle.std.proofs.lemmas.Bool.{cases_order, ltb-false, eq-eqb, both_ways}
use Rattle.format.specs.Search.{◌else◌, when}
use Rattle.machine.specs.Machine.{Fed, awaits_input, after}
use Rattle.machine.specs.declared.stop.Stop.{Stop}
use Rattle.machine.specs.declared.stop.Stop.TheVariants.{Ended, Spent, NoUnit, NoRoom}
use Rattle.machine.specs.Go.{next_text, hindrance, stop_at, least, count}

module _ (t : ℕ → Bool) where
  pub least_below : (n i j : ℕ) → i ≤ j → j < least t n i → t j ≡ false
  least_below zero i j l h = absurd (omega arith)
  least_below (suc n) i j l h = go (t i) refl h (least_below n (suc i) j)
    where
      go : (b : Bool) → t i ≡ b → suc j ≤ (cond b i (least t n (suc i))) →
          (suc i ≤ j → j < least t n (suc i) → t j ≡ false) → t j ≡ false
      go true e h ih = absurd (omega arith)
      go false e h ih =
          elim (cases_order i j) [
            | inl p ↦ (rw p at e)
            | inr (inl p) ↦ ih p h
            | inr (inr p) ↦ absurd (omega arith)
          ]

  pub least_within : (n i : ℕ) → least t n i ≤ i + n
  least_within zero i = omega arith
  least_within (suc n) i = go (t i) (least_within n (suc i))
    where
      go : (b : Bool) → least t n (suc i) ≤ suc i + n → (cond b i (least t n (suc i))) ≤ i + suc n
      go true h = omega arith
      go false h = omega arith

  pub least_passes : (n i : ℕ) → t (i + n) ≡ true → t (least t n i) ≡ true
  least_passes zero i h = rw add-zero at h
  least_passes (suc n) i h = go (t i) refl (least_passes n (suc i) (subst (λ (k : ℕ). t k ≡ true) (add-suc i n ∙ sym (suc-add i n)) h))
    where
      go : (b : Bool) → t i ≡ b → t (least t n (suc i)) ≡ true → t (cond b i (least t n (suc i))) ≡ true
      go true e h = e
      go false e h = h

  -- the least is the only one that passes after none that does
  pub least_is : (n m : ℕ) → t (0 + n) ≡ true → ((j : ℕ) → j < m → t j ≡ false) → t m ≡ true → least t n 0 ≡ m
  least_is n m last below here =
      elim (cases_order (least t n 0) m) [
        | inl p ↦ p
        | inr (inl p) ↦ absurd (both_ways (t (least t n 0)) (below (least t n 0) p) (least_passes n 0 last))
        | inr (inr p) ↦ absurd (both_ways (t m) (least_below n 0 m zero-le p) here)
      ]

else_none : {A : Type 0} (a b : Option A) → is_some (a else b) ≡ false → (is_some a ≡ false) × (is_some b ≡ false)
else_none None b e = (refl, e)
else_none (Some x) b e = (cc, cc)

when_none : {A : Type 0} (b : Bool) (x : A) → is_some (when b x) ≡ false → b ≡ false
when_none true x e = cc
when_none false x e = refl

-- no stop: not ended, not spent, not hindered
pub record Runs (f s : List ℕ) (cells room fuel j : ℕ) (x : Fed) : Type 0 where
  pub alive : is_some x.state.ended ≡ false
  pub fuelled : eqb j fuel ≡ false
  pub free : is_some (hindrance f s cells room x) ≡ false
  pub fed : awaits_input f x ≡ false
  pub roomy : length x.wrote + length (next_text f x.state) ≤ room

mapped_none : {A B : Type 0} (g : A → B) (o : Option A) → is_some (option_map g o) ≡ is_some o
mapped_none g None = refl
mapped_none g (Some x) = refl

pub runs : (f s : List ℕ) (cells room fuel j : ℕ) (x : Fed) → is_some (stop_at f s cells room fuel j x) ≡ false → Runs f s cells room fuel j x
runs f s cells room fuel j x e =
    let a = else_none (option_map Ended x.state.ended) (when (eqb j fuel) Spent else hindrance f s cells room x) e in
    let b = else_none (when (eqb j fuel) Spent) (hindrance f s cells room x) a.1 in
    let c = else_none (when (awaits_input f x) NoUnit) _ b.1 in
    record {
      alive = sym (mapped_none Ended x.state.ended) ∙ a.0;
      fuelled = when_none (eqb j fuel) Spent b.0;
      free = b.1;
      fed = when_none (awaits_input f x) NoUnit c.0;
      roomy = ltb-false room (length x.wrote + length (next_text f x.state)) (when_none _ NoRoom (else_none (when (ltb room (length x.wrote + length (next_text f x.state))) NoRoom) _ c.1).0);
    }

pub count_goes : (f s : List ℕ) (cells room fuel : ℕ) (x : Fed) (j : ℕ) → j < count f s cells room fuel x →
    is_some (stop_at f s cells room fuel j (after f s j x)) ≡ false
count_goes f s cells room fuel x j l =
    least_below (λ k. is_some (stop_at f s cells room fuel k (after f s k x))) fuel 0 j zero-le l

pub count_runs : (f s : List ℕ) (cells room fuel : ℕ) (x : Fed) (j : ℕ) → j < count f s cells room fuel x →
    Runs f s cells room fuel j (after f s j x)
count_runs f s cells room fuel x j l =
    runs f s cells room fuel j (after f s j x) (count_goes f s cells room fuel x j l)

else_some : {A : Type 0} (a b : Option A) → is_some b ≡ true → is_some (a else b) ≡ true
else_some None b e = e
else_some (Some x) b e = refl

-- the other way round
pub no_stop : (f s : List ℕ) (cells room fuel j : ℕ) (x : Fed) →
    is_some x.state.ended ≡ false → eqb j fuel ≡ false → is_some (hindrance f s cells room x) ≡ false →
    is_some (stop_at f s cells room fuel j x) ≡ false
no_stop f s cells room fuel j x a b c = both (option_map Ended x.state.ended) _ (mapped_none Ended x.state.ended ∙ a) (both (when (eqb j fuel) Spent) _ (none (eqb j fuel) b) c)
  where
    both : (a b : Option Stop) → is_some a ≡ false → is_some b ≡ false → is_some (a else b) ≡ false
    both None b e d = d
    both (Some x) b e d = e

    none : (b : Bool) → b ≡ false → is_some (when b Spent) ≡ false
    none true e = cc
    none false e = refl

-- with the fuel Spent a go stops
pub spent_stops : (f s : List ℕ) (cells room fuel : ℕ) (x : Fed) → is_some (stop_at f s cells room fuel fuel x) ≡ true
spent_stops f s cells room fuel x =
    else_some (option_map Ended x.state.ended) _ (first (eqb fuel fuel) (eq-eqb fuel fuel refl))
  where
    first : (b : Bool) → b ≡ true → is_some (when b Spent else hindrance f s cells room x) ≡ true
    first true e = refl
    first false e = cc

module _ (f s : List ℕ) (cells room fuel : ℕ) (x : Fed) where
  abbrev stops : ℕ → Bool
  stops j = is_some (stop_at f s cells room fuel j (after f s j x))

  last_stops : stops (0 + fuel) ≡ true
  last_stops = subst (λ (k : ℕ). stops k ≡ true) (sym (zero-add fuel)) (spent_stops f s cells room fuel (after f s fuel x))

  pub count_within : count f s cells room fuel x ≤ fuel
  count_within = subst (λ (k : ℕ). count f s cells room fuel x ≤ k) (zero-add fuel) (least_within stops fuel 0)

  pub count_stops : stops (count f s cells room fuel x) ≡ true
  count_stops = least_passes stops fuel 0 last_stops

  pub count_is : (m : ℕ) → ((j : ℕ) → j < m → stops j ≡ false) → stops m ≡ true → count f s cells room fuel x ≡ m
  count_is m below here = least_is stops fuel m last_stops below here
