-- The plain machine of an admitted file is the same with every sheet that is admitted for it. Assumes nothing.
use Rattle.std.proofs.Common.{◌≡◌, ℕ, zero, suc, Bool, true, false, cond, not, ◌&&◌, leb, List, [], length, drop, is_some, Some, None, Option, unwrap_or, sym, refl, ap, ◌∙◌, subst}
use Rattle.format.specs.Layout.{entry}
use Rattle.bytecode.specs.declared.instruction.Instruction.{Instruction}
use Rattle.bytecode.specs.Opcodes.{decode}
use Rattle.bytecode.specs.Places.{is_place}
use Rattle.verifier.specs.Numbering.{number, Admitted}
use Rattle.machine.specs.Machine.{Fed, fed, main, execute, execute_if, idle, within_peak, executed, astray, step, machine_after}
use Rattle.machine.proofs.Wide.{after_last}
use Rattle.machine.proofs.Level.{keeps_level}

-- the next instruction done with no sheet to bound the values
abbrev bare_if : List ℕ → Fed → Option Instruction → Option Fed
bare_if f x None = None
bare_if f x (Some i) = execute f x i x.state.running.operands

abbrev bare : List ℕ → Fed → Option Fed
bare f x = cond (is_place f x.state.running.method x.state.place) (bare_if f x (decode (drop x.state.place f))) None

-- what is done within the peak is what is done
bound : (s : List ℕ) (o : Option Fed) (y : Fed) → within_peak s o ≡ Some y → o ≡ Some y
bound s None y e = e
bound s (Some z) y e = go (leb (length z.state.running.operands) (number s (entry z.state.running.method))) e
  where
    go : (b : Bool) → ◌≡◌ {A = Option Fed} (cond b (Some z) None) (Some y) → Some z ≡ Some y
    go true e = e
    go false e = cc

executed_bare : (f s : List ℕ) (x y : Fed) → executed f s x ≡ Some y → bare f x ≡ Some y
executed_bare f s x y e = go (is_place f x.state.running.method x.state.place) e
  where
    read : (o : Option Instruction) → execute_if f s x o ≡ Some y → bare_if f x o ≡ Some y
    read None e = e
    read (Some p) e = bound s (execute f x p x.state.running.operands) y e

    go : (b : Bool) → ◌≡◌ {A = Option Fed} (cond b (execute_if f s x (decode (drop x.state.place f))) None) (Some y) →
        ◌≡◌ {A = Option Fed} (cond b (bare_if f x (decode (drop x.state.place f))) None) (Some y)
    go false e = e
    go true e = read (decode (drop x.state.place f)) e

-- so two sheets by neither of which the machine is astray lead it on alike
same_step : (f s s' : List ℕ) (x : Fed) → astray f s x ≡ false → astray f s' x ≡ false → step f s x ≡ step f s' x
same_step f s s' x a a' = go (idle f x) (executed f s x) (executed f s' x) (executed_bare f s x) (executed_bare f s' x) a a'
  where
    go : (b : Bool) (o o' : Option Fed) → ((y : Fed) → o ≡ Some y → bare f x ≡ Some y) → ((y : Fed) → o' ≡ Some y → bare f x ≡ Some y) →
        (not b && not (is_some o)) ≡ false → (not b && not (is_some o')) ≡ false →
        ◌≡◌ {A = Fed} (cond b x (unwrap_or o x)) (cond b x (unwrap_or o' x))
    go true o o' h h' a a' = refl
    go false None o' h h' a a' = cc
    go false (Some y) None h h' a a' = cc
    go false (Some y) (Some y') h h' a a' = cc (h y refl, h' y' refl)

pub same_fed : (f s s' : List ℕ) → Admitted f s → Admitted f s' → (n : ℕ) (us : List ℕ) → machine_after f s n us ≡ machine_after f s' n us
same_fed f s s' a a' zero us = refl
same_fed f s s' a a' (suc n) us =
    let x = fed (main f) us [] in
    let i = same_fed f s s' a a' n us in
    after_last f s n x ∙ ap (step f s) i ∙
    same_step f s s' (machine_after f s' n us) (subst (λ (y : Fed). astray f s y ≡ false) i (keeps_level f s a n us).1) (keeps_level f s' a' n us).1 ∙
    sym (after_last f s' n x)
