-- The operands keep the sheet's numbers, and the machine never goes astray. Assumes nothing.
use Rattle.std.proofs.Common.{◌≡◌, ℕ, zero, suc, Bool, true, false, cond, not, ◌&&◌, List, [], ◌∷◌, length, drop, is_some, Some, None, Option, unwrap_or, sym, refl, ap, ◌∙◌, subst, arith}
use lib.ListN.{length-replicate}
use Rattle.std.proofs.lemmas.Bool.{le-leb, or_parts}
use Rattle.format.specs.Layout.{entry, code_address}
use Rattle.bytecode.specs.declared.instruction.Instruction.{Instruction}
use Rattle.bytecode.specs.Opcodes.{decode}
use Rattle.verifier.specs.Numbering.{number}
use Rattle.verifier.proofs.Places.{in_is_place}
use Rattle.verifier.proofs.Peaks.{peak_above}
use Rattle.machine.specs.Machine.{Frame, Fed, fed, execute, execute_if, awaits_input, idle, within_peak, executed, astray, step, after, main, machine_after}
use Rattle.machine.specs.Rows.{Waits, KeepsLevel}
use Rattle.machine.proofs.Invariant.{Good, good_from, Stack, Sure, made_some, can}

pub within : (f s : List ℕ) → Good f s → (y : Fed) → Sure f s y.state → within_peak s (Some y) ≡ Some y
within f s good y sure =
    let k : ℕ = y.state.running.method in
    let p : ℕ = y.state.place in
    let e = good.facts.peaks k sure.below in
    let h = peak_above f s k p sure.stands sure.few in
    let l = sure.level in
    ap (λ (b : Bool). cond b (Some y) None) (le-leb (length y.state.running.operands) (number s (entry k)) (omega arith))

-- the next instruction is done, and what held before it holds after it
pub doable : (f s : List ℕ) → Good f s → (x : Fed) → Sure f s x.state → awaits_input f x ≡ false → (y : Fed) × (executed f s x ≡ Some y) × Sure f s y.state
doable f s good x sure n =
    let c = can f s good x sure n in
    let m = made_some f s (execute f x c.0 x.state.running.operands) c.2 in (
      m.0,
      ap (λ (b : Bool). cond b (execute_if f s x (decode (drop x.state.place f))) None) (in_is_place f x.state.running.method x.state.place sure.stands)
          ∙ ap (λ (o : Option Instruction). execute_if f s x o) c.1
          ∙ ap (within_peak s) m.1 ∙ within f s good m.0 m.2,
      m.2,
    )

-- a machine that is not idle does not wait for a unit
fed_enough : (f : List ℕ) (x : Fed) → idle f x ≡ false → awaits_input f x ≡ false
fed_enough f x e = (or_parts (is_some x.state.ended) (awaits_input f x) e).1

pub stepped : (f s : List ℕ) → Good f s → (x : Fed) → Sure f s x.state → (b : Bool) → idle f x ≡ b →
    Sure f s (step f s x).state × (astray f s x ≡ false)
stepped f s good x sure true e = (
  subst (λ (y : Fed). Sure f s y.state) (sym (ap (λ (b : Bool). cond b x (unwrap_or (executed f s x) x)) e)) sure,
  ap (λ (b : Bool). not b && not (is_some (executed f s x))) e,
)
stepped f s good x sure false e =
    let d = doable f s good x sure (fed_enough f x e) in (
      subst (λ (y : Fed). Sure f s y.state)
          (sym (ap (λ (b : Bool). cond b x (unwrap_or (executed f s x) x)) e ∙ ap (λ (o : Option Fed). unwrap_or o x) d.1)) d.2,
      ap (λ (b : Bool). not b && not (is_some (executed f s x))) e ∙ ap (λ (o : Option Fed). not (is_some o)) d.1,
    )

pub sure_after : (f s : List ℕ) → Good f s → (n : ℕ) (x : Fed) → Sure f s x.state → Sure f s (after f s n x).state
sure_after f s good zero x sure = sure
sure_after f s good (suc n) x sure = sure_after f s good n (step f s x) (stepped f s good x sure (idle f x) refl).0

pub sure_main : (f s : List ℕ) → Good f s → Sure f s (main f)
sure_main f s good =
    let some = good.facts.layout.some in
    let z : number s (code_address f 0) ≡ 0 = (good.facts.rule 0 some).starts in
    let n = good.facts.layout.main in
    record {
      below = some;
      stands = good.facts.opens 0 some;
      few = omega arith;
      level = sym z;
      wide = simp length-replicate (omega arith);
      stack = tt;
    }

-- what the invariant says of the frames that wait
waits : (f s : List ℕ) (r : Frame) (ws : List Frame) → Stack f s r.method r.return_place ws → Waits f s r ws
waits f s r [] st = tt
waits f s r (c ∷ cs) st =
    let k = st.0 in
    ((k.site, k.return_place, (in_is_place f c.method k.site k.stands, sym k.calls, k.callee), k.level), waits f s c cs st.1)

pub keeps_level : KeepsLevel
keeps_level f s a n us =
    let x : Fed = machine_after f s n us in
    let good = good_from f s a in
    let h = sure_after f s good n (fed (main f) us []) (sure_main f s good) in
    ((in_is_place f x.state.running.method x.state.place h.stands, h.level, waits f s x.state.running x.state.waiting h.stack), (stepped f s good x h (idle f x) refl).1)
