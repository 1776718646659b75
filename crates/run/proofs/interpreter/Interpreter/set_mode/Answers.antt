use Rattle.std.proofs.Common.{◌≡◌, ◌+◌, ◌∙◌, ℕ, ◌<◌, Bool, cond, None, sym, refl, ap, subst, arith}
use Rattle.std.proofs.lemmas.Bool.{lt-ltb}
use Rattle.bytecode.specs.Places.{next}
use Rattle.run.proofs.Ready.{ready}
use Rattle.bytecode.specs.declared.instruction.Instruction.TheVariants.{Setout}
use Rattle.frames.specs.Frames.{running, waiting, kept_refl}
use Rattle.output.specs.Mode.{mode_number}
use Rattle.machine.specs.Machine.{State, fed, set_mode}
use Rattle.run.specs.Standing.{program, state_of}
use Rattle.run.proofs.Steps.{place_small, code, mode_there, next_is, finished}
use Rattle.run.proofs.interpreter.Interpreter.set_mode.Goals as goal

pub overflow_add-self : goal.overflow_add-self
overflow_add-self c = let l = place_small c.args.self.now in omega arith

pub invariant_of-self : goal.invariant_of-self
invariant_of-self c =
    let m = c.args.self.now in
    let i = c.args.index in
    let inside : i < 3 = subst (λ (j : ℕ). j < 3) (code m (Setout i) c.requires.here).arguments (mode_there m (Setout i) c.requires.here refl) in
    let st : State = record { running = running m.frames; waiting = waiting m.frames; place = next (program m) m.place; mode = i; ended = m.ended } in
    let n : mode_number c.from-self.result ≡ i = omega (arith, c.from-self.ensures, inside) in
    let e = next_is m (Setout i) c.requires.here in
    record {
      sound = (finished m (Setout i) c.requires.here refl st
          (λ us vs. ap (λ (b : Bool). cond b (set_mode (program m) (fed (state_of m) us vs) i) None) (lt-ltb i 3 inside))
          m.frames (m.place + 2) c.from-self.result m.ended (kept_refl m.frames)
          (ap (λ (q : ℕ). record { running = running m.frames; waiting = waiting m.frames; place = q; mode = mode_number c.from-self.result; ended = m.ended }) (sym e)
          ∙ ap (λ (k : ℕ). record { running = running m.frames; waiting = waiting m.frames; place = next (program m) m.place; mode = k; ended = m.ended }) n) (ready m).fit).holds;
    }

pub returns : goal.returns
returns c =
    let m = c.args.self.now in
    let i = c.args.index in
    let inside : i < 3 = subst (λ (j : ℕ). j < 3) (code m (Setout i) c.requires.here).arguments (mode_there m (Setout i) c.requires.here refl) in
    let st : State = record { running = running m.frames; waiting = waiting m.frames; place = next (program m) m.place; mode = i; ended = m.ended } in
    let n : mode_number c.from-self.result ≡ i = omega (arith, c.from-self.ensures, inside) in
    let e = next_is m (Setout i) c.requires.here in
    (finished m (Setout i) c.requires.here refl st
    (λ us vs. ap (λ (b : Bool). cond b (set_mode (program m) (fed (state_of m) us vs) i) None) (lt-ltb i 3 inside))
    m.frames (m.place + 2) c.from-self.result m.ended (kept_refl m.frames)
    (ap (λ (q : ℕ). record { running = running m.frames; waiting = waiting m.frames; place = q; mode = mode_number c.from-self.result; ended = m.ended }) (sym e)
    ∙ ap (λ (k : ℕ). record { running = running m.frames; waiting = waiting m.frames; place = next (program m) m.place; mode = k; ended = m.ended }) n) (ready m).fit).does _
