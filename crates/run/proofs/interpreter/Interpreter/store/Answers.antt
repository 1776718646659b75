use Rattle.std.proofs.Common.{◌≡◌, ℕ, ◌<◌, Bool, cond, List, ◌∷◌, length, Some, None, sym, refl, ap, ◌∙◌, subst, arith}
use Rattle.std.proofs.lemmas.Bool.{lt-ltb}
use Rattle.bytecode.specs.Places.{next}
use Rattle.bytecode.specs.declared.instruction.Instruction.TheVariants.{Istore}
use Rattle.frames.specs.Frames.{running, kept_trans}
use Rattle.machine.specs.Machine.{Frame, Fed, execute, fed, store, with_variable, continue_at}
use Rattle.run.specs.Standing.{program, stands, state_of}
use Rattle.run.specs.declared.interpreter.Interpreter.{Interpreter}
use Rattle.run.proofs.Steps.{place_small, code, variable_there, taken, next_is, continued, Executes}
use Rattle.run.proofs.interpreter.Interpreter.store.Goals as goal

inside : (m : Interpreter) (i : ℕ) → stands m ≡ Some (Istore i) → i < length (running m.frames).variables
inside m i here = subst (λ (j : ℕ). j < length (running m.frames).variables) (code m (Istore i) here).arguments (variable_there m (Istore i) here refl)

-- the first operand becomes the variable's value
stores : (m : Interpreter) (i v : ℕ) (w : List ℕ) (here : stands m ≡ Some (Istore i)) → (running m.frames).operands ≡ v ∷ w →
    Executes m (Istore i) here refl (λ us vs. fed (continue_at (state_of m) (with_variable (running m.frames) i v w) (next (program m) m.place)) us vs)
stores m i v w here e us vs =
    let x : Fed = fed (state_of m) us vs in
    ap (execute (program m) x (Istore i)) e ∙
    ap (λ (b : Bool). cond b (store (program m) x i v w) None) (lt-ltb i (length (running m.frames).variables) (inside m i here))

pub pop-value-requires : goal.pop-value-requires
pop-value-requires c = record { some = taken c.args.self.now (Istore c.args.index) c.requires.here }

pub store-requires : goal.store-requires
store-requires c =
    let t = c.pop-value.ensures in
    record {
      inside = subst (λ (r : Frame). c.args.index < length r.variables) (sym t.running) (inside c.args.self.now c.args.index c.requires.here);
    }

pub overflow_add-self : goal.overflow_add-self
overflow_add-self c = let l = place_small c.args.self.now in omega arith

pub invariant_of-self : goal.invariant_of-self
invariant_of-self c =
    let m = c.args.self.now in
    let i = c.args.index in
    let t = c.pop-value.ensures in
    let u = c.store.ensures in
    record {
      sound = (continued m (Istore i) c.requires.here refl _ _ (stores m i c.pop-value.result _ c.requires.here t.value) refl
          c.store.new.self _ (kept_trans _ _ _ t.kept u.kept)
          (u.running ∙ ap (λ (r : Frame). with_variable r i c.pop-value.result r.operands) t.running) (u.waiting ∙ t.waiting)
          (sym (next_is m (Istore i) c.requires.here))).holds;
    }

pub returns : goal.returns
returns c =
    let m = c.args.self.now in
    let i = c.args.index in
    let t = c.pop-value.ensures in
    let u = c.store.ensures in
    (continued m (Istore i) c.requires.here refl _ _ (stores m i c.pop-value.result _ c.requires.here t.value) refl
    c.store.new.self _ (kept_trans _ _ _ t.kept u.kept)
    (u.running ∙ ap (λ (r : Frame). with_variable r i c.pop-value.result r.operands) t.running) (u.waiting ∙ t.waiting)
    (sym (next_is m (Istore i) c.requires.here))).does _
