use Rattle.std.proofs.Common.{◌≡◌, ℕ, ◌<◌, Bool, cond, ◌∷◌, length, get_or, Some, None, sym, refl, ap, ◌∙◌, subst, arith}
use Rattle.std.proofs.lemmas.Bool.{lt-ltb}
use Rattle.bytecode.specs.declared.instruction.Instruction.TheVariants.{Iload}
use Rattle.frames.specs.Frames.{running, kept_refl}
use Rattle.machine.specs.Machine.{Fed, fed, proceed}
use Rattle.run.specs.Standing.{program, stands, state_of}
use Rattle.run.specs.declared.interpreter.Interpreter.{Interpreter}
use Rattle.run.proofs.Steps.{place_small, code, variable_there, free_cell, proceeded, Proceeds}
use Rattle.run.proofs.interpreter.Interpreter.load.Goals as goal

-- the variable that is named, and its value as an operand
inside : (m : Interpreter) (i : ℕ) → stands m ≡ Some (Iload i) → i < length (running m.frames).variables
inside m i here = subst (λ (j : ℕ). j < length (running m.frames).variables) (code m (Iload i) here).arguments (variable_there m (Iload i) here refl)

pushes : (m : Interpreter) (i v : ℕ) (here : stands m ≡ Some (Iload i)) → v ≡ get_or (running m.frames).variables i 0 →
    Proceeds m (Iload i) here refl (v ∷ (running m.frames).operands)
pushes m i v here e us vs =
    let x : Fed = fed (state_of m) us vs in
    let w = (running m.frames).operands in
    ap (λ (b : Bool). cond b (proceed (program m) x (get_or (running m.frames).variables i 0 ∷ w)) None) (lt-ltb i (length (running m.frames).variables) (inside m i here)) ∙
    ap (λ (t : ℕ). proceed (program m) x (t ∷ w)) (sym e)

pub load-value-requires : goal.load-value-requires
load-value-requires c = record { inside = inside c.args.self.now c.args.index c.requires.here }

pub push-requires : goal.push-requires
push-requires c =
    let m = c.args.self.now in
    record {
      room = free_cell m (Iload c.args.index) c.requires.here refl m.frames c.load-value.result (kept_refl m.frames) refl refl
          (pushes m c.args.index c.load-value.result c.requires.here c.load-value.ensures);
    }

pub overflow_add-self : goal.overflow_add-self
overflow_add-self c = let l = place_small c.args.self.now in omega arith

pub invariant_of-self : goal.invariant_of-self
invariant_of-self c =
    let m = c.args.self.now in
    let u = c.push.ensures in
    record {
      sound = (proceeded m (Iload c.args.index) c.requires.here refl _ (pushes m c.args.index c.load-value.result c.requires.here c.load-value.ensures)
          c.push.new.self u.kept u.running u.waiting).holds;
    }

pub returns : goal.returns
returns c =
    let m = c.args.self.now in
    let u = c.push.ensures in
    (proceeded m (Iload c.args.index) c.requires.here refl _ (pushes m c.args.index c.load-value.result c.requires.here c.load-value.ensures)
    c.push.new.self u.kept u.running u.waiting).does _
