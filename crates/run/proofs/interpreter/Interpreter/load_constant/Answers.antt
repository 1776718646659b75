use Rattle.std.proofs.Common.{◌≡◌, ℕ, ◌<◌, Bool, cond, ◌∷◌, Some, None, sym, refl, ap, ◌∙◌, subst, arith}
use Rattle.std.proofs.lemmas.Bool.{lt-ltb}
use Rattle.format.specs.Layout.{be16, constants, constant_address}
use Rattle.bytecode.specs.declared.instruction.Instruction.TheVariants.{Ldc}
use Rattle.frames.specs.Frames.{running, kept_refl}
use Rattle.machine.specs.Machine.{Fed, fed, proceed}
use Rattle.run.specs.Standing.{program, stands, state_of}
use Rattle.run.specs.declared.interpreter.Interpreter.{Interpreter}
use Rattle.run.proofs.Ready.{ready, good}
use Rattle.run.proofs.Steps.{place_small, code, constant_there, free_cell, proceeded, Proceeds}
use Rattle.run.proofs.interpreter.Interpreter.load_constant.Goals as goal

-- the constant that is named, and its value as an operand
inside : (m : Interpreter) (i : ℕ) → stands m ≡ Some (Ldc i) → i < constants (program m)
inside m i here = subst (λ (j : ℕ). j < constants (program m)) (code m (Ldc i) here).arguments (constant_there m (Ldc i) here refl)

pushes : (m : Interpreter) (i v : ℕ) (here : stands m ≡ Some (Ldc i)) → v ≡ be16 (program m) (constant_address (program m) i) →
    Proceeds m (Ldc i) here refl (v ∷ (running m.frames).operands)
pushes m i v here e us vs =
    let x : Fed = fed (state_of m) us vs in
    let w = (running m.frames).operands in
    ap (λ (b : Bool). cond b (proceed (program m) x (be16 (program m) (constant_address (program m) i) ∷ w)) None) (lt-ltb i (constants (program m)) (inside m i here)) ∙
    ap (λ (t : ℕ). proceed (program m) x (t ∷ w)) (sym e)

-- its two bytes lie before the tables' end
pub constant-value-requires : goal.constant-value-requires
constant-value-requires c =
    let m = c.args.self.now in
    let h = ready m in
    let l = (good m).facts.layout in
    let i = inside m c.args.index c.requires.here in
    omega (arith, i, l.tables)

pub push-requires : goal.push-requires
push-requires c =
    let m = c.args.self.now in
    record {
      room = free_cell m (Ldc c.args.index) c.requires.here refl m.frames c.constant-value.result (kept_refl m.frames) refl refl
          (pushes m c.args.index c.constant-value.result c.requires.here c.constant-value.ensures);
    }

pub overflow_add-self : goal.overflow_add-self
overflow_add-self c = let l = place_small c.args.self.now in omega arith

pub invariant_of-self : goal.invariant_of-self
invariant_of-self c =
    let m = c.args.self.now in
    let u = c.push.ensures in
    record {
      sound = (proceeded m (Ldc c.args.index) c.requires.here refl _ (pushes m c.args.index c.constant-value.result c.requires.here c.constant-value.ensures)
          c.push.new.self u.kept u.running u.waiting).holds;
    }

pub returns : goal.returns
returns c =
    let m = c.args.self.now in
    let u = c.push.ensures in
    (proceeded m (Ldc c.args.index) c.requires.here refl _ (pushes m c.args.index c.constant-value.result c.requires.here c.constant-value.ensures)
    c.push.new.self u.kept u.running u.waiting).does _
