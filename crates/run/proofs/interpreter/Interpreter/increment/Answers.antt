use Rattle.std.proofs.Common.{◌≡◌, ℕ, ◌+◌, ◌<◌, Bool, cond, length, get_or, Some, None, sym, refl, ap, ◌∙◌, subst, arith}
use Rattle.std.proofs.lemmas.Bool.{lt-ltb}
use Rattle.bytecode.specs.Places.{next}
use Rattle.bytecode.specs.declared.instruction.Instruction.TheVariants.{Iinc}
use Rattle.frames.specs.Frames.{running}
use Rattle.machine.specs.Machine.{Fed, fed, wrap, store, with_variable, continue_at}
use Rattle.run.specs.Standing.{program, stands, state_of}
use Rattle.run.specs.declared.interpreter.Interpreter.{Interpreter}
use Rattle.run.proofs.Steps.{place_small, code, variable_there, next_is, continued, Executes}
use Rattle.run.proofs.interpreter.Interpreter.increment.Goals as goal

inside : (m : Interpreter) (i k : ℕ) → stands m ≡ Some (Iinc i k) → i < length (running m.frames).variables
inside m i k here = subst (λ (j : ℕ). j < length (running m.frames).variables) (code m (Iinc i k) here).arguments.0 (variable_there m (Iinc i k) here refl)

-- the sum becomes the variable's value
adds : (m : Interpreter) (i k v : ℕ) (here : stands m ≡ Some (Iinc i k)) → v ≡ get_or (running m.frames).variables i 0 →
    Executes m (Iinc i k) here refl (λ us vs. fed (continue_at (state_of m) (with_variable (running m.frames) i (wrap (v + k)) (running m.frames).operands) (next (program m) m.place)) us vs)
adds m i k v here e us vs =
    let x : Fed = fed (state_of m) us vs in
    let w = (running m.frames).operands in
    ap (λ (b : Bool). cond b (store (program m) x i (wrap (get_or (running m.frames).variables i 0 + k)) w) None) (lt-ltb i (length (running m.frames).variables) (inside m i k here)) ∙
    ap (λ (t : ℕ). store (program m) x i (wrap (t + k)) w) (sym e)

pub load-value-requires : goal.load-value-requires
load-value-requires c = record { inside = inside c.args.self.now c.args.index c.args.number c.requires.here }

pub store-requires : goal.store-requires
store-requires c = record { inside = inside c.args.self.now c.args.index c.args.number c.requires.here }

pub overflow_add-self : goal.overflow_add-self
overflow_add-self c = let l = place_small c.args.self.now in omega arith

pub invariant_of-self : goal.invariant_of-self
invariant_of-self c =
    let m = c.args.self.now in
    let i = c.args.index in
    let k = c.args.number in
    let u = c.store.ensures in
    record {
      sound = (continued m (Iinc i k) c.requires.here refl _ _ (adds m i k c.load-value.result c.requires.here c.load-value.ensures) refl
          c.store.new.self _ u.kept u.running u.waiting (sym (next_is m (Iinc i k) c.requires.here))).holds;
    }

pub returns : goal.returns
returns c =
    let m = c.args.self.now in
    let i = c.args.index in
    let k = c.args.number in
    let u = c.store.ensures in
    (continued m (Iinc i k) c.requires.here refl _ _ (adds m i k c.load-value.result c.requires.here c.load-value.ensures) refl
    c.store.new.self _ u.kept u.running u.waiting (sym (next_is m (Iinc i k) c.requires.here))).does _
