use Rattle.std.proofs.Common.{◌∷◌, refl, arith}
use Rattle.bytecode.specs.declared.instruction.Instruction.TheVariants.{Bipush}
use Rattle.frames.specs.Frames.{running, kept_refl}
use Rattle.run.proofs.Steps.{place_small, free_cell, proceeded}
use Rattle.run.proofs.interpreter.Interpreter.push_number.Goals as goal

pub push-requires : goal.push-requires
push-requires c =
    let m = c.args.self.now in
    record {
      room = free_cell m (Bipush c.args.number) c.requires.here refl m.frames c.args.number (kept_refl m.frames) refl refl (λ us vs. refl);
    }

pub overflow_add-self : goal.overflow_add-self
overflow_add-self c = let l = place_small c.args.self.now in omega arith

pub invariant_of-self : goal.invariant_of-self
invariant_of-self c =
    let m = c.args.self.now in
    let u = c.push.ensures in
    record {
      sound = (proceeded m (Bipush c.args.number) c.requires.here refl (c.args.number ∷ (running m.frames).operands) (λ us vs. refl)
          c.push.new.self u.kept u.running u.waiting).holds;
    }

pub returns : goal.returns
returns c =
    let m = c.args.self.now in
    let u = c.push.ensures in
    (proceeded m (Bipush c.args.number) c.requires.here refl (c.args.number ∷ (running m.frames).operands) (λ us vs. refl)
    c.push.new.self u.kept u.running u.waiting).does _
