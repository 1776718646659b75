use Rattle.std.proofs.Common.{refl, ap, arith}
use Rattle.bytecode.specs.declared.instruction.Instruction.TheVariants.{Pop}
use Rattle.frames.specs.Frames.{running}
use Rattle.machine.specs.Machine.{execute, fed}
use Rattle.run.specs.Standing.{program, state_of}
use Rattle.run.proofs.Steps.{place_small, taken, proceeded}
use Rattle.run.proofs.interpreter.Interpreter.pop.Goals as goal

pub pop-requires : goal.pop-requires
pop-requires c = record { some = taken c.args.self.now Pop c.requires.here }

pub overflow_add-self : goal.overflow_add-self
overflow_add-self c = let l = place_small c.args.self.now in omega arith

pub invariant_of-self : goal.invariant_of-self
invariant_of-self c =
    let m = c.args.self.now in
    let t = c.pop.ensures in
    record {
      sound = (proceeded m Pop c.requires.here refl (running c.pop.new.self).operands (λ us vs. ap (execute (program m) (fed (state_of m) us vs) Pop) t.value)
          c.pop.new.self t.kept t.running t.waiting).holds;
    }

pub returns : goal.returns
returns c =
    let m = c.args.self.now in
    let t = c.pop.ensures in
    (proceeded m Pop c.requires.here refl (running c.pop.new.self).operands (λ us vs. ap (execute (program m) (fed (state_of m) us vs) Pop) t.value)
    c.pop.new.self t.kept t.running t.waiting).does _
