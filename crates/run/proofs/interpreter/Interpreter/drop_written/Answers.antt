use Rattle.std.proofs.Common.{arith}
use Rattle.bytecode.specs.declared.instruction.Instruction.TheVariants.{Out}
use Rattle.frames.specs.Frames.{running}
use Rattle.run.proofs.Turning.{wrote}
use Rattle.run.proofs.Steps.{place_small, taken}
use Rattle.run.proofs.interpreter.Interpreter.drop_written.Goals as goal

pub pop-requires : goal.pop-requires
pop-requires c = record { some = taken c.args.self.now Out c.requires.here }

pub overflow_add-self : goal.overflow_add-self
overflow_add-self c = let l = place_small c.args.self.now in omega arith

pub invariant_of-self : goal.invariant_of-self
invariant_of-self c =
    let t = c.pop.ensures in
    record { sound = (wrote c.args.self.now c.requires.here c.pop.result (running c.pop.new.self).operands t.value c.pop.new.self t.kept t.running t.waiting).holds }

pub returns : goal.returns
returns c =
    let t = c.pop.ensures in
    (wrote c.args.self.now c.requires.here c.pop.result (running c.pop.new.self).operands t.value c.pop.new.self t.kept t.running t.waiting).does _
