use Rattle.std.proofs.Common.{[], sym, refl}
use Rattle.machine.specs.declared.stop.End.TheVariants as ending
use Rattle.bytecode.specs.declared.instruction.Instruction.TheVariants.{Return}
use Rattle.frames.specs.Frames.{running, waiting}
use Rattle.run.proofs.Calling.{ended_by, resumed}
use Rattle.run.proofs.interpreter.Interpreter.give_back.Goals as goal

pub returns-then-is_only : goal.returns-then-is_only
returns-then-is_only c =
    (ended_by c.args.self.now Return c.requires.here refl ending.Plain [] (λ us vs. refl) (sym c.if-is_only.ensures)).does _

pub leave-requires : goal.leave-requires
leave-requires c = record { callers = sym c.if-is_only.ensures }

pub invariant_of-self-2 : goal.invariant_of-self-2
invariant_of-self-2 c =
    let u = c.leave.ensures in
    record {
      sound = (resumed c.args.self.now Return c.requires.here refl ending.Plain [] (λ us vs. refl)
          (running c.leave.new.self) (waiting c.leave.new.self) u.frames c.leave.new.self u.kept refl refl c.leave.result u.place).holds;
    }

pub returns : goal.returns
returns c =
    let u = c.leave.ensures in
    (resumed c.args.self.now Return c.requires.here refl ending.Plain [] (λ us vs. refl)
    (running c.leave.new.self) (waiting c.leave.new.self) u.frames c.leave.new.self u.kept refl refl c.leave.result u.place).does _
