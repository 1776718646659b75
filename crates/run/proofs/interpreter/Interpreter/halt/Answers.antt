use Rattle.std.proofs.Common.{refl}
use Rattle.machine.specs.declared.stop.End.TheVariants as ending
use Rattle.run.proofs.Ready.{ready}
use Rattle.bytecode.specs.declared.instruction.Instruction.TheVariants.{Halt}
use Rattle.frames.specs.Frames.{kept_refl}
use Rattle.machine.specs.Machine.{with_end}
use Rattle.run.specs.Standing.{state_of}
use Rattle.run.proofs.Steps.{finished}
use Rattle.run.proofs.interpreter.Interpreter.halt.Goals as goal

pub returns : goal.returns
returns c =
    let m = c.args.self.now in
    (finished m Halt c.requires.here refl (with_end (state_of m) ending.Halt) (λ us vs. refl)
    m.frames m.place m.mode _ (kept_refl m.frames) refl (ready m).fit).does _
