use Rattle.std.proofs.Common.{◌∙◌}
use Rattle.bytecode.specs.declared.instruction.Instruction.TheVariants.{Out}
use Rattle.run.proofs.Turning.{writes_text}
use Rattle.run.proofs.Steps.{taken}
use Rattle.run.proofs.interpreter.Interpreter.next_text.Goals as goal

pub last-requires : goal.last-requires
last-requires c = record { some = taken c.args.self.now Out c.requires.here }

pub returns : goal.returns
returns c = c.text.ensures.units ∙ writes_text c.args.self.now c.requires.here c.last.result _ c.last.ensures
