use Rattle.std.proofs.Common.{rules}
use Rattle.bytecode.specs.Rules.{bad_instruction}
use Rattle.bytecode.proofs.rules.instructions_whole.Goals as goal

pub returns : goal.returns
returns c = c.every_method_keeps.ensures (bad_instruction c.args.file.now) (λ k o r. search rules)
