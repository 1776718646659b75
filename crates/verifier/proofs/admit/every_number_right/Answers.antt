use Rattle.std.proofs.Common.{rules}
use Rattle.verifier.specs.Numbering.{breaks}
use Rattle.verifier.proofs.admit.every_number_right.Goals as goal

pub returns : goal.returns
returns c = c.every_method_keeps.ensures (breaks c.args.code.now.file.now c.args.sheet.now) (λ k o r. search rules)
