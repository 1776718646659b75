use Rattle.std.proofs.Common.{rules}
use Rattle.format.specs.Layout.{code_none, code_more}
use Rattle.format.proofs.layout.code_due.Goals as goal

pub loop-i-init : goal.loop-i-init
loop-i-init c = search (rules, code_none)

pub loop-i-preserved : goal.loop-i-preserved
loop-i-preserved c = search (rules, code_more)
