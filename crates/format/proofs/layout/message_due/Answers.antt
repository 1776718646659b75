use Rattle.std.proofs.Common.{rules}
use Rattle.format.specs.Layout.{message_none, message_more}
use Rattle.format.proofs.layout.message_due.Goals as goal

pub loop-i-init : goal.loop-i-init
loop-i-init c = search (rules, message_none)

pub loop-i-preserved : goal.loop-i-preserved
loop-i-preserved c = search (rules, message_more)
