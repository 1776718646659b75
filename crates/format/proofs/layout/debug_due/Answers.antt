use Rattle.std.proofs.Common.{rules}
use Rattle.format.specs.Layout.{debug_none, debug_more}
use Rattle.format.proofs.layout.debug_due.Goals as goal

pub loop-i-init : goal.loop-i-init
loop-i-init c = search (rules, debug_none)

pub loop-i-preserved : goal.loop-i-preserved
loop-i-preserved c = search (rules, debug_more)
