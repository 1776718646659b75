use Rattle.std.proofs.Common.{rules}
use Rattle.verifier.proofs.Tally.{count_none, count_more}
use Rattle.verifier.proofs.fill.count_numbered.Goals as goal

pub loop-k-init : goal.loop-k-init
loop-k-init c = search (rules, count_none)

pub loop-k-preserved : goal.loop-k-preserved
loop-k-preserved c = search (rules, count_more)
