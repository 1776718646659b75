use Rattle.std.proofs.Common.{rules}
use Rattle.format.specs.Layout.{debug_none, debug_more}
use Rattle.format.proofs.Loops.{firsts}
use Rattle.format.proofs.rules.debug_blocks_in_order.Goals as goal

pub loop-k-init : goal.loop-k-init
loop-k-init c = search (rules, firsts, debug_none)

pub returns-then-bad_debug_block : goal.returns-then-bad_debug_block
returns-then-bad_debug_block c = search (rules, firsts)

pub loop-k-preserved : goal.loop-k-preserved
loop-k-preserved c = search (rules, firsts, debug_more)

pub returns : goal.returns
returns c = search (rules, firsts)
