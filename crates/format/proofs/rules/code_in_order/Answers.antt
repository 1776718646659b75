use Rattle.std.proofs.Common.{rules}
use Rattle.format.specs.Layout.{code_none, code_more}
use Rattle.format.proofs.Loops.{firsts}
use Rattle.format.proofs.rules.code_in_order.Goals as goal

pub loop-k-init : goal.loop-k-init
loop-k-init c = search (rules, firsts, code_none)

pub returns-then-bad_code : goal.returns-then-bad_code
returns-then-bad_code c = search (rules, firsts)

pub loop-k-preserved : goal.loop-k-preserved
loop-k-preserved c = search (rules, firsts, code_more)

pub returns : goal.returns
returns c = search (rules, firsts)
