use Rattle.std.proofs.Common.{rules}
use Rattle.format.specs.Layout.{message_none, message_more}
use Rattle.format.proofs.Loops.{firsts}
use Rattle.format.proofs.rules.messages_whole.Goals as goal

pub loop-k-init : goal.loop-k-init
loop-k-init c = search (rules, firsts, message_none)

pub returns-then-bad_message : goal.returns-then-bad_message
returns-then-bad_message c = search (rules, firsts)

pub loop-k-preserved : goal.loop-k-preserved
loop-k-preserved c = search (rules, firsts, message_more)

pub returns : goal.returns
returns c = search (rules, firsts)
