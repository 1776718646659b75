use Rattle.std.proofs.Common.{◌≡◌, ◌+◌, ◌*◌, ◌^◌, ◌≤◌, None}
use Rattle.format.specs.Search.{first, upto}
use Rattle.format.specs.Layout.{message_due}
use Rattle.format.specs.Rules.{bad_message}
use Rattle.format.proofs.rules.messages_whole.Given as goal

abbrev pub invariant-loop-k : goal.invariant-loop-k
invariant-loop-k l = (first (bad_message l.file) (upto l.k) ≡ None) × (l.due ≡ message_due l.file l.k) × (l.due ≤ 2 ^ 25 + 65537 * l.k)
