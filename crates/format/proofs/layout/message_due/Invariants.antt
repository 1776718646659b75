use Rattle.std.proofs.Common.{◌≡◌, ◌+◌, ◌*◌, ◌^◌, ◌≤◌}
use Rattle.format.specs.Layout.{message_due}
use Rattle.format.proofs.layout.message_due.Given as goal

abbrev pub invariant-loop-i : goal.invariant-loop-i
invariant-loop-i l = (l.due ≡ message_due l.file l.i) × (l.due ≤ 2 ^ 25 + 65537 * l.i)
