use Rattle.std.proofs.Common.{◌≡◌, ◌+◌, ◌*◌, ◌^◌, ◌≤◌}
use Rattle.format.specs.Layout.{debug_due}
use Rattle.format.proofs.layout.debug_due.Given as goal

abbrev pub invariant-loop-i : goal.invariant-loop-i
invariant-loop-i l = (l.due ≡ debug_due l.file l.i) × (l.due ≤ 2 ^ 24 + 258 * l.i)
