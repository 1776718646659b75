use Rattle.std.proofs.Common.{◌≡◌, ◌+◌, ◌*◌, ◌≤◌}
use Rattle.format.specs.Layout.{code_due}
use Rattle.format.proofs.layout.code_due.Given as goal

abbrev pub invariant-loop-i : goal.invariant-loop-i
invariant-loop-i l = (l.due ≡ code_due l.file l.i) × (l.due ≤ 4096 + 65536 * l.i)
