use Rattle.std.proofs.Common.{◌≡◌, ◌+◌, ◌*◌, ◌≤◌, None}
use Rattle.format.specs.Search.{first, upto}
use Rattle.format.specs.Layout.{code_due}
use Rattle.format.specs.Rules.{bad_code}
use Rattle.format.proofs.rules.code_in_order.Given as goal

abbrev pub invariant-loop-k : goal.invariant-loop-k
invariant-loop-k l = (first (bad_code l.file) (upto l.k) ≡ None) × (l.due ≡ code_due l.file l.k) × (l.due ≤ 4096 + 65536 * l.k)
