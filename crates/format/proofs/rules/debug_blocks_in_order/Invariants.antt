use Rattle.std.proofs.Common.{◌≡◌, ◌+◌, ◌*◌, ◌^◌, ◌≤◌, None}
use Rattle.format.specs.Search.{first, upto}
use Rattle.format.specs.Layout.{debug_due}
use Rattle.format.specs.Rules.{bad_debug_block}
use Rattle.format.proofs.rules.debug_blocks_in_order.Given as goal

abbrev pub invariant-loop-k : goal.invariant-loop-k
invariant-loop-k l = (first (bad_debug_block l.file) (upto l.k) ≡ None) × (l.due ≡ debug_due l.file l.k) × (l.due ≤ 2 ^ 24 + 258 * l.k)
