use Rattle.std.proofs.Common.{false, refl, arith, rules}
use Rattle.bytecode.specs.Places.{holds}
use Rattle.bytecode.proofs.Filled.{get_or-all, filled_more, rest_kept}
use Rattle.bytecode.proofs.flow.value_methods.Goals as goal

pub loop-k-init : goal.loop-k-init
loop-k-init c = (refl, λ j l. absurd (omega arith), λ j l. get_or-all false 256 j)

pub loop-k-preserved : goal.loop-k-preserved
loop-k-preserved c = (
  search rules,
  filled_more false (λ j. holds c.args.file.now j 0xAC) c.loop-k.returns_value c.loop-k.k c.holds.result (search rules) c.holds.ensures c.loop-k.invariant.1,
  rest_kept false (λ j. holds c.args.file.now j 0xAC) c.loop-k.returns_value c.loop-k.k c.holds.result c.loop-k.invariant.2,
)
