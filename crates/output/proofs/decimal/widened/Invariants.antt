use Rattle.std.proofs.Common.{◌≡◌, length, take}
use Rattle.output.proofs.decimal.widened.Given as goal

abbrev pub invariant-loop-index : goal.invariant-loop-index
invariant-loop-index l = (length l.units ≡ 6) × (take l.index l.units ≡ take l.index l.bytes)
