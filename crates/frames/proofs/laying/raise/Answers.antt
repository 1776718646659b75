use Rattle.std.proofs.Common.{arith}
use Rattle.frames.proofs.Raising.{raise_none, raise_more}
use Rattle.frames.proofs.laying.raise.Goals as goal

pub loop-k-init : goal.loop-k-init
loop-k-init c = raise_none c.args.cells.now c.args.from c.args.count

pub loop-k-preserved : goal.loop-k-preserved
loop-k-preserved c = raise_more c.args.cells.now c.loop-k.cells c.args.from c.args.count c.loop-k.k (omega arith) (omega arith) (omega arith) c.loop-k.invariant
