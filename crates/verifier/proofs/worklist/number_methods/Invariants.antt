use Rattle.std.proofs.Common.{◌≡◌, ◌≤◌, [], length}
use Rattle.ring.specs.Ring.{items, capacity}
use Rattle.verifier.specs.Worklist.{ClosedTo}
use Rattle.verifier.proofs.worklist.number_methods.Given as goal

abbrev pub invariant-loop-k : goal.invariant-loop-k
invariant-loop-k l = ClosedTo l.code.file.now l.k l.sheet × (items l.line ≡ []) × (length l.code.file.now ≤ capacity l.line)
