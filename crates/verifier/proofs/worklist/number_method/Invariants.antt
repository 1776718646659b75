use Rattle.std.proofs.Common.{◌≡◌}
use Rattle.ring.specs.Ring.{items, capacity}
use Rattle.verifier.specs.Worklist.{turns_left}
use Rattle.verifier.proofs.Turns.{work}
use Rattle.verifier.proofs.Rounds.{Going}
use Rattle.verifier.proofs.worklist.number_method.Given as goal

abbrev pub invariant-loop-waited : goal.invariant-loop-waited
invariant-loop-waited l = Going l.code.file.now l.k l.fn.sheet l.sheet (items l.line) (capacity l.line) × (capacity l.line ≡ capacity l.fn.line)

abbrev pub decreases-loop-waited : goal.decreases-loop-waited
decreases-loop-waited l = turns_left l.code.file.now l.k (work l.sheet (items l.line))
