use Rattle.std.proofs.Common.{◌≡◌, ◌+◌, ◌-◌, drop}
use lib.Seq.{paste}
use Rattle.frames.proofs.laying.raise.Given as goal

-- the cells from k on have moved
abbrev pub invariant-loop-k : goal.invariant-loop-k
invariant-loop-k l = l.cells ≡ paste l.initial.cells (l.from + 3 + l.k) (drop (l.from + l.k) l.initial.cells) (l.count - l.k)
