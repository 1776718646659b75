-- No go does more than its fuel. Assumes nothing.
use Rattle.std.proofs.Common.{ℕ, ◌≤◌, List, [], Some, None, Option, arith}
use Rattle.machine.specs.Machine.{State, fed}
use Rattle.machine.specs.Go.{Host, outcome}
use Rattle.machine.proofs.Counts.{count_within}

pub counted_within : (f s : List ℕ) (cells fuel : ℕ) (run : Option State) (h : Host) → (outcome f s cells fuel run h).counted ≤ fuel
counted_within f s cells fuel None h = omega arith
counted_within f s cells fuel (Some st) h = count_within f s cells h.space fuel (fed st h.waits [])
