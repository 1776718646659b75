use Rattle.std.proofs.Common.{◌≡◌, ◌*◌, ◌≤◌}
use Rattle.verifier.specs.Numbering.{count_to}
use Rattle.verifier.proofs.fill.count_numbered.Given as goal

abbrev pub invariant-loop-k : goal.invariant-loop-k
invariant-loop-k l = (l.count ≡ count_to l.code.file.now l.sheet l.k) × (l.count ≤ 65536 * l.k)
