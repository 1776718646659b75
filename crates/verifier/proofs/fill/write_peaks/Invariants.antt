use Rattle.std.proofs.Common.{◌≡◌}
use Rattle.verifier.specs.Numbering.{largest_to, peaks_to}
use Rattle.verifier.proofs.fill.write_peaks.Given as goal

abbrev pub invariant-loop-k : goal.invariant-loop-k
invariant-loop-k l = (l.sheet ≡ peaks_to l.code.file.now l.initial.sheet l.k) × (l.largest ≡ largest_to l.code.file.now l.initial.sheet l.k)
