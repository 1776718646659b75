use Rattle.std.proofs.Common.{◌≡◌, fold}
use Rattle.bytecode.specs.Walk.{left}
use Rattle.verifier.specs.Numbering.{larger, peak}
use Rattle.verifier.proofs.method_peak.peak_of.Given as goal

abbrev pub invariant-loop-place : goal.invariant-loop-place
invariant-loop-place l = fold (larger l.sheet) l.peak (left l.place-iterator) ≡ peak l.code.file.now l.sheet l.k
