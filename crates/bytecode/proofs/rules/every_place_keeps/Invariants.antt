use Rattle.std.proofs.Common.{◌≡◌, ℕ, Bool}
use Rattle.format.specs.Search.{first}
use Rattle.bytecode.specs.Places.{Point, points}
use Rattle.bytecode.proofs.Points.{point, points_left}
use Rattle.bytecode.proofs.rules.every_place_keeps.Given as goal

abbrev pub invariant-loop-k : goal.invariant-loop-k
invariant-loop-k g l =
    (broken : Point → Bool) → ((k p : ℕ) (b : Bool) → goal.F-post g l.breaks k p b → b ≡ broken (point k p)) →
    first broken (points_left l.file l.k-counter) ≡ first broken (points l.file)
