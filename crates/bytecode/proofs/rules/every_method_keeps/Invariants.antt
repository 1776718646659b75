use Rattle.std.proofs.Common.{◌≡◌, ℕ, Bool, Option}
use Rattle.format.specs.Search.{first}
use Rattle.bytecode.specs.Places.{Point, places, points}
use Rattle.bytecode.proofs.Points.{point, points_left}
use Rattle.bytecode.proofs.rules.every_method_keeps.Given as goal

abbrev pub invariant-loop-k : goal.invariant-loop-k
invariant-loop-k g l =
    (broken : Point → Bool) → ((k : ℕ) (o : Option ℕ) → goal.F-post g l.first_offender k o → o ≡ first (λ p. broken (point k p)) (places l.file k)) →
    first broken (points_left l.file l.k) ≡ first broken (points l.file)
