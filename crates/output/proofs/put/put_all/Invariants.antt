use Rattle.std.proofs.Common.{◌≡◌, ◌+◌, ◌++◌, take}
use Rattle.output.proofs.put.put_all.Given as goal

abbrev pub invariant-loop-unit : goal.invariant-loop-unit
invariant-loop-unit g l =
    (g.H.Host.kept l.initial.host l.host) × (g.H.Host.waiting l.host ≡ g.H.Host.waiting l.initial.host)
    × (g.H.Host.written l.host ≡ g.H.Host.written l.initial.host ++ take l.unit-index l.units)
    × (g.H.Host.space l.initial.host ≡ g.H.Host.space l.host + l.unit-index)
