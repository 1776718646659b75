use Rattle.std.proofs.Common.{◌≡◌, None}
use Rattle.run.specs.Standing.{program, numbers, cells, state_of}
use Rattle.run.specs.Done.{Kept}
use Rattle.run.specs.Step.{host_of}
use Rattle.run.proofs.Going.{Going}
use Rattle.run.proofs.interpreter.Interpreter.go.Given as goal

abbrev pub invariant-loop-count : goal.invariant-loop-count
invariant-loop-count g l =
    Going (program l.initial.self) (numbers l.initial.self) (cells l.initial.self) l.fuel (state_of l.initial.self)
    (host_of (g.H.Host.waiting l.initial.host) (g.H.Host.written l.initial.host) (g.H.Host.space l.initial.host))
    l.count l.self (host_of (g.H.Host.waiting l.host) (g.H.Host.written l.host) (g.H.Host.space l.host)) ×
    Kept l.initial.self l.self × g.H.Host.kept l.initial.host l.host × (l.count ≡ 0 → l.self ≡ l.initial.self) × (l.self.ended ≡ None)
