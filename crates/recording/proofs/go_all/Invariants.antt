use Rattle.run.specs.Step.{host_of}
use Rattle.recording.proofs.Slices.{Going}
use Rattle.recording.proofs.go_all.Given as goal

abbrev pub invariant-loop-fuel : goal.invariant-loop-fuel
invariant-loop-fuel g l =
    Going l.initial.run (host_of (g.H.Host.waiting l.initial.host) (g.H.Host.written l.initial.host) (g.H.Host.space l.initial.host))
    l.fuels l.fuel-index l.run (host_of (g.H.Host.waiting l.host) (g.H.Host.written l.host) (g.H.Host.space l.host)) ×
    g.H.Host.kept l.initial.host l.host
