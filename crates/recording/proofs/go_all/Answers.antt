use Rattle.std.proofs.Common.{arith}
use Rattle.run.specs.Step.{host_of}
use Rattle.recording.proofs.Slices.{going_first, going_on, going_last}
use Rattle.recording.proofs.go_all.Goals as goal

pub loop-fuel-init : goal.loop-fuel-init
loop-fuel-init g c = (
  going_first c.args.run.now (host_of (g.H.Host.waiting c.args.host.now) (g.H.Host.written c.args.host.now) (g.H.Host.space c.args.host.now)) c.args.fuels.now,
  g.H.Host.kept_refl c.args.host.now,
)

pub loop-fuel-preserved : goal.loop-fuel-preserved
loop-fuel-preserved g c =
    let h0 = host_of (g.H.Host.waiting c.args.host.now) (g.H.Host.written c.args.host.now) (g.H.Host.space c.args.host.now) in
    let h = host_of (g.H.Host.waiting c.loop-fuel.host) (g.H.Host.written c.loop-fuel.host) (g.H.Host.space c.loop-fuel.host) in
    let h' = host_of (g.H.Host.waiting c.go.new.host) (g.H.Host.written c.go.new.host) (g.H.Host.space c.go.new.host) in (
      going_on c.args.run.now h0 c.args.fuels.now c.loop-fuel.fuel-index c.loop-fuel.run h c.loop-fuel.invariant.0 (omega arith)
          c.go.new.self h' c.go.result c.go.ensures.goes c.go.ensures.stays,
      g.H.Host.kept_trans _ _ _ c.loop-fuel.invariant.1 c.go.ensures.kept,
    )

pub returns-clause-makes : goal.returns-clause-makes
returns-clause-makes g c =
    let h0 = host_of (g.H.Host.waiting c.args.host.now) (g.H.Host.written c.args.host.now) (g.H.Host.space c.args.host.now) in
    let h = host_of (g.H.Host.waiting c.loop-fuel.host) (g.H.Host.written c.loop-fuel.host) (g.H.Host.space c.loop-fuel.host) in
    going_last c.args.run.now h0 c.args.fuels.now c.loop-fuel.fuel-index c.loop-fuel.run h c.loop-fuel.invariant.0 (omega arith)
