use Rattle.std.proofs.Common.{◌≡◌, ℕ, ◌+◌, ◌<◌, Some, ◌∙◌, subst, arith}
use Rattle.machine.specs.declared.stop.Stop.TheVariants.{Spent}
use Rattle.machine.specs.Go.{outcome_begun}
use Rattle.frames.specs.Frames.{kept_trans}
use Rattle.run.specs.Standing.{program, numbers, cells, state_of}
use Rattle.run.specs.Step.{host_of}
use Rattle.run.proofs.Going.{going_start, going_ends, going_halts, going_on, ended_reason, spent_reason, other_reason}
use Rattle.run.proofs.interpreter.Interpreter.go.Goals as goal

pub returns-in-Some-clause-goes : goal.returns-in-Some-clause-goes
returns-in-Some-clause-goes g c =
    let m = c.args.self.now in
    let h = host_of (g.H.Host.waiting c.args.host.now) (g.H.Host.written c.args.host.now) (g.H.Host.space c.args.host.now) in
    going_ends (program m) (numbers m) (cells m) c.args.fuel (state_of m) h 0 m h (going_start m h c.args.fuel) _ (ended_reason c.args.fuel 0 m h c.in-Some.end c.in-Some.is)

pub returns-in-Some-step-clause-goes : goal.returns-in-Some-step-clause-goes
returns-in-Some-step-clause-goes g c =
    let m0 = c.args.self.now in
    let h0 = host_of (g.H.Host.waiting c.args.host.now) (g.H.Host.written c.args.host.now) (g.H.Host.space c.args.host.now) in
    let m = c.loop-count.self in
    let h = host_of (g.H.Host.waiting c.loop-count.host) (g.H.Host.written c.loop-count.host) (g.H.Host.space c.loop-count.host) in
    let j = c.loop-count.count in
    let i = c.loop-count.invariant in
    let m' = c.step.new.self in
    let h' = host_of (g.H.Host.waiting c.step.new.host) (g.H.Host.written c.step.new.host) (g.H.Host.space c.step.new.host) in
    let l : j < c.args.fuel = c.loop-count-test.true in
    let t = c.in-Some-step.ensures in
    going_halts (program m0) (numbers m0) (cells m0) c.args.fuel (state_of m0) h0 j m h i.0 c.in-Some-step.stop
    (other_reason c.args.fuel j m h _ i.4 (λ e. absurd (omega arith)) t.stop) m' h' t.turn.0 t.turn.1

pub returns-in-Some-ended-clause-goes : goal.returns-in-Some-ended-clause-goes
returns-in-Some-ended-clause-goes g c =
    let m0 = c.args.self.now in
    let h0 = host_of (g.H.Host.waiting c.args.host.now) (g.H.Host.written c.args.host.now) (g.H.Host.space c.args.host.now) in
    let m = c.loop-count.self in
    let h = host_of (g.H.Host.waiting c.loop-count.host) (g.H.Host.written c.loop-count.host) (g.H.Host.space c.loop-count.host) in
    let j = c.loop-count.count in
    let i = c.loop-count.invariant in
    let m' = c.step.new.self in
    let h' = host_of (g.H.Host.waiting c.step.new.host) (g.H.Host.written c.step.new.host) (g.H.Host.space c.step.new.host) in
    let l : j < c.args.fuel = c.loop-count-test.true in
    let t = c.in_default-step.ensures in
    going_ends (program m0) (numbers m0) (cells m0) c.args.fuel (state_of m0) h0 (j + 1) m' h'
    (going_on (program m0) (numbers m0) (cells m0) c.args.fuel (state_of m0) h0 j m h i.0
    (other_reason c.args.fuel j m h _ i.4 (λ e. absurd (omega arith)) t.stop) (λ e. absurd (omega arith)) m' h' t.turn) _
    (ended_reason c.args.fuel (j + 1) m' h' c.in-Some-ended.end c.in-Some-ended.is)

pub loop-count-preserved : goal.loop-count-preserved
loop-count-preserved g c =
    let m0 = c.args.self.now in
    let h0 = host_of (g.H.Host.waiting c.args.host.now) (g.H.Host.written c.args.host.now) (g.H.Host.space c.args.host.now) in
    let m = c.loop-count.self in
    let h = host_of (g.H.Host.waiting c.loop-count.host) (g.H.Host.written c.loop-count.host) (g.H.Host.space c.loop-count.host) in
    let j = c.loop-count.count in
    let i = c.loop-count.invariant in
    let m' = c.step.new.self in
    let h' = host_of (g.H.Host.waiting c.step.new.host) (g.H.Host.written c.step.new.host) (g.H.Host.space c.step.new.host) in
    let l : j < c.args.fuel = c.loop-count-test.true in
    let t = c.in_default-step.ensures in (
      going_on (program m0) (numbers m0) (cells m0) c.args.fuel (state_of m0) h0 j m h i.0
          (other_reason c.args.fuel j m h _ i.4 (λ e. absurd (omega arith)) t.stop) (λ e. absurd (omega arith)) m' h' t.turn,
      record { frames = kept_trans _ _ _ i.1.frames t.turn.kept.frames; sheet = t.turn.kept.sheet ∙ i.1.sheet },
      g.H.Host.kept_trans _ _ _ i.2 t.kept,
      λ e. absurd (omega (arith, e)),
      c.in_default-ended.is,
    )

pub returns-clause-goes : goal.returns-clause-goes
returns-clause-goes g c =
    let m0 = c.args.self.now in
    let h0 = host_of (g.H.Host.waiting c.args.host.now) (g.H.Host.written c.args.host.now) (g.H.Host.space c.args.host.now) in
    let m = c.loop-count.self in
    let h = host_of (g.H.Host.waiting c.loop-count.host) (g.H.Host.written c.loop-count.host) (g.H.Host.space c.loop-count.host) in
    let j = c.loop-count.count in
    let i = c.loop-count.invariant in
    let e : j ≡ c.args.fuel = omega (arith, i.0.within) in
    subst (λ (k : ℕ). outcome_begun (program m0) (numbers m0) (cells m0) c.args.fuel (state_of m0) h0 ≡ record { run = Some (state_of m); host = h; stop = Spent; counted = k }) e
    (going_ends (program m0) (numbers m0) (cells m0) c.args.fuel (state_of m0) h0 j m h i.0 _ (spent_reason c.args.fuel j m h i.4 e))
