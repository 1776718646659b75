use Rattle.std.proofs.Common.{List, sym, refl, ap, ◌∙◌}
use Rattle.format.specs.Search.{when}
use Rattle.machine.specs.declared.stop.Stop.TheVariants.{NoUnit}
use Rattle.machine.specs.Machine.{none_left}
use Rattle.run.specs.Step.{host_of}
use Rattle.run.proofs.Turning.{same_host, in_hinders, took_turn}
use Rattle.run.proofs.interpreter.Interpreter.take_unit.Goals as goal

pub returns-in_default : goal.returns-in_default
returns-in_default g c =
    let h = host_of (g.H.Host.waiting c.args.host.now) (g.H.Host.written c.args.host.now) (g.H.Host.space c.args.host.now) in
    let t = c.in_default.ensures in
    record {
      kept = t.kept;
      stop = sym (in_hinders c.args.self.now c.requires.here h ∙ ap (λ (us : List _). when (none_left us) NoUnit) t.waiting.0);
      turn = (refl, same_host (t.waiting.1 ∙ sym t.waiting.0) t.written t.space);
    }

pub returns : goal.returns
returns g c =
    let h = host_of (g.H.Host.waiting c.args.host.now) (g.H.Host.written c.args.host.now) (g.H.Host.space c.args.host.now) in
    let t = c.in-Some.ensures in
    record {
      kept = t.kept;
      stop = sym (in_hinders c.args.self.now c.requires.here h ∙ ap (λ (us : List _). when (none_left us) NoUnit) t.waiting);
      turn = took_turn c.args.self.now c.requires.here c.requires.runs c.in-Some.unit c.push_unit.new.self c.push_unit.ensures _ _ t.waiting t.written t.space;
    }
