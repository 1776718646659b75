use Rattle.std.proofs.Common.{arith, rules}
use Rattle.run.proofs.Steps.{place_small}
use Rattle.run.proofs.Operations.{takes_there, branched}
use Rattle.run.proofs.interpreter.Interpreter.jump_if.Goals as goal

pub pop-value-requires : goal.pop-value-requires
pop-value-requires g c = let h = c.requires.here in record { some = takes_there c.args.self.now h.0 h.1 h.2 1 h.4 }

pub way-self-requires : goal.way-self-requires
way-self-requires g c = let l = place_small c.args.self.now in omega arith

pub invariant_of-self : goal.invariant_of-self
invariant_of-self g c =
    let m = c.args.self.now in
    let h = c.requires.here in
    let t = c.pop-value.ensures in
    record {
      sound = (branched m h.0 h.1 h.2 _ c.args.distance h.5 c.pop-value.result _ c.test.result (search rules) c.test.ensures t.value h.3
          c.pop-value.new.self t.kept t.running t.waiting c.way-self.result c.way-self.ensures).holds;
    }

pub returns : goal.returns
returns g c =
    let m = c.args.self.now in
    let h = c.requires.here in
    let t = c.pop-value.ensures in
    (branched m h.0 h.1 h.2 _ c.args.distance h.5 c.pop-value.result _ c.test.result (search rules) c.test.ensures t.value h.3
    c.pop-value.new.self t.kept t.running t.waiting c.way-self.result c.way-self.ensures).does _
