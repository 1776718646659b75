use Rattle.std.proofs.Common.{arith}
use Rattle.run.proofs.Turning.{unit_room, took}
use Rattle.run.proofs.Steps.{place_small}
use Rattle.run.proofs.interpreter.Interpreter.push_unit.Goals as goal

pub push-requires : goal.push-requires
push-requires c =
    let m = c.args.self.now in
    record { room = unit_room m c.requires.here c.args.unit }

pub overflow_add-self : goal.overflow_add-self
overflow_add-self c = let l = place_small c.args.self.now in omega arith

pub invariant_of-self : goal.invariant_of-self
invariant_of-self c =
    let u = c.push.ensures in
    record { sound = (took c.args.self.now c.requires.here c.args.unit c.push.new.self u.kept u.running u.waiting).holds }

pub returns : goal.returns
returns c =
    let u = c.push.ensures in
    (took c.args.self.now c.requires.here c.args.unit c.push.new.self u.kept u.running u.waiting).does _
