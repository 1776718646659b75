use Rattle.std.proofs.Common.{arith}
use Rattle.run.proofs.Steps.{place_small}
use Rattle.run.proofs.Operations.{idled}
use Rattle.run.proofs.interpreter.Interpreter.do_nothing.Goals as goal

pub overflow_add-self : goal.overflow_add-self
overflow_add-self c = let l = place_small c.args.self.now in omega arith

pub invariant_of-self : goal.invariant_of-self
invariant_of-self c =
    let h = c.requires.here in
    record { sound = (idled c.args.self.now h.0 h.1 h.2 h.3 h.5).holds }

pub returns : goal.returns
returns c =
    let h = c.requires.here in
    (idled c.args.self.now h.0 h.1 h.2 h.3 h.5).does _
