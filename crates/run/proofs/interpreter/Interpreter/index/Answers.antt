use Rattle.std.proofs.Common.{arith}
use Rattle.run.proofs.Steps.{place_room, place_small}
use Rattle.run.proofs.interpreter.Interpreter.index.Goals as goal

pub overflow_add-result : goal.overflow_add-result
overflow_add-result c = let l = place_small c.args.self.now in omega arith

pub bounds-self-self : goal.bounds-self-self
bounds-self-self c = let l = place_room c.args.self.now in omega arith
