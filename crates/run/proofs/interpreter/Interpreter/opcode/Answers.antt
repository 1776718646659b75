use Rattle.std.proofs.Common.{arith}
use Rattle.run.proofs.Steps.{place_room}
use Rattle.run.proofs.interpreter.Interpreter.opcode.Goals as goal

pub bounds-self-self : goal.bounds-self-self
bounds-self-self c = let l = place_room c.args.self.now in omega arith
