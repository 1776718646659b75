use Rattle.std.proofs.Common.{rules}
use Rattle.run.proofs.Steps.{place_room, place_small}
use Rattle.run.proofs.interpreter.Interpreter.number_at.Goals as goal

pub overflow_add-at : goal.overflow_add-at
overflow_add-at c = let l = place_small c.args.self.now in search rules

pub bounds-self-at : goal.bounds-self-at
bounds-self-at c = let l = place_room c.args.self.now in search rules

pub overflow_add-at-2 : goal.overflow_add-at-2
overflow_add-at-2 c = let l = place_small c.args.self.now in search rules

pub bounds-self-at-2 : goal.bounds-self-at-2
bounds-self-at-2 c = let l = place_room c.args.self.now in search rules
