use Rattle.rows.proofs.Carrying.{Going}
use Rattle.rows.proofs.carry_out.Given as goal

abbrev pub invariant-loop-event : goal.invariant-loop-event
invariant-loop-event l = Going l.initial.run l.initial.label l.events l.event-index l.run l.label l.last l.sum
