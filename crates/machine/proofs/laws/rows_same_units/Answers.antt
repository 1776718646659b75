use Rattle.machine.proofs.laws.rows_same_units.Goals as goal
use Rattle.machine.proofs.Row.{SameUnits-holds}

pub returns : goal.returns
returns c = SameUnits-holds
