use Rattle.machine.proofs.laws.rows_first_units.Goals as goal
use Rattle.machine.proofs.First.{FirstUnits-holds}

pub returns : goal.returns
returns c = FirstUnits-holds
