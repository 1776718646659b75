use Rattle.machine.proofs.laws.units_early.Goals as goal
use Rattle.machine.proofs.Early.{EarlyUnits-holds}

pub returns : goal.returns
returns c = EarlyUnits-holds
