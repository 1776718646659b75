use Rattle.machine.proofs.laws.goes_regroup.Goals as goal
use Rattle.machine.proofs.Regroup.{Regroups-holds}

pub returns : goal.returns
returns c = Regroups-holds
