use Rattle.machine.proofs.laws.rows_follow.Goals as goal
use Rattle.machine.proofs.Row.{Follows-holds}

pub returns : goal.returns
returns c = Follows-holds
