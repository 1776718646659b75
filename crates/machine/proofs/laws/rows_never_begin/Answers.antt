use Rattle.machine.proofs.laws.rows_never_begin.Goals as goal
use Rattle.machine.proofs.Row.{NeverBegins-holds}

pub returns : goal.returns
returns c = NeverBegins-holds
