use Rattle.machine.proofs.laws.rows_keep_level.Goals as goal
use Rattle.machine.proofs.Row.{RowsKeepLevel-holds}

pub returns : goal.returns
returns c = RowsKeepLevel-holds
