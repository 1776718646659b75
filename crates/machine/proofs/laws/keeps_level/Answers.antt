use Rattle.machine.proofs.laws.keeps_level.Goals as goal
use Rattle.machine.proofs.Level.{keeps_level}

pub returns : goal.returns
returns c = keeps_level
