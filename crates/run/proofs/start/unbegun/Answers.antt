use Rattle.std.proofs.Common.{length}
use Rattle.machine.proofs.Row.{keeps_level_on, replays_on}
use Rattle.run.proofs.start.unbegun.Goals as goal

pub returns-clause-levels : goal.returns-clause-levels
returns-clause-levels c = keeps_level_on c.args.file.now c.args.sheet.now c.requires.admitted (length c.args.stack.now)

pub returns-clause-replay : goal.returns-clause-replay
returns-clause-replay c = replays_on c.args.file.now c.args.sheet.now c.requires.admitted (length c.args.stack.now)
