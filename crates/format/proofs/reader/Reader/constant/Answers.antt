use Rattle.std.proofs.Common.{rules}
use Rattle.format.proofs.Answered.{there, constant_there}
use Rattle.format.proofs.reader.Reader.constant.Goals as goal

pub returns : goal.returns
returns c = search (rules, there, constant_there)
