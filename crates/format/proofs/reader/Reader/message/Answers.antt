use Rattle.std.proofs.Common.{rules}
use Rattle.format.proofs.Answered.{there, message_there}
use Rattle.format.proofs.reader.Reader.message.Goals as goal

pub returns : goal.returns
returns c = search (rules, there, message_there)
