use Rattle.std.proofs.Common.{rules}
use Rattle.format.proofs.Answered.{there, method_name_there}
use Rattle.format.proofs.reader.Reader.method_name.Goals as goal

pub returns : goal.returns
returns c = search (rules, there, method_name_there)
