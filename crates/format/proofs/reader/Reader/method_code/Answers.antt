use Rattle.std.proofs.Common.{rules}
use Rattle.format.proofs.Answered.{there, method_code_there}
use Rattle.format.proofs.reader.Reader.method_code.Goals as goal

pub returns : goal.returns
returns c = search (rules, there, method_code_there)
