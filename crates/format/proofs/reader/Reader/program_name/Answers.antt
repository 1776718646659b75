use Rattle.std.proofs.Common.{rules}
use Rattle.format.proofs.Answered.{there, program_name_there}
use Rattle.format.proofs.reader.Reader.program_name.Goals as goal

pub returns : goal.returns
returns c = search (rules, there, program_name_there)
