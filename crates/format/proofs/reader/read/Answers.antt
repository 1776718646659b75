use Rattle.std.proofs.Common.{rules}
use Rattle.format.proofs.Sounds.{sound_decides}
use Rattle.format.proofs.reader.read.Goals as goal

pub returns-in_err-laid_out : goal.returns-in_err-laid_out
returns-in_err-laid_out c = search (rules, sound_decides)

pub returns : goal.returns
returns c = let e = c.in_ok-laid_out.ensures in search (rules, sound_decides)
