use Rattle.std.proofs.Common.{rules}
use Rattle.bytecode.proofs.Accepted.{code_room, file_short}
use Rattle.bytecode.proofs.places.code_size.Goals as goal

pub returns : goal.returns
returns c = let m = code_room c.args.file.now c.args.k c.requires.0 c.requires.1 in let s = file_short c.args.file.now c.requires.0 in search rules
