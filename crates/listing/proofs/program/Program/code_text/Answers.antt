use Rattle.std.proofs.Common.{rules}
use Rattle.format.specs.Parts.{seen}
use Rattle.listing.proofs.Held.{code_told}
use Rattle.listing.proofs.program.Program.code_text.Goals as goal

pub returns : goal.returns
returns c =
    let program = c.args.self.now in
    let told = code_told program.file.now program.reader.bytes.now c.args.index (seen c.in-Some.part) program.reader.accepted program.reads c.in-Some.ensures.is c.requires in
    search rules
