use Rattle.std.proofs.Common.{rules}
use Rattle.format.specs.Parts.{seen}
use Rattle.listing.proofs.Held.{constant_told}
use Rattle.listing.proofs.program.Program.constant_line.Goals as goal
use Rattle.listing.proofs.program.Program.constant_line.Goals.{in_default-bytes-via-then-part-lt2, in_default-bytes-via-else-part-lt2+else-this-lt3}

pub unreachable-requires-in_default-bytes : goal.unreachable-requires-in_default-bytes
unreachable-requires-in_default-bytes c =
    let program = c.args.self.now in
    let told = constant_told program.file.now program.reader.bytes.now c.args.index (seen c.in-Some.part) program.reader.accepted program.reads c.in-Some.ensures.is c.requires in
    elim c.in_default-bytes.branch [ in_default-bytes-via-then-part-lt2 w ↦ search rules | in_default-bytes-via-else-part-lt2+else-this-lt3 w ↦ search rules ]

pub returns : goal.returns
returns c =
    let program = c.args.self.now in
    let told = constant_told program.file.now program.reader.bytes.now c.args.index (seen c.in-Some.part) program.reader.accepted program.reads c.in-Some.ensures.is c.requires in
    search rules
