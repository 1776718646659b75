use Rattle.std.proofs.Common.{subst, ◌++◌, rules}
use Rattle.format.specs.Parts.{Accepted}
use Rattle.bytecode.proofs.Turns.{given, still, folded, place_fits}
use Rattle.listing.specs.Code.{place_line}
use Rattle.listing.proofs.Known.{known}
use Rattle.listing.proofs.program.Program.place_lines.Goals as goal

pub place_line-requires-clause-inside : goal.place_line-requires-clause-inside
place_line-requires-clause-inside c =
    let among = c.loop-place.invariant.1 c.in-Some.place (given c.in-Some.ensures.steps) in
    (place_fits c.args.self.now.file.now c.args.k c.in-Some.place (subst Accepted c.args.self.now.reads c.args.self.now.reader.accepted) c.requires among).1

pub place_line-requires-clause-known : goal.place_line-requires-clause-known
place_line-requires-clause-known c =
    let among = c.loop-place.invariant.1 c.in-Some.place (given c.in-Some.ensures.steps) in
    known c.args.self.now.file.now c.args.k c.in-Some.place c.args.self.now.code c.requires among

pub loop-place-preserved : goal.loop-place-preserved
loop-place-preserved c = (
  folded (λ text p. text ++ place_line c.args.self.now.file.now c.args.self.now.sheet.now p) c.in-Some.ensures.steps c.loop-place.invariant.0 (search rules),
  λ q m. c.loop-place.invariant.1 q (still c.in-Some.ensures.steps q m),
)
