use Rattle.std.proofs.Common.{arith}
use Rattle.frames.specs.Frames.{running}
use Rattle.frames.proofs.Parts.{has_variable}
use Rattle.frames.proofs.Writes.{loaded}
use Rattle.frames.proofs.Frames.variable_cell.Goals as goal

pub returns-clause-inside : goal.returns-clause-inside
returns-clause-inside c =
    let s = c.args.self.now in
    let few = has_variable s c.args.index c.requires.inside in
    omega (arith, s.whole, s.inside)

pub returns-clause-value : goal.returns-clause-value
unfolding running
returns-clause-value c =
    let s = c.args.self.now in
    loaded s.file.now s.cells.now s.base s.top s.whole c.args.index (has_variable s c.args.index c.requires.inside)
