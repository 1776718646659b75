use Rattle.frames.proofs.LaidCells.{laid_cells}
use Rattle.frames.proofs.laying.lay.Goals as goal

pub returns : goal.returns
returns c =
    let h = c.args.head in
    let e = c.args.entry in
    laid_cells c.args.cells.now c.args.base e.parameters e.locals h.method h.return_place h.caller c.requires c.write_head.new.cells (cc)
