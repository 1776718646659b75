use Rattle.std.proofs.Common.{rules}
use Rattle.listing.proofs.Texts.{lines_none, lines_more}
use Rattle.listing.proofs.report.lines.Goals as goal

pub loop-index-init : goal.loop-index-init
loop-index-init g c each told = search (rules, lines_none)

pub loop-index-preserved : goal.loop-index-preserved
loop-index-preserved g c each told =
    let before = c.loop-index.invariant each told in
    let here = told c.loop-index.index (search rules) _ c.line.ensures in
    search (rules, lines_more)
