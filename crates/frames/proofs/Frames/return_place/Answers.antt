use Rattle.std.proofs.Common.{◌+◌, sym, arith}
use Rattle.std.proofs.lemmas.List.{get_or-take}
use Rattle.frames.specs.Frames.{running}
use Rattle.frames.proofs.Frames.return_place.Goals as goal

pub returns : goal.returns
unfolding running
returns c =
    let s = c.args.self.now in
    sym (get_or-take s.top s.cells.now (s.base + 1) 0 (omega (arith, s.whole)))
