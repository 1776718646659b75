use Rattle.frames.proofs.laws.cells_are_frames.Goals as goal
use Rattle.frames.proofs.Parts.{cells_are}

pub returns : goal.returns
returns c = cells_are
