use Rattle.std.proofs.Common.{arith}
use Rattle.frames.specs.Frames.{running, waiting}
use Rattle.frames.proofs.Parts.{some_caller}
use Rattle.frames.proofs.Left.{left}
use Rattle.frames.proofs.Frames.drop_frame.Goals as goal

pub overflow_sub-self : goal.overflow_sub-self
overflow_sub-self c = some_caller c.args.self.now c.requires.callers

pub invariant_of-self : goal.invariant_of-self
invariant_of-self c =
    let s = c.args.self.now in
    let l = left s.file.now s.cells.now s.depth s.base (some_caller s c.requires.callers) (omega (arith, s.whole, s.inside)) s.below in
    record { whole = l.whole; inside = omega (arith, s.whole, s.inside); used = omega (arith, s.whole, s.used); below = l.below }

pub returns-clause-frames : goal.returns-clause-frames
unfolding running waiting
returns-clause-frames c =
    let s = c.args.self.now in
    (left s.file.now s.cells.now s.depth s.base (some_caller s c.requires.callers) (omega (arith, s.whole, s.inside)) s.below).frames
