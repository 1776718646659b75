use Rattle.std.proofs.Common.{refl, drop, sym, ap, arith}
use Rattle.machine.specs.Machine.{with_operands}
use Rattle.frames.specs.Frames.{running, waiting}
use Rattle.frames.proofs.Parts.{some_operand}
use Rattle.frames.proofs.Writes.{popped}
use Rattle.frames.proofs.Frames.drop_last.Goals as goal

pub overflow_sub-self : goal.overflow_sub-self
overflow_sub-self c = let o = some_operand c.args.self.now c.requires.some in omega arith

pub invariant_of-self : goal.invariant_of-self
invariant_of-self c =
    let s = c.args.self.now in
    let o = some_operand s c.requires.some in
    record { whole = omega arith; inside = omega (arith, s.inside); used = omega (arith, s.used); below = s.below }

pub returns-clause-running : goal.returns-clause-running
unfolding running
returns-clause-running c =
    let s = c.args.self.now in
    sym (ap (λ r. with_operands r (drop 1 r.operands)) (popped s.file.now s.cells.now s.base s.top (some_operand s c.requires.some) s.inside))

pub returns-clause-waiting : goal.returns-clause-waiting
unfolding waiting
returns-clause-waiting c = refl
