use Rattle.std.proofs.Common.{◌+◌, ◌<◌, ◌≤◌, length, arith}
use Rattle.std.proofs.lemmas.List.{length-set}
use Rattle.frames.specs.Frames.{running, waiting}
use Rattle.frames.proofs.Parts.{ends}
use Rattle.frames.proofs.Writes.{write_waiting, write_laid, write_whole, pushed}
use Rattle.frames.proofs.Frames.append.Goals as goal

pub bounds-self-self : goal.bounds-self-self
bounds-self-self c = omega (arith, ends c.args.self.now, c.requires.room)

pub invariant_of-self : goal.invariant_of-self
invariant_of-self c =
    let s = c.args.self.now in
    let n = length-set s.cells.now s.top c.args.value in
    let low : s.base + 3 ≤ s.top = omega (arith, s.whole) in
    let free : s.top < length s.cells.now = omega (arith, ends s, c.requires.room) in
    record {
      whole = write_whole s.file.now s.cells.now s.depth s.base s.top c.args.value low (s.top + 1) (omega (arith, s.whole));
      inside = omega arith;
      used = omega (arith, ends s, c.requires.room);
      below = write_laid s.file.now s.cells.now s.depth s.base s.top c.args.value low s.below;
    }

pub returns-clause-running : goal.returns-clause-running
unfolding running
returns-clause-running c =
    let s = c.args.self.now in
    pushed s.file.now s.cells.now s.base s.top s.whole c.args.value (omega (arith, ends s, c.requires.room))

pub returns-clause-waiting : goal.returns-clause-waiting
unfolding waiting
returns-clause-waiting c =
    let s = c.args.self.now in
    write_waiting s.file.now s.cells.now s.depth s.base s.top c.args.value (omega (arith, s.whole))
