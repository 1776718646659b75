use Rattle.std.proofs.Common.{◌≡◌, ◌+◌, ◌≤◌, take, set, ap, ◌∙◌, arith}
use Rattle.std.proofs.lemmas.List.{length-set}
use Rattle.frames.specs.Frames.{running, waiting}
use Rattle.frames.specs.Laid.{frame_at}
use Rattle.frames.proofs.Parts.{has_variable}
use Rattle.frames.proofs.Writes.{write_waiting, write_laid, write_whole, stored}
use Rattle.frames.proofs.Frames.write.Goals as goal

pub invariant_of-self : goal.invariant_of-self
invariant_of-self c =
    let s = c.args.self.now in
    let at = c.variable_cell-at.result in
    let place : at ≡ s.base + 3 + c.args.index = c.variable_cell-at.ensures.place in
    let low : s.base + 3 ≤ at = omega arith in
    let n = length-set s.cells.now at c.args.value in
    record {
      whole = write_whole s.file.now s.cells.now s.depth s.base at c.args.value low s.top s.whole;
      inside = omega (arith, s.inside);
      used = s.used;
      below = write_laid s.file.now s.cells.now s.depth s.base at c.args.value low s.below;
    }

pub returns-clause-running : goal.returns-clause-running
unfolding running
returns-clause-running c =
    let s = c.args.self.now in
    ap (λ i. frame_at s.file.now (take s.top (set s.cells.now i c.args.value)) s.base) c.variable_cell-at.ensures.place
    ∙ stored s.file.now s.cells.now s.base s.top s.whole c.args.index c.args.value s.inside (has_variable s c.args.index c.requires.inside)

pub returns-clause-waiting : goal.returns-clause-waiting
unfolding waiting
returns-clause-waiting c =
    let s = c.args.self.now in
    let at = c.variable_cell-at.result in
    let place : at ≡ s.base + 3 + c.args.index = c.variable_cell-at.ensures.place in
    write_waiting s.file.now s.cells.now s.depth s.base at c.args.value (omega arith)
