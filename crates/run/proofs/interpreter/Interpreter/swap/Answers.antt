use Rattle.std.proofs.Common.{◌∷◌, refl, ap, ◌∙◌, arith}
use Rattle.bytecode.specs.declared.instruction.Instruction.TheVariants.{Swap}
use Rattle.frames.specs.Frames.{running, kept_trans}
use Rattle.machine.specs.Machine.{Frame, execute, fed, with_operands}
use Rattle.run.specs.Standing.{program, state_of}
use Rattle.run.proofs.Steps.{over, place_small, taken, cell_free, peak, proceeded}
use Rattle.run.proofs.interpreter.Interpreter.swap.Goals as goal

pub pop_two-lower-requires : goal.pop_two-lower-requires
pop_two-lower-requires c = record { two = taken c.args.self.now Swap c.requires.here }

pub push-requires : goal.push-requires
push-requires c =
    let m = c.args.self.now in
    let t = c.pop_two-lower.ensures in
    let l = peak m Swap c.requires.here refl _ _ (λ us vs. ap (execute (program m) (fed (state_of m) us vs) Swap) t.values) in
    record { room = cell_free m c.pop_two-lower.new.frames (running c.pop_two-lower.new.frames).operands t.kept t.running t.waiting (omega (arith, l)) }

pub push-requires-2 : goal.push-requires-2
push-requires-2 c =
    let m = c.args.self.now in
    let t = c.pop_two-lower.ensures in
    let u = c.push.ensures in
    let l = peak m Swap c.requires.here refl _ _ (λ us vs. ap (execute (program m) (fed (state_of m) us vs) Swap) t.values) in
    record {
      room = cell_free m c.push.new.self (c.pop_two-lower.result.1 ∷ (running c.pop_two-lower.new.frames).operands) (kept_trans _ _ _ t.kept u.kept)
          (u.running ∙ over (running c.pop_two-lower.new.frames) (running m.frames) _ _ t.running) (u.waiting ∙ t.waiting) l;
    }

pub overflow_add-self : goal.overflow_add-self
overflow_add-self c = let l = place_small c.args.self.now in omega arith

pub invariant_of-self : goal.invariant_of-self
invariant_of-self c =
    let m = c.args.self.now in
    let t = c.pop_two-lower.ensures in
    let u = c.push.ensures in
    let v = c.push-2.ensures in
    let first = u.running ∙ over (running c.pop_two-lower.new.frames) (running m.frames) _ _ t.running in
    record {
      sound = (proceeded m Swap c.requires.here refl _ (λ us vs. ap (execute (program m) (fed (state_of m) us vs) Swap) t.values)
          c.push-2.new.self (kept_trans _ _ _ t.kept (kept_trans _ _ _ u.kept v.kept))
          (v.running ∙ ap (λ (q : Frame). with_operands q (c.pop_two-lower.result.0 ∷ q.operands)) first) (v.waiting ∙ u.waiting ∙ t.waiting)).holds;
    }

pub returns : goal.returns
returns c =
    let m = c.args.self.now in
    let t = c.pop_two-lower.ensures in
    let u = c.push.ensures in
    let v = c.push-2.ensures in
    let first = u.running ∙ over (running c.pop_two-lower.new.frames) (running m.frames) _ _ t.running in
    (proceeded m Swap c.requires.here refl _ (λ us vs. ap (execute (program m) (fed (state_of m) us vs) Swap) t.values)
    c.push-2.new.self (kept_trans _ _ _ t.kept (kept_trans _ _ _ u.kept v.kept))
    (v.running ∙ ap (λ (q : Frame). with_operands q (c.pop_two-lower.result.0 ∷ q.operands)) first) (v.waiting ∙ u.waiting ∙ t.waiting)).does _
