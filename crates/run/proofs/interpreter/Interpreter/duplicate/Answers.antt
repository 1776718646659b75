use Rattle.std.proofs.Common.{◌≡◌, ℕ, List, ◌∷◌, Some, sym, refl, ap, ◌∙◌, arith}
use Rattle.bytecode.specs.Places.{next}
use Rattle.bytecode.specs.declared.instruction.Instruction.TheVariants.{Dup}
use Rattle.frames.specs.Frames.{running, kept_refl}
use Rattle.machine.specs.Machine.{execute, fed, continue_at, with_operands}
use Rattle.run.specs.Standing.{program, stands, state_of}
use Rattle.run.proofs.Steps.{place_small, taken, free_cell, proceeded, Proceeds}
use Rattle.run.specs.declared.interpreter.Interpreter.{Interpreter}
use Rattle.run.proofs.interpreter.Interpreter.duplicate.Goals as goal

-- the operands with their first once more
twice : (m : Interpreter) (here : stands m ≡ Some Dup) (v : ℕ) (w : List ℕ) → (running m.frames).operands ≡ v ∷ w → Proceeds m Dup here refl (v ∷ (running m.frames).operands)
twice m here v w e us vs =
    ap (execute (program m) (fed (state_of m) us vs) Dup) e ∙
    ap (λ (t : List ℕ). Some (fed (continue_at (state_of m) (with_operands (running m.frames) (v ∷ t)) (next (program m) m.place)) us vs)) (sym e)

pub last-value-requires : goal.last-value-requires
last-value-requires c = record { some = taken c.args.self.now Dup c.requires.here }

pub push-requires : goal.push-requires
push-requires c =
    let m = c.args.self.now in
    record {
      room = free_cell m Dup c.requires.here refl m.frames c.last-value.result (kept_refl m.frames) refl refl
          (twice m c.requires.here c.last-value.result _ c.last-value.ensures);
    }

pub overflow_add-self : goal.overflow_add-self
overflow_add-self c = let l = place_small c.args.self.now in omega arith

pub invariant_of-self : goal.invariant_of-self
invariant_of-self c =
    let m = c.args.self.now in
    let u = c.push.ensures in
    record {
      sound = (proceeded m Dup c.requires.here refl _ (twice m c.requires.here c.last-value.result _ c.last-value.ensures)
          c.push.new.self u.kept u.running u.waiting).holds;
    }

pub returns : goal.returns
returns c =
    let m = c.args.self.now in
    let u = c.push.ensures in
    (proceeded m Dup c.requires.here refl _ (twice m c.requires.here c.last-value.result _ c.last-value.ensures)
    c.push.new.self u.kept u.running u.waiting).does _
