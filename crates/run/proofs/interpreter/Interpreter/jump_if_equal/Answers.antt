use Rattle.std.proofs.Common.{ℕ, cond, eqb, sym, refl, ap, ◌∙◌, arith}
use Rattle.bytecode.specs.Opcodes.{target}
use Rattle.bytecode.specs.declared.instruction.Instruction.TheVariants.{IfIcmpeq}
use Rattle.machine.specs.Machine.{execute, fed}
use Rattle.run.specs.Standing.{program, state_of}
use Rattle.run.proofs.Steps.{place_small, taken, next_is, continued}
use Rattle.run.proofs.interpreter.Interpreter.jump_if_equal.Goals as goal

pub pop_two-lower-requires : goal.pop_two-lower-requires
pop_two-lower-requires c = record { two = taken c.args.self.now (IfIcmpeq c.args.distance) c.requires.here }

pub way-self-requires : goal.way-self-requires
way-self-requires c = let l = place_small c.args.self.now in omega arith

pub invariant_of-self : goal.invariant_of-self
invariant_of-self c =
    let m = c.args.self.now in
    let o = c.args.distance in
    let t = c.pop_two-lower.ensures in
    record {
      sound = (continued m (IfIcmpeq o) c.requires.here refl _ _ (λ us vs. ap (execute (program m) (fed (state_of m) us vs) (IfIcmpeq o)) t.values) refl
          c.pop_two-lower.new.frames _ t.kept t.running t.waiting
          (c.way-self.ensures ∙ ap (λ (q : ℕ). cond (eqb c.pop_two-lower.result.0 c.pop_two-lower.result.1) (target m.place o) q) (sym (next_is m (IfIcmpeq o) c.requires.here)))).holds;
    }

pub returns : goal.returns
returns c =
    let m = c.args.self.now in
    let o = c.args.distance in
    let t = c.pop_two-lower.ensures in
    (continued m (IfIcmpeq o) c.requires.here refl _ _ (λ us vs. ap (execute (program m) (fed (state_of m) us vs) (IfIcmpeq o)) t.values) refl
    c.pop_two-lower.new.frames _ t.kept t.running t.waiting
    (c.way-self.ensures ∙ ap (λ (q : ℕ). cond (eqb c.pop_two-lower.result.0 c.pop_two-lower.result.1) (target m.place o) q) (sym (next_is m (IfIcmpeq o) c.requires.here)))).does _
