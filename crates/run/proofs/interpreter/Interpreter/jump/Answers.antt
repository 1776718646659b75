use Rattle.std.proofs.Common.{refl, arith}
use Rattle.bytecode.specs.declared.instruction.Instruction.TheVariants.{Goto}
use Rattle.frames.specs.Frames.{running, kept_refl}
use Rattle.run.proofs.Steps.{place_small, continued}
use Rattle.run.proofs.interpreter.Interpreter.jump.Goals as goal

pub target-self-requires : goal.target-self-requires
target-self-requires c = let l = place_small c.args.self.now in omega arith

pub invariant_of-self : goal.invariant_of-self
invariant_of-self c =
    let m = c.args.self.now in
    record {
      sound = (continued m (Goto c.args.distance) c.requires.here refl (running m.frames) _ (λ us vs. refl) refl
          m.frames _ (kept_refl m.frames) refl refl c.target-self.ensures).holds;
    }

pub returns : goal.returns
returns c =
    let m = c.args.self.now in
    (continued m (Goto c.args.distance) c.requires.here refl (running m.frames) _ (λ us vs. refl) refl
    m.frames _ (kept_refl m.frames) refl refl c.target-self.ensures).does _
