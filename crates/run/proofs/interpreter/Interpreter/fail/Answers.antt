use Rattle.std.proofs.Common.{ℕ, ◌<◌, Bool, cond, None, refl, ap, subst}
use Rattle.std.proofs.lemmas.Bool.{lt-ltb}
use Rattle.format.specs.Layout.{messages}
use Rattle.machine.specs.declared.stop.End.TheVariants as ending
use Rattle.run.proofs.Ready.{ready}
use Rattle.bytecode.specs.declared.instruction.Instruction.TheVariants.{Err}
use Rattle.frames.specs.Frames.{kept_refl}
use Rattle.machine.specs.Machine.{fed, end, with_end}
use Rattle.run.specs.Standing.{program, state_of}
use Rattle.run.proofs.Steps.{code, message_there, finished}
use Rattle.run.proofs.interpreter.Interpreter.fail.Goals as goal

pub returns : goal.returns
returns c =
    let m = c.args.self.now in
    let i = c.args.index in
    let inside : i < messages (program m) = subst (λ (j : ℕ). j < messages (program m)) (code m (Err i) c.requires.here).arguments (message_there m (Err i) c.requires.here refl) in
    (finished m (Err i) c.requires.here refl (with_end (state_of m) (ending.Error i))
    (λ us vs. ap (λ (b : Bool). cond b (end (program m) (fed (state_of m) us vs) (ending.Error i)) None) (lt-ltb i (messages (program m)) inside))
    m.frames m.place m.mode _ (kept_refl m.frames) refl (ready m).fit).does _
