use Rattle.std.proofs.Common.{ℕ, ◌<◌, [], ◌∷◌, sym, refl, ap, subst}
use Rattle.machine.specs.declared.stop.End.TheVariants as ending
use Rattle.machine.specs.Go.{frames_size, cells_used}
use Rattle.bytecode.specs.declared.instruction.Instruction.TheVariants.{Ireturn}
use Rattle.frames.specs.Frames.{running, waiting, kept_trans}
use Rattle.machine.specs.Machine.{execute, fed}
use Rattle.run.specs.Standing.{program, state_of}
use Rattle.run.proofs.Calling.{ended_by, caller_free, resumed}
use Rattle.run.proofs.Steps.{taken}
use Rattle.run.proofs.interpreter.Interpreter.give_back_value.Goals as goal

pub last-value-requires : goal.last-value-requires
last-value-requires c = record { some = taken c.args.self.now Ireturn c.requires.here }

pub returns-then-is_only : goal.returns-then-is_only
returns-then-is_only c =
    let m = c.args.self.now in
    let v = c.last-value.result in
    (ended_by m Ireturn c.requires.here refl (ending.Value v) (v ∷ []) (λ us vs. ap (execute (program m) (fed (state_of m) us vs) Ireturn) c.last-value.ensures) (sym c.if-is_only.ensures)).does _

pub leave-requires : goal.leave-requires
leave-requires c = record { callers = sym c.if-is_only.ensures }

pub push-requires : goal.push-requires
push-requires c =
    let m = c.args.self.now in
    let v = c.last-value.result in
    let u = c.leave.ensures in
    let y = c.leave.new.self in
    record {
      room = subst (λ (n : ℕ). frames_size (running y ∷ waiting y) < cells_used n) (sym u.kept.same_size)
          (caller_free m Ireturn c.requires.here refl (ending.Value v) (v ∷ []) (λ us vs. ap (execute (program m) (fed (state_of m) us vs) Ireturn) c.last-value.ensures)
          (running y) (waiting y) u.frames v refl);
    }

pub invariant_of-self-2 : goal.invariant_of-self-2
invariant_of-self-2 c =
    let m = c.args.self.now in
    let v = c.last-value.result in
    let u = c.leave.ensures in
    let p = c.push.ensures in
    record {
      sound = (resumed m Ireturn c.requires.here refl (ending.Value v) (v ∷ []) (λ us vs. ap (execute (program m) (fed (state_of m) us vs) Ireturn) c.last-value.ensures)
          (running c.leave.new.self) (waiting c.leave.new.self) u.frames c.push.new.self (kept_trans _ _ _ u.kept p.kept) p.running p.waiting c.leave.result u.place).holds;
    }

pub returns : goal.returns
returns c =
    let m = c.args.self.now in
    let v = c.last-value.result in
    let u = c.leave.ensures in
    let p = c.push.ensures in
    (resumed m Ireturn c.requires.here refl (ending.Value v) (v ∷ []) (λ us vs. ap (execute (program m) (fed (state_of m) us vs) Ireturn) c.last-value.ensures)
    (running c.leave.new.self) (waiting c.leave.new.self) u.frames c.push.new.self (kept_trans _ _ _ u.kept p.kept) p.running p.waiting c.leave.result u.place).does _
