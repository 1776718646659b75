use Rattle.std.proofs.Common.{◌∙◌, rules}
use Rattle.frames.specs.Frames.{running, kept_trans}
use Rattle.run.proofs.Steps.{over, place_small, free_cell}
use Rattle.run.proofs.Operations.{no_in, takes_there, combines_to, combined}
use Rattle.bytecode.specs.Encoding.{opcode_of}
use Rattle.run.proofs.interpreter.Interpreter.combine.Goals as goal

pub pop_two-lower-requires : goal.pop_two-lower-requires
pop_two-lower-requires g c = let h = c.requires.here in record { two = takes_there c.args.self.now h.0 h.1 h.2 2 h.4 }

pub push-requires : goal.push-requires
push-requires g c =
    let m = c.args.self.now in
    let h = c.requires.here in
    let t = c.pop_two-lower.ensures in
    record {
      room = free_cell m h.0 h.1 (no_in (opcode_of h.0) h.2) c.pop_two-lower.new.frames c.operation.result t.kept t.running t.waiting
          (combines_to m h.0 h.1 h.2 _ h.5 c.pop_two-lower.result.0 c.pop_two-lower.result.1 c.operation.result _ (search rules) (search rules) c.operation.ensures t.values);
    }

pub overflow_add-self : goal.overflow_add-self
overflow_add-self g c = let l = place_small c.args.self.now in search rules

pub invariant_of-self : goal.invariant_of-self
invariant_of-self g c =
    let m = c.args.self.now in
    let h = c.requires.here in
    let t = c.pop_two-lower.ensures in
    let u = c.push.ensures in
    record {
      sound = (combined m h.0 h.1 h.2 _ h.5 c.pop_two-lower.result.0 c.pop_two-lower.result.1 c.operation.result _ (search rules) (search rules) c.operation.ensures t.values h.3
          c.push.new.self (kept_trans _ _ _ t.kept u.kept) (u.running ∙ over (running c.pop_two-lower.new.frames) (running m.frames) _ _ t.running) (u.waiting ∙ t.waiting)).holds;
    }

pub returns : goal.returns
returns g c =
    let m = c.args.self.now in
    let h = c.requires.here in
    let t = c.pop_two-lower.ensures in
    let u = c.push.ensures in
    (combined m h.0 h.1 h.2 _ h.5 c.pop_two-lower.result.0 c.pop_two-lower.result.1 c.operation.result _ (search rules) (search rules) c.operation.ensures t.values h.3
    c.push.new.self (kept_trans _ _ _ t.kept u.kept) (u.running ∙ over (running c.pop_two-lower.new.frames) (running m.frames) _ _ t.running) (u.waiting ∙ t.waiting)).does _
