use Rattle.std.proofs.Common.{◌+◌, ◌≤◌, get_or, ap, arith, rules}
use Rattle.format.specs.declared.layout.MethodEntry.{MethodEntry}
use Rattle.frames.specs.Frames.{running, waiting}
use Rattle.frames.specs.Laid.{variables_of}
use Rattle.frames.proofs.Parts.{operands_below, few_callers, room_above}
use Rattle.frames.proofs.NewFrame.{entered_running, entered_waiting, entered_below, entered_whole}
use Rattle.frames.proofs.Frames.enter_by.Goals as goal

pub overflow_sub-base : goal.overflow_sub-base
overflow_sub-base c =
    let o = operands_below c.args.self.now in
    let p = ap (λ (e : MethodEntry). e.parameters) c.requires.entry in
    omega (arith, c.requires.some)

pub lay-requires : goal.lay-requires
lay-requires c =
    let s = c.args.self.now in
    let e = c.args.entry in
    let o = operands_below s in
    let p = ap (λ (e : MethodEntry). e.parameters) c.requires.entry in
    let r = room_above s e.locals _ (ap (λ (e : MethodEntry). e.locals) c.requires.entry) c.requires.room in
    let few : e.parameters ≤ s.top = omega (arith, c.requires.some) in
    omega arith

pub overflow_add-self-3 : goal.overflow_add-self-3
overflow_add-self-3 c =
    let d = few_callers c.args.self.now in
    search rules

pub invariant_of-self : goal.invariant_of-self
invariant_of-self c =
    let s = c.args.self.now in
    let e = c.args.entry in
    let ps = ap (λ (e : MethodEntry). e.parameters) c.requires.entry in
    let ls = ap (λ (e : MethodEntry). e.locals) c.requires.entry in
    let o = operands_below s in
    let some : s.base + 3 + variables_of s.file.now (get_or s.cells.now s.base 0) + e.parameters ≤ s.top = omega (arith, c.requires.some) in
    let n = c.lay.auto.cells in
    let room = room_above s e.locals _ ls c.requires.room in
    record {
      whole = entered_whole s.file.now s.cells.now c.lay.new.cells s.depth s.base s.top e.parameters e.locals c.args.method c.args.return_place some s.inside ps ls c.lay.ensures;
      inside = omega arith;
      used = room.1;
      below = entered_below s.file.now s.cells.now c.lay.new.cells s.depth s.base s.top e.parameters e.locals c.args.method c.args.return_place some s.inside ps ls c.lay.ensures s.below;
    }

pub returns-clause-running : goal.returns-clause-running
unfolding running
returns-clause-running c =
    let s = c.args.self.now in
    let e = c.args.entry in
    let ps = ap (λ (e : MethodEntry). e.parameters) c.requires.entry in
    let ls = ap (λ (e : MethodEntry). e.locals) c.requires.entry in
    let o = operands_below s in
    entered_running s.file.now s.cells.now c.lay.new.cells s.depth s.base s.top e.parameters e.locals c.args.method c.args.return_place
    (omega (arith, c.requires.some)) s.inside ps ls c.lay.ensures

pub returns-clause-waiting : goal.returns-clause-waiting
unfolding waiting running
returns-clause-waiting c =
    let s = c.args.self.now in
    let e = c.args.entry in
    let ps = ap (λ (e : MethodEntry). e.parameters) c.requires.entry in
    let ls = ap (λ (e : MethodEntry). e.locals) c.requires.entry in
    let o = operands_below s in
    entered_waiting s.file.now s.cells.now c.lay.new.cells s.depth s.base s.top e.parameters e.locals c.args.method c.args.return_place
    (omega (arith, c.requires.some)) s.inside ps ls c.lay.ensures
