use Rattle.std.proofs.Common.{refl, ap, arith}
use Rattle.format.specs.declared.layout.MethodEntry.{MethodEntry}
use Rattle.frames.specs.Frames.{running, waiting}
use Rattle.frames.proofs.NewFrame.{main_running, main_whole, main_below}
use Rattle.frames.proofs.Frames.open_main.Goals as goal

pub invariant_of-result : goal.invariant_of-result
invariant_of-result c =
    let f = c.args.file.now in
    let d = c.args.cells.now in
    let l = c.lay.new.cells in
    let e = c.args.entry in
    let ps = ap (λ (e : MethodEntry). e.parameters) c.requires.entry in
    let ls = ap (λ (e : MethodEntry). e.locals) c.requires.entry in
    record {
      whole = main_whole f d l e.parameters e.locals ps ls c.requires.plain c.lay.ensures;
      inside = omega arith;
      used = omega arith;
      below = main_below f d l e.parameters e.locals ps ls c.requires.plain c.lay.ensures;
    }

pub returns-clause-running : goal.returns-clause-running
unfolding running
returns-clause-running c =
    let e = c.args.entry in
    let ps = ap (λ (e : MethodEntry). e.parameters) c.requires.entry in
    let ls = ap (λ (e : MethodEntry). e.locals) c.requires.entry in
    main_running c.args.file.now c.args.cells.now c.lay.new.cells e.parameters e.locals ps ls c.requires.plain c.lay.ensures

pub returns-clause-waiting : goal.returns-clause-waiting
unfolding waiting
returns-clause-waiting c = refl
