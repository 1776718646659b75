use Rattle.std.proofs.Common.{◌≡◌, sym, subst, arith, rules}
use Rattle.format.specs.Layout.{methods}
use Rattle.verifier.specs.Worklist.{ClosedTo}
use Rattle.verifier.proofs.Methods.{closed_none}
use Rattle.verifier.proofs.worklist.number_methods.Goals as goal

pub loop-k-init : goal.loop-k-init
loop-k-init c =
    let r = c.requires.room in
    let e = c.new-line.ensures.capacity in
    (subst (ClosedTo c.args.code.now.file.now 0) (sym c.requires.blank) (closed_none c.args.code.now.file.now), c.new-line.ensures.items, omega arith)

pub returns : goal.returns
returns c =
    let e : c.loop-k.k ≡ methods c.args.code.now.file.now = search rules in
    subst (λ n. ClosedTo c.args.code.now.file.now n c.loop-k.sheet) e c.loop-k.invariant.0
