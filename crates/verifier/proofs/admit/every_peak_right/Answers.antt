use Rattle.std.proofs.Common.{arith, rules}
use Rattle.format.specs.Layout.{methods}
use Rattle.verifier.specs.Numbering.{bad_peak}
use Rattle.verifier.proofs.Sought.{sought, sought_below}
use Rattle.verifier.proofs.admit.every_peak_right.Goals as goal

pub map-requires : goal.map-requires
map-requires c k e =
    let f = c.args.code.now.file.now in
    let found = sought (bad_peak f c.args.sheet.now) (methods f) c.method_count.result c.find-first.result c.find-first.new.self c.find-first.ensures.ran c.method_count.ensures (λ k b g r. search rules) in
    let l = sought_below (bad_peak f c.args.sheet.now) (methods f) k found e in
    let n = c.args.code.now.few in
    omega arith

pub returns : goal.returns
returns c =
    let f = c.args.code.now.file.now in
    let found = sought (bad_peak f c.args.sheet.now) (methods f) c.method_count.result c.find-first.result c.find-first.new.self c.find-first.ensures.ran c.method_count.ensures (λ k b g r. search rules) in
    search rules
