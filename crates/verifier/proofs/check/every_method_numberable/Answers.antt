use Rattle.std.proofs.Common.{rules}
use Rattle.format.specs.Layout.{methods}
use Rattle.verifier.specs.Numbering.{unnumberable}
use Rattle.verifier.proofs.Sought.{sought, sought_below}
use Rattle.verifier.proofs.check.every_method_numberable.Goals as goal

pub map-requires : goal.map-requires
map-requires c k e =
    let f = c.args.code.now.file.now in
    let found = sought (unnumberable f) (methods f) c.method_count.result c.find-first.result c.find-first.new.self c.find-first.ensures.ran c.method_count.ensures (λ k b g r. search rules) in
    let l = sought_below (unnumberable f) (methods f) k found e in
    search rules

pub returns : goal.returns
returns c =
    let f = c.args.code.now.file.now in
    let found = sought (unnumberable f) (methods f) c.method_count.result c.find-first.result c.find-first.new.self c.find-first.ensures.ran c.method_count.ensures (λ k b g r. search rules) in
    search rules
