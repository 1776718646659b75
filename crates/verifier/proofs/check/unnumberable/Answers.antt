use Rattle.std.proofs.Common.{is_some, ap, ◌∙◌}
use Rattle.format.proofs.Finds.{some_first}
use Rattle.bytecode.specs.Places.{places}
use Rattle.verifier.specs.Numbering.{breaks}
use Rattle.verifier.proofs.Methods.{closed_unnumberable}
use Rattle.verifier.proofs.check.unnumberable.Goals as goal

pub returns : goal.returns
returns c =
    let f = c.args.code.now.file.now in
    let s = c.args.sheet.now in
    c.is_some.ensures ∙ ap is_some c.first_break.ensures ∙ some_first (λ p. breaks f s (record { method = c.args.k; place = p })) (places f c.args.k) ∙
    closed_unnumberable f c.args.code.now.layout c.args.k s c.requires.method (c.requires.complete.closed c.args.k c.requires.method)
