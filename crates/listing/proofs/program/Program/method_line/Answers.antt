use Rattle.std.proofs.Common.{◌≡◌, string_bytes, ◌∙◌}
use Rattle.std.proofs.lemmas.Result.{IfOk-weaker}
use Rattle.listing.specs.Lines.{method_line}
use Rattle.listing.proofs.program.Program.method_line.Goals as goal

pub returns : goal.returns
returns c =
    IfOk-weaker c.format.result _ (λ s. string_bytes s ≡ method_line c.args.self.now.file.now c.args.index c.args.peak)
    (λ s e. e ∙ rw (c.in_ok-name.ensures, c.in_ok-variables.ensures, c.in_ok-code.ensures))
    c.format.ensures.ok
