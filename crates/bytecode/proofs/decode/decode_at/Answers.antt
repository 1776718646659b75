use Rattle.std.proofs.Common.{ap, ◌∙◌}
use Rattle.std.proofs.lemmas.List.{take_rest}
use Rattle.bytecode.specs.Opcodes.{decode}
use Rattle.bytecode.proofs.Decoding.{says_at}
use Rattle.bytecode.proofs.decode.decode_at.Goals as goal

pub returns : goal.returns
returns c =
    let e = c.decode.ensures.is ∙ ap decode (take_rest c.args.file.now c.args.place) in
    record { is = e; at = says_at c.args.file.now c.args.place (λ x. x.0) c.decode.result c.requires e }
