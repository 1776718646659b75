use Rattle.std.proofs.Common.{refl}
use Rattle.format.specs.Layout.{code_due, debug_due, message_due}
use Rattle.bytecode.specs.Places.{decoded, points_from}
use Rattle.verifier.specs.Numbering.{numbering}
use Rattle.verifier.proofs.worked_cases.Goals as goal

pub returns : goal.returns
unfolding code_due debug_due message_due decoded points_from numbering
returns c = (refl, refl, refl, refl, refl, refl, refl, refl, refl, refl, refl, refl, refl, refl, refl, refl, refl, refl, refl, refl, refl)
