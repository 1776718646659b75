use Rattle.std.proofs.Common.{[], ◌∷◌, Some, Ok, Err, refl, ap, arith}
use Rattle.refusals.specs.declared.Refusal.{Refusal}
use Rattle.refusals.specs.Refusals.{number_of}
use Rattle.format.specs.Layout.{code_due, debug_due, message_due}
use Rattle.bytecode.specs.Places.{decoded, points_from}
use Rattle.verifier.specs.Numbering.{numbering}
use Rattle.machine.specs.Cases.{PutRefused}
use Rattle.machine.proofs.worked_cases.Goals as goal

third : PutRefused (65 ∷ 66 ∷ []) 67
third (Ok u) w n h = absurd (let e = h.1 in omega arith)
third (Err e) w n h = (ap (λ (r : Refusal). Some (number_of r.rule, r.place)) h.1, h.2, h.3)

pub returns : goal.returns
unfolding code_due debug_due message_due decoded points_from numbering
returns c = ((refl, refl, refl, refl, refl, refl, refl, refl, refl, refl, refl, refl, refl, refl, refl, refl, refl, refl, refl, refl, refl), refl, refl, refl, refl, refl, refl, refl, refl, refl, refl, refl, refl, refl, refl, refl, refl, refl, refl, refl, refl, refl, refl, refl, refl, refl, refl, refl, refl, refl, refl, refl, refl, refl, refl, refl, refl, third)
