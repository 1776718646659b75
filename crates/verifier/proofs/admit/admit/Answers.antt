use Rattle.std.proofs.Common.{◌≡◌, None, Option, sym, rules}
use Rattle.refusals.specs.declared.Refusal.{Refusal}
use Rattle.verifier.specs.Numbering.{admit_refusal}
use Rattle.verifier.proofs.Numbers.{agrees_where_reached}
use Rattle.verifier.proofs.admit.admit.Goals as goal

pub returns-clause-agrees : goal.returns-clause-agrees
returns-clause-agrees c =
    let passes : ◌≡◌ {A = Option Refusal} None (admit_refusal c.args.file.now c.args.sheet.now) = search rules in
    agrees_where_reached c.args.file.now c.args.sheet.now (sym passes)
