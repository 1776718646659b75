use Rattle.std.proofs.Common.{sym}
use Rattle.verifier.proofs.Steps.{some_result, no_result}
use Rattle.verifier.proofs.point.Point.keeps.Goals as goal

pub returns-in-Some : goal.returns-in-Some
returns-in-Some c = let r = some_result _ _ _ c.in-Some.ensures in rw (r.0, sym r.1) c.leads_on.ensures

pub returns-in-None : goal.returns-in-None
returns-in-None c = rw (no_result _ _ c.in-None.ensures)
