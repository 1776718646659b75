use Rattle.std.proofs.Common.{map, refl, ap, ◌∙◌, arith}
use Rattle.std.proofs.lemmas.List.{take_all}
use Rattle.runner.proofs.Keying.{pair_unit, paired}
use Rattle.runner.proofs.keys.key_all.Goals as goal

pub returns-clause-waiting : goal.returns-clause-waiting
returns-clause-waiting c =
    c.loop-pair.invariant.0 ∙ ap (map pair_unit) (take_all _ _ (omega arith) ∙ c.as_chunks.ensures.front) ∙ paired c.args.keys.now _ refl
