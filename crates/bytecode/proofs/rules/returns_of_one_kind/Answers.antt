use Rattle.std.proofs.Common.{◌≡◌, sym, ◌∙◌, rules, arith}
use Rattle.std.proofs.lemmas.Iterator.{YieldsList-from_range}
use Rattle.std.proofs.lemmas.Iterator.Adapters.{option_map_id}
use Rattle.std.proofs.lemmas.Iterator.Search.{find_from_yields_List}
use Rattle.format.specs.Search.{first, upto}
use Rattle.format.specs.Layout.{methods}
use Rattle.format.proofs.Finds.{first_below}
use Rattle.bytecode.specs.Rules.{mixed_returns}
use Rattle.bytecode.proofs.rules.returns_of_one_kind.Goals as goal

pub map-requires : goal.map-requires
map-requires c = λ k e.
    let n = methods c.args.file.now in
    let s : c.find-offender.result ≡ first (mixed_returns c.args.file.now) (upto n) =
    sym (option_map_id _) ∙ find_from_yields_List _ c.find-offender.new.self _ _ c.find-offender.ensures.ran (YieldsList-from_range 0 n n (search rules) (omega arith)) (λ k b f r. search rules) in
    let b = first_below (mixed_returns c.args.file.now) n k (sym s ∙ e) in
    search rules

pub returns : goal.returns
returns c =
    let n = methods c.args.file.now in
    let s : c.find-offender.result ≡ first (mixed_returns c.args.file.now) (upto n) =
    sym (option_map_id _) ∙ find_from_yields_List _ c.find-offender.new.self _ _ c.find-offender.ensures.ran (YieldsList-from_range 0 n n (search rules) (omega arith)) (λ k b f r. search rules) in
    search rules
