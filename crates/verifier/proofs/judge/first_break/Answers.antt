use Rattle.std.proofs.Common.{sym, ◌∙◌, rules}
use Rattle.std.proofs.lemmas.Iterator.Adapters.{option_map_id}
use Rattle.std.proofs.lemmas.Iterator.Search.{find_from_yields_List}
use Rattle.bytecode.proofs.Turns.{gives, at_each_place}
use Rattle.verifier.specs.Numbering.{breaks}
use Rattle.verifier.proofs.judge.first_break.Goals as goal

pub find-requires-clause-callable : goal.find-requires-clause-callable
find-requires-clause-callable c = at_each_place c.code_places.result c.code_places.ensures (λ p f r. search rules) (λ p m. search rules)

pub returns : goal.returns
returns c =
    sym (option_map_id _) ∙
    find_from_yields_List (λ p. breaks c.args.code.now.file.now c.args.sheet.now (record { method = c.args.k; place = p })) c.find.new.self _ _ c.find.ensures.ran (gives c.code_places.result c.code_places.ensures) (λ p b f r. search rules)
