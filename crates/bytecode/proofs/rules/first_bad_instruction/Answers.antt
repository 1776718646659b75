use Rattle.std.proofs.Common.{sym, ◌∙◌, rules}
use Rattle.std.proofs.lemmas.Iterator.Adapters.{option_map_id}
use Rattle.std.proofs.lemmas.Iterator.Search.{find_from_yields_List}
use Rattle.bytecode.specs.Rules.{bad_instruction}
use Rattle.bytecode.proofs.Turns.{gives, at_each_place, place_fits}
use Rattle.bytecode.proofs.rules.first_bad_instruction.Goals as goal

pub find-requires-clause-callable : goal.find-requires-clause-callable
find-requires-clause-callable c = at_each_place c.code_places.result c.code_places.ensures (λ p f r. search rules) (λ p m. search (rules, place_fits))

pub returns : goal.returns
returns c =
    sym (option_map_id _) ∙
    find_from_yields_List (λ p. bad_instruction c.args.file.now (record { method = c.args.k; place = p })) c.find.new.self _ _ c.find.ensures.ran (gives c.code_places.result c.code_places.ensures) (λ p b f r. search rules)
