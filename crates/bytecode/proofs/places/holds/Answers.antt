use Rattle.std.proofs.Common.{rules}
use Rattle.std.proofs.lemmas.Iterator.Search.{any_from_yields_List}
use Rattle.bytecode.proofs.Turns.{gives, at_each_place, place_fits}
use Rattle.bytecode.proofs.places.holds.Goals as goal

pub any-requires-clause-callable : goal.any-requires-clause-callable
any-requires-clause-callable c = at_each_place c.code_places.result c.code_places.ensures (λ p f r. search rules) (λ p m. search (rules, place_fits))

pub returns : goal.returns
returns c = any_from_yields_List _ c.any.new.self _ _ c.any.ensures.ran (gives c.code_places.result c.code_places.ensures) (λ p b f r. search rules)
