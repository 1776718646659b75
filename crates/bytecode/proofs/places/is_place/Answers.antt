use Rattle.std.proofs.Common.{rules}
use Rattle.std.proofs.lemmas.Iterator.Search.{any_from_yields_List}
use Rattle.bytecode.proofs.Turns.{gives}
use Rattle.bytecode.proofs.places.is_place.Goals as goal

pub returns : goal.returns
returns c = any_from_yields_List _ c.any.new.self _ _ c.any.ensures.ran (gives c.code_places.result c.code_places.ensures) (λ p b f r. search rules)
