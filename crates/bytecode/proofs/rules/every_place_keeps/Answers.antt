use Rattle.std.proofs.Common.{◌≡◌, sym, ap, ◌∙◌, rules}
use Rattle.std.proofs.lemmas.Iterator.Adapters.{option_map_id}
use Rattle.std.proofs.lemmas.Iterator.Search.{find_from_yields_List}
use Rattle.format.specs.Search.{first}
use Rattle.format.specs.Rules.{refused}
use Rattle.bytecode.specs.Places.{places}
use Rattle.bytecode.proofs.Points.{points_go_on, points_stop, points_end}
use Rattle.bytecode.proofs.Turns.{gives, at_each_place}
use Rattle.bytecode.proofs.rules.every_place_keeps.Goals as goal

pub find-found-requires-clause-callable : goal.find-found-requires-clause-callable
find-found-requires-clause-callable g c = at_each_place c.code_places.result c.code_places.ensures (λ p f r. search rules) (λ p m. search rules)

pub returns-in-Some : goal.returns-in-Some
returns-in-Some g c = λ t h.
    let f : c.find-found.result ≡ first (λ p. t (record { method = c.loop-k.k-counter; place = p })) (places c.args.file.now c.loop-k.k-counter) =
    sym (option_map_id _) ∙ find_from_yields_List _ c.find-found.new.self _ _ c.find-found.ensures.ran (gives c.code_places.result c.code_places.ensures) (λ p b q r. search (rules, h)) in
    sym (ap (refused c.args.rule) (points_stop c.args.file.now t c.loop-k.k-counter c.in-Some.place (c.loop-k.invariant t h) (search rules) (sym c.in-Some.is ∙ f)))

pub loop-k-preserved : goal.loop-k-preserved
loop-k-preserved g c = λ t h.
    let f : c.find-found.result ≡ first (λ p. t (record { method = c.loop-k.k-counter; place = p })) (places c.args.file.now c.loop-k.k-counter) =
    sym (option_map_id _) ∙ find_from_yields_List _ c.find-found.new.self _ _ c.find-found.ensures.ran (gives c.code_places.result c.code_places.ensures) (λ p b q r. search (rules, h)) in
    points_go_on c.args.file.now t c.loop-k.k-counter (c.loop-k.invariant t h) (search rules) (sym c.in_default.is ∙ f)

pub returns : goal.returns
returns g c = λ t h. sym (ap (refused c.args.rule) (points_end c.args.file.now t c.loop-k.k-counter (c.loop-k.invariant t h) (search rules)))
