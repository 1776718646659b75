use Rattle.verifier.proofs.Steps.{place_room, place_short, on_one, on_two, on_not}
use Rattle.verifier.proofs.point.Point.leads_on.Goals as goal

pub successors-requires : goal.successors-requires
successors-requires c = (place_room c.args.self.now, place_short c.args.self.now)

pub returns-in-One : goal.returns-in-One
returns-in-One c = on_one c.args.self.now c.args.sheet.now c.args.depth _ c.args.self.now.ends c.in-One.next c.has_number.result c.in-One.ensures c.has_number.ensures

pub returns-then-has_number : goal.returns-then-has_number
returns-then-has_number c = on_two c.args.self.now c.args.sheet.now c.args.depth _ c.args.self.now.ends c.in-Two.target c.in-Two.next c.has_number-in-Two.result c.has_number-then-has_number.result c.in-Two.ensures c.has_number-in-Two.ensures c.has_number-then-has_number.ensures c.if-has_number.true

pub returns-else-has_number : goal.returns-else-has_number
returns-else-has_number c = on_not c.args.self.now c.args.sheet.now c.args.depth _ c.args.self.now.ends c.in-Two.target c.in-Two.next c.has_number-in-Two.result c.in-Two.ensures c.has_number-in-Two.ensures c.if-has_number.false
