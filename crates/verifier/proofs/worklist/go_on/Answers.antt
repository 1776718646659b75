use Rattle.std.proofs.Common.{refl, ◌∙◌, subst}
use mathlib.Core.List.Memᴰ
use Rattle.ring.specs.Ring.{items, capacity}
use Rattle.format.proofs.Finds.{In}
use Rattle.verifier.proofs.Steps.{place_room, place_short}
use Rattle.verifier.proofs.Turns.{work}
use Rattle.verifier.proofs.Gifts.{turn_stays, turn_one, turn_two, gift_room, room_again}
use Rattle.verifier.proofs.worklist.go_on.Goals as goal

pub returns-in_default : goal.returns-in_default
returns-in_default c = record { work = turn_stays c.args.point.now c.args.depth (work c.args.sheet.now (items c.args.line.now)) c.in_default.ensures; same = refl }

pub successors-requires : goal.successors-requires
successors-requires c = (place_room c.args.point.now, place_short c.args.point.now)

pub give-requires-clause-room : goal.give-requires-clause-room
give-requires-clause-room c = gift_room c.args.point.now c.args.depth c.in-Some.result c.in-Some.ensures c.args.point.now.range.end c.args.point.now.ends (work c.args.sheet.now (items c.args.line.now)) c.in-One.next (capacity c.args.line.now) (subst (In c.in-One.next) c.in-One.ensures (Memᴰ.head refl)) c.requires.room

pub give-requires-in-Two-clause-room : goal.give-requires-in-Two-clause-room
give-requires-in-Two-clause-room c = gift_room c.args.point.now c.args.depth c.in-Some.result c.in-Some.ensures c.args.point.now.range.end c.args.point.now.ends (work c.args.sheet.now (items c.args.line.now)) c.in-Two.target (capacity c.args.line.now) (subst (In c.in-Two.target) c.in-Two.ensures (Memᴰ.head refl)) c.requires.room

pub give-requires-in-Two-2-clause-room : goal.give-requires-in-Two-2-clause-room
give-requires-in-Two-2-clause-room c =
    gift_room c.args.point.now c.args.depth c.in-Some.result c.in-Some.ensures c.args.point.now.range.end c.args.point.now.ends (work c.give-in-Two.new.sheet (items c.give-in-Two.new.line)) c.in-Two.next (capacity c.give-in-Two.new.line) (subst (In c.in-Two.next) c.in-Two.ensures (Memᴰ.tail (Memᴰ.head refl)))
    (room_again c.args.point.now c.args.depth c.in-Some.result c.in-Some.ensures c.args.point.now.range.end c.args.point.now.ends (work c.args.sheet.now (items c.args.line.now)) (work c.give-in-Two.new.sheet (items c.give-in-Two.new.line)) c.in-Two.target (capacity c.args.line.now) (capacity c.give-in-Two.new.line) (subst (In c.in-Two.target) c.in-Two.ensures (Memᴰ.head refl)) c.requires.long c.requires.room c.give-in-Two.ensures.same c.give-in-Two.ensures.work)

pub returns-in-One : goal.returns-in-One
returns-in-One c =
    record {
      work = turn_one c.args.point.now c.args.depth c.in-Some.result c.in-Some.ensures c.args.point.now.range.end c.args.point.now.ends (work c.args.sheet.now (items c.args.line.now)) _ c.in-One.next c.in-One.ensures c.give.ensures.work;
      same = c.give.ensures.same;
    }

pub returns-in-Two : goal.returns-in-Two
returns-in-Two c =
    record {
      work = turn_two c.args.point.now c.args.depth c.in-Some.result c.in-Some.ensures c.args.point.now.range.end c.args.point.now.ends (work c.args.sheet.now (items c.args.line.now)) (work c.give-in-Two.new.sheet (items c.give-in-Two.new.line)) _ c.in-Two.target c.in-Two.next c.in-Two.ensures c.give-in-Two.ensures.work c.give-in-Two-2.ensures.work;
      same = c.give-in-Two-2.ensures.same ∙ c.give-in-Two.ensures.same;
    }
