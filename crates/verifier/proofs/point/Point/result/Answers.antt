use Rattle.verifier.proofs.Steps.{place_room, call_inside}
use Rattle.verifier.proofs.point.Point.result.Goals as goal

pub takes_at-requires : goal.takes_at-requires
takes_at-requires c = place_room c.args.self.now

pub leaves_at-requires-clause-room : goal.leaves_at-requires-clause-room
leaves_at-requires-clause-room c = place_room c.args.self.now

pub leaves_at-requires-clause-called : goal.leaves_at-requires-clause-called
leaves_at-requires-clause-called c = call_inside c.args.self.now
