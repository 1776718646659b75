use Rattle.verifier.specs.Bytes.{bytes}
use Rattle.verifier.proofs.Places.{in_is_place}
use Rattle.verifier.proofs.code.Code.point.Goals as goal

pub invariant_of-result : goal.invariant_of-result
invariant_of-result c =
    record {
      listed = c.requires.place.0;
      starts = c.requires.starts;
      ends = c.requires.ends;
      inside = c.requires.inside;
      decoded = in_is_place (bytes c.args.self.now) c.args.method c.args.place c.requires.place.1;
    }
