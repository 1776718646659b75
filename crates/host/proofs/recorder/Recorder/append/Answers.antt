use Rattle.std.proofs.Common.{◌≡◌, refl}
use Rattle.host.proofs.Records.{with_unit, written_more, space_less, records_more}
use Rattle.host.proofs.recorder.Recorder.append.Goals as goal

pub returns : goal.returns
returns c =
    let before = c.args.self.now in
    let after = c.write_be16-2.new.memory in
    let memory : after ≡ with_unit before.memory.now before.count c.args.unit = cc in
    record {
      kept = record { lent = refl; records = records_more before _ c.args.unit c.requires memory refl };
      waiting = refl;
      written = written_more before.memory.now after before.count c.args.unit c.requires memory;
      space = space_less before.memory.now after before.count c.args.unit c.requires memory;
    }
