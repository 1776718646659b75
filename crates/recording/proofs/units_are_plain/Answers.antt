use Rattle.recording.proofs.Plain.{plain_units}
use Rattle.recording.proofs.units_are_plain.Goals as goal

pub returns : goal.returns
returns c = plain_units
