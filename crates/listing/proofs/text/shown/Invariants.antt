use Rattle.std.proofs.Common.{◌≡◌, take, string_bytes}
use Rattle.std.specs.List.{flat_map}
use Rattle.listing.proofs.Texts.{shown_pair}
use Rattle.listing.proofs.text.shown.Given as goal

abbrev pub invariant-loop-unit : goal.invariant-loop-unit
invariant-loop-unit l = string_bytes l.text ≡ flat_map shown_pair (take l.unit-index l.units)
