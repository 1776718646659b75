use Rattle.std.proofs.Common.{◌≡◌, map, take}
use Rattle.host.specs.Label.{label_waiting, label_written, label_space, label_capacity}
use Rattle.runner.proofs.Keying.{pair_unit}
use Rattle.runner.proofs.keys.key_all.Given as goal

abbrev pub invariant-loop-pair : goal.invariant-loop-pair
invariant-loop-pair l =
    (label_waiting l.label ≡ map pair_unit (take l.pair-index l.pair-items)) ×
    (label_capacity l.label ≡ 256) × (label_written l.label ≡ label_written l.initial.label) ×
    (label_space l.label ≡ label_space l.initial.label)
