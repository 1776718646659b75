-- What a label holds. Assumes nothing.
use Rattle.std.specs.Prelude.{◌≡◌, ℕ, ◌-◌, ◌≤◌, List, length, refl}
use Rattle.std.proofs.Common.{arith, ◌∙◌}
use Rattle.ring.specs.Ring.{items, capacity}
use Rattle.host.specs.declared.label.Label.{Label}

abbrev pub label_waiting : Label → List ℕ
label_waiting l = items l.line

abbrev pub label_written : Label → List ℕ
label_written l = l.shown.items

abbrev pub label_space : Label → ℕ
label_space l = 96 - length l.shown.items

-- how many units can wait
abbrev pub label_capacity : Label → ℕ
label_capacity l = capacity l.line

-- a label keeps the capacity of its line
abbrev pub LabelKept : Label → Label → Type 0
LabelKept before after = label_capacity after ≡ label_capacity before

pub label_bounded : (l : Label) → label_space l ≤ 65535
label_bounded l = omega arith

pub label_kept_refl : (l : Label) → LabelKept l l
label_kept_refl l = refl

pub label_kept_trans : (a b c : Label) → LabelKept a b → LabelKept b c → LabelKept a c
label_kept_trans a b c p q = q ∙ p
