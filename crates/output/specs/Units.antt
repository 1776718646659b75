-- The units of a text. Assumes nothing.
use Rattle.std.specs.Prelude.{ℕ, List, take}
use Rattle.output.specs.declared.Text.{Text}

-- as many units as the text counts
abbrev pub units_of : Text → List ℕ
units_of t = take t.count t.units
