-- The numbers of the output modes. Assumes nothing.
use Rattle.std.specs.Prelude.{ℕ}
use Rattle.output.specs.declared.mode.Mode.{Mode}
use Rattle.output.specs.declared.mode.Mode.TheVariants.{Pattern, Decimal, Tenth}

abbrev pub mode_number : Mode → ℕ
mode_number Pattern = 0
mode_number Decimal = 1
mode_number Tenth = 2
