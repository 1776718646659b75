-- How the number of a pattern is written. Assumes nothing.
use Rattle.std.proofs.Common.{◌≡◌, ℕ, ◌<◌, arith, rules, pos}
use Rattle.std.specs.Fmt.{decimal, signed_decimal}
use Rattle.std.specs.Int.{cast_signed}
use Rattle.std.specs.Int.RustNames.{int_div}
use Rattle.std.proofs.lemmas.Int.{quot_fits, to_z-of_z}
use Rattle.std.proofs.lemmas.Fmt.{decimal_from_appends, length-decimal-le}
use Rattle.output.specs.Text.{digits, signed, level, number_text}
use mir.Syntax.{w16}

digits_decimal : (n : ℕ) → n < 65536 → digits 5 n ≡ decimal n
digits_decimal n h = decimal_from_appends digits (search rules) 5 n (omega arith) (length-decimal-le 5 n (omega arith) (omega arith) (omega arith))

pub number_decimal : (v : ℕ) → v < 65536 → number_text (signed v) ≡ signed_decimal (cast_signed w16 v)
number_decimal v h = grind (arith, digits_decimal)

pub level_decimal : (v : ℕ) → v < 65536 → number_text (level (signed v)) ≡ signed_decimal (int_div (cast_signed w16 v) (pos 10))
level_decimal v h = grind (arith, digits_decimal)

-- what the text of a mode needs
pub ruleset laws = (number_decimal, level_decimal, quot_fits, to_z-of_z)
