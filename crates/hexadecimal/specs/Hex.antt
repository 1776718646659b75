-- Numbers in capital hexadecimal digits, as text. Assumes nothing.
use Rattle.std.specs.Prelude.{ℕ, ◌+◌, ◌/◌, ◌%◌, cond, List, [], ◌∷◌, ◌++◌, nat_lt}

-- a digit
abbrev pub hex : ℕ → ℕ
hex d = cond (nat_lt d 10) (48 + d) (55 + d)

-- the two digits of a byte
abbrev pub byte_digits : ℕ → List ℕ
byte_digits b = hex (b / 16) ∷ hex (b % 16) ∷ []

-- the four digits of a unit of sixteen bits
abbrev pub unit_digits : ℕ → List ℕ
unit_digits u = byte_digits (u / 256) ++ byte_digits (u % 256)
