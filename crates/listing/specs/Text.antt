-- How names and messages are shown: UTF-16BE units, each as a printable ASCII character or as an escape. Assumes nothing.
use Rattle.std.specs.Prelude.{ℕ, ◌+◌, ◌*◌, Bool, cond, not, ◌&&◌, List, [], ◌∷◌, ◌++◌, ◌==◌, nat_le}
use Rattle.hexadecimal.specs.Hex.{unit_digits}

-- from the space to the tilde, but for the backslash, which begins an escape
abbrev pub printable : ℕ → Bool
printable u = nat_le 0x20 u && nat_le u 0x7E && not (u == 0x5C)

-- a backslash, a u and the four digits of the unit
abbrev pub escape : ℕ → List ℕ
escape u = 0x5C ∷ 0x75 ∷ unit_digits u

abbrev pub shown_unit : ℕ → List ℕ
shown_unit u = cond (printable u) (u ∷ []) (escape u)

-- two bytes a unit, high byte first; an odd last byte, which no name or message has, is left out
unfoldable pub shown_text : List ℕ → List ℕ
shown_text [] = []
shown_text (h ∷ []) = []
shown_text (h ∷ l ∷ bs) = shown_unit (h * 256 + l) ++ shown_text bs
