-- What OUT writes of a value, a sixteen-bit pattern, in each output mode. Assumes nothing.
use Rattle.std.specs.Prelude.{ℕ, zero, suc, ◌+◌, ◌-◌, ◌/◌, ◌%◌, Bool, cond, not, ◌&&◌, List, [], ◌∷◌, ◌++◌, ◌==◌, nat_le, nat_lt}

abbrev pub negative : ℕ → Bool
negative v = nat_le 32768 v

-- a signed number
pub record Signed : Type 0 where
  pub is_negative : Bool
  pub magnitude : ℕ

-- below 0 or not, and how far; 0 is not below 0
abbrev pub with_sign : Bool → ℕ → Signed
with_sign b n = record { is_negative = b && not (n == 0); magnitude = n }

-- the number that a pattern means, by two's complement
abbrev pub signed : ℕ → Signed
signed v = with_sign (negative v) (cond (negative v) (65536 - v) v)

-- the level that a number means: a tenth of it, cut toward zero
abbrev pub level : Signed → Signed
level n = with_sign n.is_negative (n.magnitude / 10)

-- the decimal digits of n in ASCII without leading zeros, at most k of them
abbrev pub digits : ℕ → ℕ → List ℕ
digits zero n = []
digits (suc k) n = cond (nat_lt n 10) ((48 + n) ∷ []) (digits k (n / 10) ++ ((48 + n % 10) ∷ []))

-- how a number is written: a minus where it is below 0, and its digits
abbrev pub number_text : Signed → List ℕ
number_text n = cond n.is_negative (45 ∷ digits 5 n.magnitude) (digits 5 n.magnitude)

-- mode 0 writes the pattern as one unit, mode 1 the number, mode 2 the level
abbrev pub text : ℕ → ℕ → List ℕ
text m v = cond (m == 0) (v ∷ []) (cond (m == 1) (number_text (signed v)) (number_text (level (signed v))))
