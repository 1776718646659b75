-- Searches of a list by a test, and the first of several answers. Assumes nothing.
use Rattle.std.specs.Prelude.{ℕ, Bool, true, false, List, Some, None, Option}
use Rattle.std.specs.List.{find, list_any, list_all, range_with_len}

-- n numbers, from i on
abbrev pub from : ℕ → ℕ → List ℕ
from i n = range_with_len i n

-- the numbers below n
abbrev pub upto : ℕ → List ℕ
upto n = from 0 n

-- the first of the list that passes the test
abbrev pub first : {A : Type 0} → (A → Bool) → List A → Option A
first t xs = find t xs

-- some of the list passes the test; all of it does
abbrev pub any : {A : Type 0} → (A → Bool) → List A → Bool
any t xs = list_any t xs

abbrev pub all : {A : Type 0} → (A → Bool) → List A → Bool
all t xs = list_all t xs

-- the first answer, else the second
infixr 20 ◌else◌
abbrev pub ◌else◌ : {A : Type 0} → Option A → Option A → Option A
Some x else y = Some x
None else y = y

-- the answer, where the test holds
abbrev pub when : {A : Type 0} → Bool → A → Option A
when true x = Some x
when false x = None
