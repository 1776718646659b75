-- Units as bytes, and the memory of a recorder. Assumes nothing.
use Rattle.std.specs.Prelude.{ℕ, ◌+◌, ◌-◌, ◌*◌, ◌/◌, ◌%◌, min, cond, List, [], ◌∷◌, ◌++◌, length, drop, nat_lt}

-- units as bytes, two a unit, the high one first
abbrev pub bytes_of : List ℕ → List ℕ
bytes_of [] = []
bytes_of (unit ∷ units) = unit / 256 ∷ unit % 256 ∷ bytes_of units

-- bytes as units; an odd last byte is ignored
abbrev pub units_of : List ℕ → List ℕ
units_of [] = []
units_of (byte ∷ []) = []
units_of (high ∷ low ∷ bytes) = (high * 256 + low) ∷ units_of bytes

-- how many units fit into so many bytes behind the three bytes of the header
abbrev pub room_in : ℕ → ℕ
room_in bytes = min ((bytes - 3) / 2) 32767

-- memory on which units are recorded: the version, the count of the bytes that follow, the units, and what stood there before;
-- memory of fewer than three bytes stays as it is
abbrev pub recorded : List ℕ → List ℕ → List ℕ
recorded memory units =
    let size = 2 * length units in
    cond (nat_lt (length memory) 3) memory (1 ∷ size / 256 ∷ size % 256 ∷ (bytes_of units ++ drop (3 + size) memory))
