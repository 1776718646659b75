-- Where the parts of a program file lie. A file f is a list of bytes; numbers are big-endian, and a byte past the end reads as 0.
use Rattle.std.specs.Prelude.{◌≡◌, ℕ, zero, suc, ◌+◌, ◌*◌, List, slice_index, refl}
use Rattle.std.proofs.Common.{add-one}

-- the number in one, two or four bytes at i
abbrev pub byte : List ℕ → ℕ → ℕ
byte f i = slice_index f i

abbrev pub be16 : List ℕ → ℕ → ℕ
be16 f i = byte f i * 256 + byte f (i + 1)

abbrev pub be32 : List ℕ → ℕ → ℕ
be32 f i = byte f i * 16777216 + byte f (i + 1) * 65536 + byte f (i + 2) * 256 + byte f (i + 3)

-- the size and the address of the program name
abbrev pub program_size : List ℕ → ℕ
program_size f = byte f 5

abbrev pub program_address : List ℕ → ℕ
program_address f = be32 f 6

-- how many methods, constants and messages there are
abbrev pub methods : List ℕ → ℕ
methods f = byte f 10

abbrev pub constants : List ℕ → ℕ
constants f = byte f 11

abbrev pub messages : List ℕ → ℕ
messages f = byte f 12

-- where the table entry of method k begins, and what it holds
abbrev pub entry : ℕ → ℕ
entry k = 13 + 10 * k

abbrev pub code_address : List ℕ → ℕ → ℕ
code_address f k = be32 f (entry k)

abbrev pub parameters : List ℕ → ℕ → ℕ
parameters f k = byte f (entry k + 4)

abbrev pub locals : List ℕ → ℕ → ℕ
locals f k = byte f (entry k + 5)

abbrev pub debug_address : List ℕ → ℕ → ℕ
debug_address f k = be32 f (entry k + 6)

-- where constant i stands
abbrev pub constant_address : List ℕ → ℕ → ℕ
constant_address f i = 13 + 10 * methods f + 2 * i

-- where the tables end
abbrev pub tables_end : List ℕ → ℕ
tables_end f = 13 + 10 * methods f + 2 * constants f

-- what the debug block of method k says
abbrev pub name_size : List ℕ → ℕ → ℕ
name_size f k = byte f (debug_address f k)

abbrev pub code_size : List ℕ → ℕ → ℕ
code_size f k = be16 f (debug_address f k + 1)

-- where the code of method k is due: the first at the tables' end, each at the end of the one before
unfoldable pub code_due : List ℕ → ℕ → ℕ
code_due f zero = tables_end f
code_due f (suc k) = code_due f k + code_size f k

-- where the debug block of method k is due: the first at the end of all code, each at the end of the one before
unfoldable pub debug_due : List ℕ → ℕ → ℕ
debug_due f zero = code_due f (methods f)
debug_due f (suc k) = debug_due f k + 3 + name_size f k

-- where message k is due: the first at the end of the debug blocks, each at the end of the one before
unfoldable pub message_due : List ℕ → ℕ → ℕ
message_due f zero = debug_due f (methods f)
message_due f (suc k) = message_due f k + 2 + be16 f (message_due f k)

abbrev pub message_size : List ℕ → ℕ → ℕ
message_size f k = be16 f (message_due f k)

-- the laws of the three
pub code_none : (f : List ℕ) → code_due f 0 ≡ tables_end f
unfolding code_due
code_none f = refl

pub code_more : (f : List ℕ) (k : ℕ) → code_due f (k + 1) ≡ code_due f k + code_size f k
unfolding code_due
code_more f k = rw (add-one k)

pub debug_none : (f : List ℕ) → debug_due f 0 ≡ code_due f (methods f)
unfolding debug_due
debug_none f = refl

pub debug_more : (f : List ℕ) (k : ℕ) → debug_due f (k + 1) ≡ debug_due f k + 3 + name_size f k
unfolding debug_due
debug_more f k = rw (add-one k)

pub message_none : (f : List ℕ) → message_due f 0 ≡ debug_due f (methods f)
unfolding message_due
message_none f = refl

pub message_more : (f : List ℕ) (k : ℕ) → message_due f (k + 1) ≡ message_due f k + 2 + message_size f k
unfolding message_due
message_more f k = rw (add-one k)
