-- The instructions, a row each: the opcode, how many bytes it has with its arguments, how many working values it takes and leaves,
-- and how its bytes are read. Assumes nothing.
use Rattle.std.specs.Prelude.{ℕ, ◌+◌, ◌-◌, cond, not, ◌&&◌, List, [], ◌∷◌, length, Some, None, Option, ◌==◌, nat_le, nat_lt}
use Rattle.format.specs.Layout.{byte, be16}
use Rattle.bytecode.specs.declared.instruction.Instruction.{Instruction}
use Rattle.bytecode.specs.declared.instruction.Instruction.TheVariants.{Nop, Wide, Bipush, Ldc, Iload, Istore, Pop, Dup, Swap, Iadd, Isub, Iand, Ior, Iinc, Ifeq, Iflt, IfIcmpeq, Goto, Ireturn, Return, Invokevirtual, In, Out, Err, Setout, Halt}

pub record Row : Type 0 where
  pub opcode : ℕ
  pub length : ℕ
  pub takes : ℕ
  pub leaves : ℕ
  pub read : List ℕ → Option Instruction

abbrev pub row : ℕ → ℕ → ℕ → ℕ → (List ℕ → Instruction) → Row
row c n t l g = record { opcode = c; length = n; takes = t; leaves = l; read = λ bs. Some (g bs) }

-- the arguments: an index is the byte after the opcode, a number or a distance the two bytes after it
abbrev pub index_in : List ℕ → ℕ
index_in bs = byte bs 1

abbrev pub number_in : List ℕ → ℕ
number_in bs = be16 bs 1

-- INVOKEVIRTUAL takes and leaves what the method called says, and 0 here
abbrev pub rows : List Row
rows =
    row 0x00 1 0 0 (λ _. Nop) ∷
    row 0xC4 1 0 0 (λ _. Wide) ∷
    row 0x10 3 0 1 (λ bs. Bipush (number_in bs)) ∷
    row 0x12 2 0 1 (λ bs. Ldc (index_in bs)) ∷
    row 0x15 2 0 1 (λ bs. Iload (index_in bs)) ∷
    row 0x36 2 1 0 (λ bs. Istore (index_in bs)) ∷
    row 0x57 1 1 0 (λ _. Pop) ∷
    row 0x59 1 1 2 (λ _. Dup) ∷
    row 0x5F 1 2 2 (λ _. Swap) ∷
    row 0x60 1 2 1 (λ _. Iadd) ∷
    row 0x64 1 2 1 (λ _. Isub) ∷
    row 0x7E 1 2 1 (λ _. Iand) ∷
    row 0x80 1 2 1 (λ _. Ior) ∷
    row 0x84 4 0 0 (λ bs. Iinc (index_in bs) (be16 bs 2)) ∷
    row 0x99 3 1 0 (λ bs. Ifeq (number_in bs)) ∷
    row 0x9B 3 1 0 (λ bs. Iflt (number_in bs)) ∷
    row 0x9F 3 2 0 (λ bs. IfIcmpeq (number_in bs)) ∷
    row 0xA7 3 0 0 (λ bs. Goto (number_in bs)) ∷
    row 0xAC 1 1 0 (λ _. Ireturn) ∷
    row 0xB1 1 0 0 (λ _. Return) ∷
    row 0xB6 2 0 0 (λ bs. Invokevirtual (index_in bs)) ∷
    row 0xF0 1 0 1 (λ _. In) ∷
    row 0xF1 1 1 0 (λ _. Out) ∷
    row 0xF2 2 0 0 (λ bs. Err (index_in bs)) ∷
    row 0xFA 2 0 0 (λ bs. Setout (index_in bs)) ∷
    row 0xFF 1 0 0 (λ _. Halt) ∷ []

-- the row of an opcode; one that is not listed has 0 throughout and is no instruction
abbrev pub find : ℕ → List Row → Row
find c [] = record { opcode = c; length = 0; takes = 0; leaves = 0; read = λ _. None }
find c (r ∷ rs) = cond (r.opcode == c) r (find c rs)

abbrev pub length_of : ℕ → ℕ
length_of c = (find c rows).length

abbrev pub takes_of : ℕ → ℕ
takes_of c = (find c rows).takes

abbrev pub leaves_of : ℕ → ℕ
leaves_of c = (find c rows).leaves

-- the instruction at the front of the bytes, where its opcode is listed and its bytes are there
abbrev pub decode : List ℕ → Option Instruction
decode bs = cond (not (length_of (byte bs 0) == 0) && nat_le (length_of (byte bs 0)) (length bs)) ((find (byte bs 0) rows).read bs) None

-- where a distance, a two-byte signed number, leads from a place; 0, which is no place, where it leads below the file
abbrev pub target : ℕ → ℕ → ℕ
target p o = cond (nat_lt o 32768) (p + o) ((p + o) - 65536)
