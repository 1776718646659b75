-- What an instruction says of the bytes that it was read from: its opcode, and its arguments after it. Assumes nothing.
use Rattle.std.specs.Prelude.{◌≡◌, ℕ, ◌+◌, List}
use Rattle.format.specs.Layout.{byte, be16}
use Rattle.bytecode.specs.declared.instruction.Instruction.{Instruction}
use Rattle.bytecode.specs.declared.instruction.Instruction.TheVariants.{Nop, Wide, Bipush, Ldc, Iload, Istore, Pop, Dup, Swap, Iadd, Isub, Iand, Ior, Iinc, Ifeq, Iflt, IfIcmpeq, Goto, Ireturn, Return, Invokevirtual, In, Out, Err, Setout, Halt}

abbrev pub opcode_of : Instruction → ℕ
opcode_of Nop = 0x00
opcode_of Wide = 0xC4
opcode_of (Bipush k) = 0x10
opcode_of (Ldc i) = 0x12
opcode_of (Iload i) = 0x15
opcode_of (Istore i) = 0x36
opcode_of Pop = 0x57
opcode_of Dup = 0x59
opcode_of Swap = 0x5F
opcode_of Iadd = 0x60
opcode_of Isub = 0x64
opcode_of Iand = 0x7E
opcode_of Ior = 0x80
opcode_of (Iinc i k) = 0x84
opcode_of (Ifeq k) = 0x99
opcode_of (Iflt k) = 0x9B
opcode_of (IfIcmpeq k) = 0x9F
opcode_of (Goto k) = 0xA7
opcode_of Ireturn = 0xAC
opcode_of Return = 0xB1
opcode_of (Invokevirtual i) = 0xB6
opcode_of In = 0xF0
opcode_of Out = 0xF1
opcode_of (Err i) = 0xF2
opcode_of (Setout i) = 0xFA
opcode_of Halt = 0xFF

-- the arguments of the instruction: an index, a number, and a number that follows an index
abbrev pub Arguments : ℕ → ℕ → ℕ → Instruction → Type 0
Arguments index number after Nop = Unit {0}
Arguments index number after Wide = Unit {0}
Arguments index number after (Bipush k) = number ≡ k
Arguments index number after (Ldc i) = index ≡ i
Arguments index number after (Iload i) = index ≡ i
Arguments index number after (Istore i) = index ≡ i
Arguments index number after Pop = Unit {0}
Arguments index number after Dup = Unit {0}
Arguments index number after Swap = Unit {0}
Arguments index number after Iadd = Unit {0}
Arguments index number after Isub = Unit {0}
Arguments index number after Iand = Unit {0}
Arguments index number after Ior = Unit {0}
Arguments index number after (Iinc i k) = (index ≡ i) × (after ≡ k)
Arguments index number after (Ifeq k) = number ≡ k
Arguments index number after (Iflt k) = number ≡ k
Arguments index number after (IfIcmpeq k) = number ≡ k
Arguments index number after (Goto k) = number ≡ k
Arguments index number after Ireturn = Unit {0}
Arguments index number after Return = Unit {0}
Arguments index number after (Invokevirtual i) = index ≡ i
Arguments index number after In = Unit {0}
Arguments index number after Out = Unit {0}
Arguments index number after (Err i) = index ≡ i
Arguments index number after (Setout i) = index ≡ i
Arguments index number after Halt = Unit {0}

-- the instruction stands at p
pub record Encodes (f : List ℕ) (p : ℕ) (i : Instruction) : Type 0 where
  pub opcode : opcode_of i ≡ byte f p
  pub arguments : Arguments (byte f (p + 1)) (be16 f (p + 1)) (be16 f (p + 2)) i
