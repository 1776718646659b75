-- The text of an instruction: its name, and each argument as a decimal number after a space.
use Rattle.std.specs.Prelude.{ℕ, List, [], ◌++◌, codes, decimal}
use Rattle.std.specs.Int.{w16}
use Rattle.std.proofs.Common.{to_z}
use Rattle.std.specs.Fmt.{signed_decimal}
use Rattle.bytecode.specs.declared.instruction.Instruction.{Instruction}
use Rattle.bytecode.specs.declared.instruction.Instruction.TheVariants.{Nop, Wide, Bipush, Ldc, Iload, Istore, Pop, Dup, Swap, Iadd, Isub, Iand, Ior, Iinc, Ifeq, Iflt, IfIcmpeq, Goto, Ireturn, Return, Invokevirtual, In, Out, Err, Setout, Halt}
use Rattle.mnemonics.specs.declared.Operands.{Operands}
use Rattle.mnemonics.specs.declared.Operands.TheVariants.{None, Index, Number, IndexAndNumber}

abbrev pub name_of : Instruction → List ℕ
name_of Nop = codes "NOP"
name_of Wide = codes "WIDE"
name_of (Bipush k) = codes "BIPUSH"
name_of (Ldc i) = codes "LDC"
name_of (Iload i) = codes "ILOAD"
name_of (Istore i) = codes "ISTORE"
name_of Pop = codes "POP"
name_of Dup = codes "DUP"
name_of Swap = codes "SWAP"
name_of Iadd = codes "IADD"
name_of Isub = codes "ISUB"
name_of Iand = codes "IAND"
name_of Ior = codes "IOR"
name_of (Iinc i k) = codes "IINC"
name_of (Ifeq k) = codes "IFEQ"
name_of (Iflt k) = codes "IFLT"
name_of (IfIcmpeq k) = codes "IF_ICMPEQ"
name_of (Goto k) = codes "GOTO"
name_of Ireturn = codes "IRETURN"
name_of Return = codes "RETURN"
name_of (Invokevirtual i) = codes "INVOKEVIRTUAL"
name_of In = codes "IN"
name_of Out = codes "OUT"
name_of (Err i) = codes "ERR"
name_of (Setout i) = codes "SETOUT"
name_of Halt = codes "HALT"

abbrev pub operands_of : Instruction → Operands
operands_of Nop = None
operands_of Wide = None
operands_of (Bipush k) = Number k
operands_of (Ldc i) = Index i
operands_of (Iload i) = Index i
operands_of (Istore i) = Index i
operands_of Pop = None
operands_of Dup = None
operands_of Swap = None
operands_of Iadd = None
operands_of Isub = None
operands_of Iand = None
operands_of Ior = None
operands_of (Iinc i k) = IndexAndNumber i k
operands_of (Ifeq k) = Number k
operands_of (Iflt k) = Number k
operands_of (IfIcmpeq k) = Number k
operands_of (Goto k) = Number k
operands_of Ireturn = None
operands_of Return = None
operands_of (Invokevirtual i) = Index i
operands_of In = None
operands_of Out = None
operands_of (Err i) = Index i
operands_of (Setout i) = Index i
operands_of Halt = None

-- sixteen bits, read as signed
abbrev pub signed_text : ℕ → List ℕ
signed_text k = signed_decimal (to_z w16 k)

-- what follows the name
abbrev pub operands_text : Operands → List ℕ
operands_text None = []
operands_text (Index i) = codes " " ++ decimal i
operands_text (Number k) = codes " " ++ signed_text k
operands_text (IndexAndNumber i k) = codes " " ++ (decimal i ++ (codes " " ++ signed_text k))

abbrev pub instruction_text : Instruction → List ℕ
instruction_text i = name_of i ++ operands_text (operands_of i)
