-- The number and the layer of each rule, and what is told of a refusal. Assumes nothing.
use Rattle.std.specs.Prelude.{cond, ℕ, List, ◌++◌, codes, decimal, leb}
use Rattle.refusals.specs.declared.Rule.{Rule}
use Rattle.refusals.specs.declared.Rule.TheVariants.{FileTooLong, HeaderCut, WrongMagic, WrongVersion, NoMethod, TablesCut, BadVariables, BadCode, BadDebugBlock, BadMessage, BadProgramName, MemoryShort, BadInstruction, BadIndex, BadTarget, MixedReturns, NoNumbering, BadNumber, BadPeak, LineFull, NoRoom}
use Rattle.refusals.specs.declared.Refusal.{Refusal}
use Rattle.refusals.specs.declared.Layer.{Layer}
use Rattle.refusals.specs.declared.Layer.TheVariants.{File, Code, Host}

abbrev pub number_of : Rule → ℕ
number_of FileTooLong = 1
number_of HeaderCut = 2
number_of WrongMagic = 3
number_of WrongVersion = 4
number_of NoMethod = 5
number_of TablesCut = 6
number_of BadVariables = 7
number_of BadCode = 8
number_of BadDebugBlock = 9
number_of BadMessage = 10
number_of BadProgramName = 11
number_of MemoryShort = 12
number_of BadInstruction = 13
number_of BadIndex = 14
number_of BadTarget = 15
number_of MixedReturns = 16
number_of NoNumbering = 17
number_of BadNumber = 18
number_of BadPeak = 19
number_of LineFull = 20
number_of NoRoom = 21

-- the rules of the file are 1 to 11, those of the code 12 to 19, those of the host 20 and 21
abbrev pub layer_of : Rule → Layer
layer_of r = cond (leb (number_of r) 11) File (cond (leb (number_of r) 19) Code Host)

-- a refusal is told by its rule's number and its place
abbrev pub refused_text : Refusal → List ℕ
refused_text x = codes "refused " ++ (decimal (number_of x.rule) ++ (codes " " ++ decimal x.place))
