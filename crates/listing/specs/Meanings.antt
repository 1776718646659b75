-- What each rule says is wrong, in plain words.
use Rattle.std.specs.Prelude.{ℕ, List, codes}
use Rattle.refusals.specs.declared.Rule.{Rule}
use Rattle.refusals.specs.declared.Rule.TheVariants.{FileTooLong, HeaderCut, WrongMagic, WrongVersion, NoMethod, TablesCut, BadVariables, BadCode, BadDebugBlock, BadMessage, BadProgramName, MemoryShort, BadInstruction, BadIndex, BadTarget, MixedReturns, NoNumbering, BadNumber, BadPeak, LineFull, NoRoom}

unfoldable pub meaning : Rule → List ℕ
meaning FileTooLong = codes "the file is over 65535 bytes long"
meaning HeaderCut = codes "the file is shorter than its 13 header bytes"
meaning WrongMagic = codes "the file does not begin with 65 4A 56 4D"
meaning WrongVersion = codes "the version byte is not 10"
meaning NoMethod = codes "there is no method"
meaning TablesCut = codes "the file ends inside its tables"
meaning BadVariables = codes "a method has over 255 variables, or main has parameters"
meaning BadCode = codes "a method's code is empty or not where it is due, or its debug block passes the end"
meaning BadDebugBlock = codes "a method's debug block is not where it is due, or its name is odd, empty or passes the end"
meaning BadMessage = codes "a message is odd, over 254 bytes or passes the end"
meaning BadProgramName = codes "the program name is odd, empty, not right after the messages or not at the end"
meaning MemoryShort = codes "the sheet or the pending memory has fewer entries than the file has bytes"
meaning BadInstruction = codes "an opcode is unknown, or its instruction passes the method's end"
meaning BadIndex = codes "an index is outside the variables, constants, methods or messages, or an output mode is over 2"
meaning BadTarget = codes "a jump leads to no instruction of its method"
meaning MixedReturns = codes "a method has both kinds of return or neither"
meaning NoNumbering = codes "no numbering of a method keeps the rule"
meaning BadNumber = codes "a place breaks the sheet's rule"
meaning BadPeak = codes "a peak in the sheet is wrong"
meaning LineFull = codes "a unit is keyed on a full line"
meaning NoRoom = codes "a unit is put where there is no room"
