-- The lines of a method's code: each place with its number and its instruction.
use Rattle.std.specs.Prelude.{ℕ, cond, List, [], ◌++◌, drop, Some, None, codes, decimal, fold, Option}
use Rattle.bytecode.specs.declared.instruction.Instruction.{Instruction}
use Rattle.bytecode.specs.Opcodes.{decode}
use Rattle.bytecode.specs.Places.{places}
use Rattle.mnemonics.specs.Mnemonics.{instruction_text}
use Rattle.verifier.specs.Numbering.{number, numbered}

-- an entry of the sheet: a number, or that the place is not reached
abbrev pub number_text : ℕ → List ℕ
number_text d = cond (numbered d) (codes "number " ++ decimal d) (codes "blank")

-- an instruction; at every place of an accepted file there is one
abbrev pub decoded_text : Option Instruction → List ℕ
decoded_text (Some i) = instruction_text i
decoded_text None = []

-- the line of the place p of the file f, numbered in the sheet s
abbrev pub place_line : List ℕ → List ℕ → ℕ → List ℕ
place_line f s p = codes "place " ++ (decimal p ++ (codes " " ++ (number_text (number s p) ++ (codes " " ++ (decoded_text (decode (drop p f)) ++ codes "\n")))))

-- the lines of method k's places, in their order
abbrev pub place_lines : List ℕ → List ℕ → ℕ → List ℕ
place_lines f s k = fold (λ text p. text ++ place_line f s p) [] (places f k)
