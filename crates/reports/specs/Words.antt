-- What the programs print of a run, or of a file that is refused. Assumes nothing.
use Rattle.std.specs.Prelude.{ℕ, List, [], ◌++◌, codes, decimal, fold}
use Rattle.refusals.specs.declared.Refusal.{Refusal}
use Rattle.refusals.specs.Refusals.{refused_text}
use Rattle.hexadecimal.specs.Hex.{byte_digits, unit_digits}
use Rattle.machine.specs.declared.stop.Stop.{Stop}
use Rattle.machine.specs.Words.{stop_words}

-- items in their order, each by its digits after a space
abbrev pub words : {A : Type 0} → (A → List ℕ) → List A → List ℕ
words digits xs = fold (λ text x. text ++ (codes " " ++ digits x)) [] xs

abbrev pub unit_words : List ℕ → List ℕ
unit_words us = words unit_digits us

abbrev pub byte_words : List ℕ → List ℕ
byte_words bs = words byte_digits bs

-- a line, a word and what it tells, before what follows it
abbrev pub line : List ℕ → List ℕ → List ℕ → List ℕ
line word told rest = word ++ (told ++ (codes "\n" ++ rest))

-- why a go stopped, and how many instructions it did
abbrev pub go_lines : Stop → ℕ → List ℕ → List ℕ
go_lines stop n rest = line (codes "stop ") (stop_words stop) (line (codes "count ") (decimal n) rest)

-- the reports; each begins with the version of its form, 1
abbrev pub run_text : Stop → ℕ → List ℕ → List ℕ
run_text stop n us = codes "ejvm 1\n" ++ go_lines stop n (line (codes "units") (unit_words us) [])

abbrev pub record_text : Stop → ℕ → List ℕ → List ℕ
record_text stop n bs = codes "ejvm 1\n" ++ go_lines stop n (line (codes "memory") (byte_words bs) [])

abbrev pub refusal_text : Refusal → List ℕ
refusal_text x = codes "ejvm 1\n" ++ (refused_text x ++ codes "\n")
