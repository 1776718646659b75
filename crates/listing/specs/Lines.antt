-- The listing of a file, as text: each line ends with a line feed.
use Rattle.std.specs.Prelude.{ℕ, zero, suc, ◌+◌, List, [], ◌++◌, length, Some, None, codes, decimal}
use Rattle.std.specs.Int.{w16}
use Rattle.std.proofs.Common.{to_z}
use Rattle.std.specs.Fmt.{signed_decimal}
use Rattle.refusals.specs.declared.Refusal.{Refusal}
use Rattle.refusals.specs.Refusals.{refused_text}
use Rattle.format.specs.Layout.{be16, methods, constants, messages, entry, parameters, locals, code_address, code_size, debug_address, name_size, constant_address, message_due, message_size, program_address, program_size}
use Rattle.format.specs.Parts.{piece}
use Rattle.verifier.specs.Numbering.{number, numbering, with_peaks, check_refusal}
use Rattle.listing.specs.Code.{place_lines}
use Rattle.listing.specs.Text.{shown_text}
use Rattle.listing.specs.Meanings.{meaning}

-- the bytes of f at the place, so many, as text
abbrev pub text_at : List ℕ → ℕ → ℕ → List ℕ
text_at f place size = shown_text (piece f place size).bytes

abbrev pub program_line : List ℕ → List ℕ
program_line f = codes "program " ++ (text_at f (program_address f) (program_size f) ++ codes "\n")

-- a method's line: its name, its variables, where its code stands and how long it is, and its peak
abbrev pub name_text : List ℕ → ℕ → List ℕ
name_text f k = text_at f (debug_address f k + 3) (name_size f k)

abbrev pub variables_text : List ℕ → ℕ → List ℕ
variables_text f k = codes "parameters " ++ (decimal (parameters f k) ++ (codes " locals " ++ decimal (locals f k)))

abbrev pub code_text : List ℕ → ℕ → List ℕ
code_text f k = codes "code " ++ (decimal (code_address f k) ++ (codes " size " ++ decimal (code_size f k)))

abbrev pub method_line : List ℕ → ℕ → ℕ → List ℕ
method_line f k peak = codes "method " ++ (decimal k ++ (codes " " ++ (name_text f k ++ (codes " " ++ (variables_text f k ++ (codes " " ++ (code_text f k ++ (codes " peak " ++ (decimal peak ++ codes "\n")))))))))

-- a method's line, with its peak from its entry in the sheet s, and the lines of its places
abbrev pub method_lines : List ℕ → List ℕ → ℕ → List ℕ
method_lines f s k = method_line f k (number s (entry k)) ++ place_lines f s k

-- a constant is a signed number of sixteen bits
abbrev pub constant_line : List ℕ → ℕ → List ℕ
constant_line f i = codes "constant " ++ (decimal i ++ (codes " " ++ (signed_decimal (to_z w16 (be16 f (constant_address f i))) ++ codes "\n")))

abbrev pub message_line : List ℕ → ℕ → List ℕ
message_line f i = codes "message " ++ (decimal i ++ (codes " " ++ (text_at f (message_due f i + 2) (message_size f i) ++ codes "\n")))

-- the lines of the indices below n, in order
unfoldable pub lines : (ℕ → List ℕ) → ℕ → List ℕ
lines line zero = []
lines line (suc n) = lines line n ++ line n

-- the parts of an accepted file, with the numbers and peaks of the sheet s
abbrev pub parts_text : List ℕ → List ℕ → List ℕ
parts_text f s = program_line f ++ (lines (method_lines f s) (methods f) ++ (lines (constant_line f) (constants f) ++ lines (message_line f) (messages f)))

-- the two lines of a refusal: how it is told, and what it means
abbrev pub refusal_text : Refusal → List ℕ
refusal_text x = refused_text x ++ (codes "\n" ++ (meaning x.rule ++ codes "\n"))

-- what check says of the file, with memory enough: the sheet that it leaves, or its refusal
abbrev pub listing : List ℕ → List ℕ
listing f = elim (check_refusal f (length f) (length f)) [ Some x ↦ refusal_text x | None ↦ parts_text f (with_peaks f (numbering f)) ]
