-- The parts of a program file, each with its place. They are defined for every list of bytes: a part that passes the end is not there.
use Rattle.std.specs.Prelude.{◌≡◌, ℕ, ◌+◌, cond, List, length, take, drop, Some, None, Option, nat_le, nat_lt}
use Rattle.format.specs.declared.part.Part.{Part}
use Rattle.format.specs.declared.reader.Variables.{Variables}
use Rattle.format.specs.Layout.{methods, constants, messages, parameters, locals, name_size, code_size, debug_address, code_address, constant_address, message_due, message_size, program_size, program_address}
use Rattle.format.specs.Rules.{layout_refusal}

-- the file breaks no rule of the layout
abbrev pub Accepted : List ℕ → Type 0
Accepted f = layout_refusal f ≡ None

-- a part by value: its place, and the bytes there
pub record Piece : Type 0 where
  pub place : ℕ
  pub bytes : List ℕ

-- what a part of the code holds
abbrev pub seen : Part → Piece
seen p = record { place = p.place; bytes = p.bytes.now }

-- the bytes of f at the place, so many
abbrev pub piece : List ℕ → ℕ → ℕ → Piece
piece f place size = record { place = place; bytes = take size (drop place f) }

-- the same, where they do not pass the end
abbrev pub within : List ℕ → ℕ → ℕ → Option Piece
within f place size = cond (nat_le (place + size) (length f)) (Some (piece f place size)) None

-- the answer of an index that is inside its table
abbrev pub among : {A : Type 0} → ℕ → ℕ → Option A → Option A
among i count o = cond (nat_lt i count) o None

abbrev pub program_name : List ℕ → Option Piece
program_name f = within f (program_address f) (program_size f)

-- a method's name, without the head of its debug block
abbrev pub method_name : List ℕ → ℕ → Option Piece
method_name f i = among i (methods f) (within f (debug_address f i + 3) (name_size f i))

abbrev pub method_code : List ℕ → ℕ → Option Piece
method_code f i = among i (methods f) (within f (code_address f i) (code_size f i))

abbrev pub method_variables : List ℕ → ℕ → Option Variables
method_variables f i = among i (methods f) (Some (record { parameters = parameters f i; locals = locals f i }))

abbrev pub constant : List ℕ → ℕ → Option Piece
constant f i = among i (constants f) (within f (constant_address f i) 2)

-- a message, without its two size bytes
abbrev pub message : List ℕ → ℕ → Option Piece
message f i = among i (messages f) (within f (message_due f i + 2) (message_size f i))
