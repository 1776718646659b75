-- The rules of a program file's layout, and the refusal of a file that breaks one.
use Rattle.std.specs.Prelude.{ℕ, ◌+◌, ◌%◌, Bool, not, ◌&&◌, ◌||◌, List, length, Option, ◌==◌, nat_lt}
use Rattle.std.specs.Option.{option_map}
use Rattle.refusals.specs.declared.Rule.{Rule}
use Rattle.refusals.specs.declared.Rule.TheVariants.{FileTooLong, HeaderCut, WrongMagic, WrongVersion, NoMethod, TablesCut, BadVariables, BadCode, BadDebugBlock, BadMessage, BadProgramName}
use Rattle.refusals.specs.declared.Refusal.{Refusal}
use Rattle.format.specs.Search.{first, upto, ◌else◌, when}
use Rattle.format.specs.Layout.{byte, methods, messages, entry, tables_end, code_address, parameters, locals, debug_address, name_size, code_size, code_due, debug_due, message_due, message_size, program_size, program_address}

abbrev pub odd : ℕ → Bool
odd n = n % 2 == 1

-- no name has n bytes: a name's size is even, and at least 2
abbrev pub no_name : ℕ → Bool
no_name n = n == 0 || odd n

-- the file does not begin with the four bytes
abbrev pub wrong_magic : List ℕ → Bool
wrong_magic f = not (byte f 0 == 0x65 && byte f 1 == 0x4A && byte f 2 == 0x56 && byte f 3 == 0x4D)

-- method k has too many variables, or is main and has parameters
abbrev pub bad_variables : List ℕ → ℕ → Bool
bad_variables f k = nat_lt 255 (parameters f k + locals f k) || k == 0 && not (parameters f k == 0)

-- the head of method k's debug block passes the end, or the code has no bytes or is not where it is due
abbrev pub bad_code : List ℕ → ℕ → Bool
bad_code f k = nat_lt (length f) (debug_address f k + 3) || code_size f k == 0 || not (code_address f k == code_due f k)

-- the debug block of method k is not where it is due, or its name is no name or passes the end
abbrev pub bad_debug_block : List ℕ → ℕ → Bool
bad_debug_block f k = not (debug_address f k == debug_due f k) || no_name (name_size f k) || nat_lt (length f) (debug_address f k + 3 + name_size f k)

-- message k is odd, too long, or passes the end
abbrev pub bad_message : List ℕ → ℕ → Bool
bad_message f k = odd (message_size f k) || nat_lt 254 (message_size f k) || nat_lt (length f) (message_due f k + 2 + message_size f k)

-- the program name is no name, does not follow the messages, or does not end the file
abbrev pub bad_program_name : List ℕ → Bool
bad_program_name f = no_name (program_size f) || not (program_address f == message_due f (messages f)) || not (program_address f + program_size f == length f)

-- the refusal by a rule, where an offender's place was found
abbrev pub refused : Rule → Option ℕ → Option Refusal
refused r o = option_map (λ p. record { rule = r; place = p }) o

-- the first rule that the file breaks, each sought through the whole file before the next, at its first offender
abbrev pub layout_refusal : List ℕ → Option Refusal
layout_refusal f =
    refused FileTooLong (when (nat_lt 65535 (length f)) 0) else
    refused HeaderCut (when (nat_lt (length f) 13) (length f)) else
    refused WrongMagic (when (wrong_magic f) 0) else
    refused WrongVersion (when (not (byte f 4 == 0x10)) 4) else
    refused NoMethod (when (methods f == 0) 10) else
    refused TablesCut (when (nat_lt (length f) (tables_end f)) (length f)) else
    refused BadVariables (option_map entry (first (bad_variables f) (upto (methods f)))) else
    refused BadCode (option_map entry (first (bad_code f) (upto (methods f)))) else
    refused BadDebugBlock (option_map entry (first (bad_debug_block f) (upto (methods f)))) else
    refused BadMessage (option_map (message_due f) (first (bad_message f) (upto (messages f)))) else
    refused BadProgramName (when (bad_program_name f) 5)
