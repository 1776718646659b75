-- The rules of the code, and the refusal of a file whose code breaks one. Meant for a file whose layout is accepted.
use Rattle.std.specs.Prelude.{ℕ, ◌+◌, Bool, cond, not, ◌&&◌, ◌||◌, List, [], ◌∷◌, Option, ◌==◌, nat_le, nat_lt}
use Rattle.std.specs.Option.{option_map}
use Rattle.refusals.specs.declared.Rule.TheVariants.{BadInstruction, BadIndex, BadTarget, MixedReturns}
use Rattle.refusals.specs.declared.Refusal.{Refusal}
use Rattle.format.specs.Search.{first, upto, ◌else◌}
use Rattle.format.specs.Layout.{byte, methods, constants, messages, parameters, locals, code_address}
use Rattle.format.specs.Rules.{refused}
use Rattle.bytecode.specs.Places.{Point, points, code_end, whole, is, is_jump, is_place, jump_target, holds}

-- the opcode is unknown, or its instruction passes the method's end
abbrev pub bad_instruction : List ℕ → Point → Bool
bad_instruction f x = not (whole f (code_end f x.method) x.place)

-- an index is outside the variables, the constants, the methods or the messages, or an output mode is over 2
abbrev pub bad_index : List ℕ → Point → Bool
bad_index f x =
    let c = byte f x.place in
    let i = byte f (x.place + 1) in
    (is c (0x15 ∷ 0x36 ∷ 0x84 ∷ []) && nat_le (parameters f x.method + locals f x.method) i) ||
    (c == 0x12 && nat_le (constants f) i) ||
    (c == 0xB6 && nat_le (methods f) i) ||
    (c == 0xF2 && nat_le (messages f) i) ||
    (c == 0xFA && nat_lt 2 i)

-- a jump leads to no place of its method
abbrev pub bad_target : List ℕ → Point → Bool
bad_target f x = is_jump (byte f x.place) && not (is_place f x.method (jump_target f x.place))

-- a method has both kinds of return, or neither
abbrev pub mixed_returns : List ℕ → ℕ → Bool
mixed_returns f k = cond (holds f k 0xAC) (holds f k 0xB1) (not (holds f k 0xB1))

-- the first rule of the code that the file breaks, each sought through the whole file before the next, at its first offender
abbrev pub code_refusal : List ℕ → Option Refusal
code_refusal f =
    refused BadInstruction (option_map (λ (x : Point). x.place) (first (bad_instruction f) (points f))) else
    refused BadIndex (option_map (λ (x : Point). x.place) (first (bad_index f) (points f))) else
    refused BadTarget (option_map (λ (x : Point). x.place) (first (bad_target f) (points f))) else
    refused MixedReturns (option_map (code_address f) (first (mixed_returns f) (upto (methods f))))
