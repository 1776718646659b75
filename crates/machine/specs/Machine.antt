-- The plain machine: one instruction, and many, fed a list of units. Assumes nothing.
use Rattle.std.specs.Prelude.{ℕ, zero, suc, ◌+◌, ◌-◌, ◌%◌, Bool, true, false, cond, not, ◌&&◌, ◌||◌, List, [], ◌∷◌, ◌++◌, reverse, length, take, drop, replicate, is_some, Some, None, Option, ◌==◌, bit_and, bit_or, nat_le, nat_lt, slice_index, slice_set}
use Rattle.std.specs.Option.{unwrap_or}
use Rattle.format.specs.Layout.{byte, be16, methods, constants, messages, entry, parameters, locals, code_address, constant_address}
use Rattle.bytecode.specs.declared.instruction.Instruction.{Instruction}
use Rattle.bytecode.specs.declared.instruction.Instruction.TheVariants.{Nop, Wide, Bipush, Ldc, Iload, Istore, Pop, Dup, Swap, Iadd, Isub, Iand, Ior, Iinc, Ifeq, Iflt, IfIcmpeq, Goto, Ireturn, Return, Invokevirtual, In, Out, Err, Setout, Halt}
use Rattle.bytecode.specs.Opcodes.{decode, target}
use Rattle.bytecode.specs.Places.{is_place, next}
use Rattle.verifier.specs.Numbering.{number}
use Rattle.machine.specs.declared.stop.End.{End}
use Rattle.machine.specs.declared.stop.End.TheVariants as ending
use Rattle.output.specs.Text.{negative, text}

-- the operand stack stands with its top first
pub record Frame : Type 0 where
  pub method : ℕ
  pub return_place : ℕ
  pub variables : List ℕ
  pub operands : List ℕ

-- the running frame, the frames that wait, the nearest first, the place, the output mode, and the end, if any
pub record State : Type 0 where
  pub running : Frame
  pub waiting : List Frame
  pub place : ℕ
  pub mode : ℕ
  pub ended : Option End

-- the machine with the units that it is still to be fed and those that it wrote
pub record Fed : Type 0 where
  pub state : State
  pub feed : List ℕ
  pub wrote : List ℕ

abbrev pub fed : State → List ℕ → List ℕ → Fed
fed s us vs = record { state = s; feed = us; wrote = vs }

-- a sum in sixteen bits
abbrev pub wrap : ℕ → ℕ
wrap n = n % 65536

-- a frame with other operands, and with another value of variable i too
abbrev pub with_operands : Frame → List ℕ → Frame
with_operands r w = record { method = r.method; return_place = r.return_place; variables = r.variables; operands = w }

abbrev pub with_variable : Frame → ℕ → ℕ → List ℕ → Frame
with_variable r i v w = record { method = r.method; return_place = r.return_place; variables = slice_set r.variables i v; operands = w }

-- a state with another running frame at another place, and one that ended
abbrev pub continue_at : State → Frame → ℕ → State
continue_at s r p = record { running = r; waiting = s.waiting; place = p; mode = s.mode; ended = s.ended }

abbrev pub with_end : State → End → State
with_end s e = record { running = s.running; waiting = s.waiting; place = s.place; mode = s.mode; ended = Some e }

module _ (f : List ℕ) (x : Fed) where
  abbrev s : State
  s = x.state

  abbrev r : Frame
  r = x.state.running

  -- on to the next instruction: with these operands, with a variable set too, with units written too
  abbrev pub proceed : List ℕ → Option Fed
  proceed w = Some (fed (continue_at s (with_operands r w) (next f s.place)) x.feed x.wrote)

  abbrev pub store : ℕ → ℕ → List ℕ → Option Fed
  store i v w = Some (fed (continue_at s (with_variable r i v w) (next f s.place)) x.feed x.wrote)

  abbrev pub put : List ℕ → List ℕ → Option Fed
  put out w = Some (fed (continue_at s (with_operands r w) (next f s.place)) x.feed (x.wrote ++ out))

  -- by a distance if the test holds, else to the next instruction
  abbrev pub branch : Bool → ℕ → List ℕ → Option Fed
  branch b o w = Some (fed (continue_at s (with_operands r w) (cond b (target s.place o) (next f s.place))) x.feed x.wrote)

  abbrev pub end : End → Option Fed
  end e = Some (fed (with_end s e) x.feed x.wrote)

  -- the frame is dropped, and the nearest of those that wait goes on with these values more; where none waits, the run ends
  abbrev pub return_to : End → List ℕ → List Frame → Option Fed
  return_to e vs [] = end e
  return_to e vs (c ∷ cs) =
      Some (fed (record { running = with_operands c (vs ++ c.operands); waiting = cs; place = r.return_place; mode = s.mode; ended = s.ended }) x.feed x.wrote)

  -- a frame of method i, with its parameters in the order of pushing and its locals 0
  abbrev pub call : ℕ → List ℕ → Option Fed
  call i w =
      Some (fed (record {
        running = record { method = i; return_place = next f s.place; variables = reverse (take (parameters f i) w) ++ replicate (locals f i) 0; operands = [] };
        waiting = with_operands r (drop (parameters f i) w) ∷ s.waiting;
        place = code_address f i;
        mode = s.mode;
        ended = s.ended;
      }) x.feed x.wrote)

  -- the first of the units is taken
  abbrev pub take_unit : List ℕ → List ℕ → Option Fed
  take_unit w [] = None
  take_unit w (u ∷ us) = Some (fed (continue_at s (with_operands r (u ∷ w)) (next f s.place)) us x.wrote)

  abbrev pub set_mode : ℕ → Option Fed
  set_mode m = Some (fed (record { running = r; waiting = s.waiting; place = next f s.place; mode = m; ended = s.ended }) x.feed x.wrote)

  -- one instruction on these operands; none says that they are too few or that an index lies outside its table
  abbrev pub execute : Instruction → List ℕ → Option Fed
  execute Nop w = proceed w
  execute Wide w = proceed w
  execute (Bipush k) w = proceed (k ∷ w)
  execute (Ldc i) w = cond (nat_lt i (constants f)) (proceed (be16 f (constant_address f i) ∷ w)) None
  execute (Iload i) w = cond (nat_lt i (length r.variables)) (proceed (slice_index r.variables i ∷ w)) None
  execute (Istore i) [] = None
  execute (Istore i) (v ∷ w) = cond (nat_lt i (length r.variables)) (store i v w) None
  execute Pop [] = None
  execute Pop (v ∷ w) = proceed w
  execute Dup [] = None
  execute Dup (v ∷ w) = proceed (v ∷ v ∷ w)
  execute Swap [] = None
  execute Swap (v ∷ []) = None
  execute Swap (v ∷ u ∷ w) = proceed (u ∷ v ∷ w)
  execute Iadd [] = None
  execute Iadd (v ∷ []) = None
  execute Iadd (v ∷ u ∷ w) = proceed (wrap (u + v) ∷ w)
  execute Isub [] = None
  execute Isub (v ∷ []) = None
  execute Isub (v ∷ u ∷ w) = proceed (wrap ((u + 65536) - v) ∷ w)
  execute Iand [] = None
  execute Iand (v ∷ []) = None
  execute Iand (v ∷ u ∷ w) = proceed (bit_and u v ∷ w)
  execute Ior [] = None
  execute Ior (v ∷ []) = None
  execute Ior (v ∷ u ∷ w) = proceed (bit_or u v ∷ w)
  execute (Iinc i k) w = cond (nat_lt i (length r.variables)) (store i (wrap (slice_index r.variables i + k)) w) None
  execute (Ifeq o) [] = None
  execute (Ifeq o) (v ∷ w) = branch (v == 0) o w
  execute (Iflt o) [] = None
  execute (Iflt o) (v ∷ w) = branch (negative v) o w
  execute (IfIcmpeq o) [] = None
  execute (IfIcmpeq o) (v ∷ []) = None
  execute (IfIcmpeq o) (v ∷ u ∷ w) = branch (u == v) o w
  execute (Goto o) w = branch true o w
  execute Ireturn [] = None
  execute Ireturn (v ∷ w) = return_to (ending.Value v) (v ∷ []) s.waiting
  execute Return w = return_to ending.Plain [] s.waiting
  execute (Invokevirtual i) w = cond (nat_lt i (methods f) && nat_le (parameters f i) (length w)) (call i w) None
  execute In w = take_unit w x.feed
  execute Out [] = None
  execute Out (v ∷ w) = put (text s.mode v) w
  execute (Err i) w = cond (nat_lt i (messages f)) (end (ending.Error i)) None
  execute (Setout i) w = cond (nat_lt i 3) (set_mode i) None
  execute Halt w = end ending.Halt

abbrev pub none_left : List ℕ → Bool
none_left [] = true
none_left (u ∷ us) = false

-- at IN with no unit left
abbrev pub awaits_input : List ℕ → Fed → Bool
awaits_input f x = none_left x.feed && byte f x.state.place == 0xF0

-- the machine does no more
abbrev pub idle : List ℕ → Fed → Bool
idle f x = is_some x.state.ended || awaits_input f x

-- the running frame has no more operands than its method's peak in the sheet s
abbrev pub within_peak : List ℕ → Option Fed → Option Fed
within_peak s None = None
within_peak s (Some y) = cond (nat_le (length y.state.running.operands) (number s (entry y.state.running.method))) (Some y) None

abbrev pub execute_if : List ℕ → List ℕ → Fed → Option Instruction → Option Fed
execute_if f s x None = None
execute_if f s x (Some i) = within_peak s (execute f x i x.state.running.operands)

-- the next instruction done; none where the machine goes astray: at no place of the running method, with too few operands,
-- with an index outside its table, or with more operands afterwards than the method's peak
abbrev pub executed : List ℕ → List ℕ → Fed → Option Fed
executed f s x =
    cond (is_place f x.state.running.method x.state.place) (execute_if f s x (decode (drop x.state.place f))) None

abbrev pub astray : List ℕ → List ℕ → Fed → Bool
astray f s x = not (idle f x) && not (is_some (executed f s x))

-- the next instruction is there to do and is done
abbrev pub advances : List ℕ → List ℕ → Fed → Bool
advances f s x = not (idle f x) && is_some (executed f s x)

abbrev pub step : List ℕ → List ℕ → Fed → Fed
step f s x = cond (idle f x) x (unwrap_or (executed f s x) x)

abbrev pub after : List ℕ → List ℕ → ℕ → Fed → Fed
after f s zero x = x
after f s (suc n) x = after f s n (step f s x)

-- main's frame as start lays it, with its locals 0
abbrev pub main : List ℕ → State
main f = record {
  running = record { method = 0; return_place = 65535; variables = replicate (locals f 0) 0; operands = [] };
  waiting = [];
  place = code_address f 0;
  mode = 0;
  ended = None;
}

-- the plain machine from main's start, fed these units, after n instructions or as many as it does
abbrev pub machine_after : List ℕ → List ℕ → ℕ → List ℕ → Fed
machine_after f s n us = after f s n (fed (main f) us [])
