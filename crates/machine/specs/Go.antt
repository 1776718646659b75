-- A go: as many instructions of the plain machine as come before the first stop. Assumes nothing.
use Rattle.std.specs.Prelude.{ℕ, zero, suc, ◌+◌, ◌-◌, min, Bool, cond, List, [], ◌∷◌, ◌++◌, length, is_some, Some, None, Option, ◌==◌, nat_le, nat_lt, slice_index}
use Rattle.std.specs.Option.{unwrap_or, option_map}
use Rattle.format.specs.Search.{◌else◌, when}
use Rattle.format.specs.Layout.{byte, entry, parameters, locals}
use Rattle.verifier.specs.Numbering.{number}
use Rattle.machine.specs.declared.stop.Stop.{Stop}
use Rattle.machine.specs.declared.stop.Stop.TheVariants.{Ended, Spent, NoUnit, NoRoom, StackFull}
use Rattle.output.specs.Text.{text}
use Rattle.machine.specs.Machine.{Frame, State, Fed, fed, awaits_input, after, main}

-- the cells of a frame, and of a list of frames
abbrev pub frame_size : Frame → ℕ
frame_size r = 3 + length r.variables + length r.operands

abbrev pub frames_size : List Frame → ℕ
frames_size [] = 0
frames_size (r ∷ rs) = frame_size r + frames_size rs

-- the first cell above all frames
abbrev pub top : State → ℕ
top s = frame_size s.running + frames_size s.waiting

-- of a stack's cells the first 65,535 are used
abbrev pub cells_used : ℕ → ℕ
cells_used cells = min cells 65535

-- where a frame of method k ends at most, if its base is b
abbrev pub frame_need : List ℕ → List ℕ → ℕ → ℕ → ℕ
frame_need f s k b = b + 3 + parameters f k + locals f k + number s (entry k)

-- where the frame of a called method k ends at most; its base is the top after its parameters are taken
abbrev pub callee_need : List ℕ → List ℕ → State → ℕ → ℕ
callee_need f s st k = frame_need f s k (top st - parameters f k)

-- how many cells the next instruction needs, if it is a call; the callee's base is the top after its parameters are taken
abbrev pub call_need : List ℕ → List ℕ → State → Option ℕ
call_need f s st =
    let k = byte f (st.place + 1) in
    when (byte f st.place == 0xB6) (frame_need f s k (top st - parameters f k))

-- the units that OUT writes, if OUT comes next
abbrev pub next_text : List ℕ → State → List ℕ
next_text f st = cond (byte f st.place == 0xF1) (text st.mode (slice_index st.running.operands 0)) []

-- what keeps the next instruction at x from being done, on a host that had this room before x wrote anything: no unit waits for IN,
-- the units of OUT have no room, or the frame of a call does not fit
abbrev pub hindrance : List ℕ → List ℕ → ℕ → ℕ → Fed → Option Stop
hindrance f s cells room x =
    when (awaits_input f x) NoUnit else
    when (nat_lt room (length x.wrote + length (next_text f x.state))) NoRoom else
    when (nat_lt (cells_used cells) (unwrap_or (call_need f s x.state) 0)) StackFull

-- why a go stops before its next instruction, when it has done j of them and stands at x: the first reason that holds
abbrev pub stop_at : List ℕ → List ℕ → ℕ → ℕ → ℕ → ℕ → Fed → Option Stop
stop_at f s cells room fuel j x =
    option_map Ended x.state.ended else
    when (j == fuel) Spent else
    when (awaits_input f x) NoUnit else
    when (nat_lt room (length x.wrote + length (next_text f x.state))) NoRoom else
    when (nat_lt (cells_used cells) (unwrap_or (call_need f s x.state) 0)) StackFull

-- the least number from i on that passes the test, or the n-th
abbrev pub least : (ℕ → Bool) → ℕ → ℕ → ℕ
least t zero i = i
least t (suc n) i = cond (t i) i (least t n (suc i))

abbrev pub count : List ℕ → List ℕ → ℕ → ℕ → ℕ → Fed → ℕ
count f s cells room fuel x = least (λ j. is_some (stop_at f s cells room fuel j (after f s j x))) fuel 0

-- a host by value: the units that wait, those that were put, and the room for more
pub record Host : Type 0 where
  pub waits : List ℕ
  pub written : List ℕ
  pub space : ℕ

-- main's frame fits
abbrev pub begins : List ℕ → List ℕ → ℕ → Bool
begins f s cells = nat_le (frame_need f s 0 0) (cells_used cells)

-- a new run: main's state; where main's frame does not fit the run never begins and has no state
abbrev pub start : List ℕ → List ℕ → ℕ → Option State
start f s cells = when (begins f s cells) (main f)

-- what a go leaves and answers
pub record Outcome : Type 0 where
  pub run : Option State
  pub host : Host
  pub stop : Stop
  pub counted : ℕ

-- of a run that began
abbrev pub outcome_begun : List ℕ → List ℕ → ℕ → ℕ → State → Host → Outcome
outcome_begun f s cells fuel st h =
    let x0 = fed st h.waits [] in
    let n = count f s cells h.space fuel x0 in
    let x = after f s n x0 in
    record {
      run = Some x.state;
      host = record { waits = x.feed; written = h.written ++ x.wrote; space = h.space - length x.wrote };
      stop = unwrap_or (stop_at f s cells h.space fuel n x) Spent;
      counted = n;
    }

-- of a run that never began: stack full once there is fuel, and nothing changes
abbrev pub outcome_unbegun : ℕ → Host → Outcome
outcome_unbegun fuel h = record { run = None; host = h; stop = cond (fuel == 0) Spent StackFull; counted = 0 }

abbrev pub outcome : List ℕ → List ℕ → ℕ → ℕ → Option State → Host → Outcome
outcome f s cells fuel None h = outcome_unbegun fuel h
outcome f s cells fuel (Some st) h = outcome_begun f s cells fuel st h
