-- From what is done to the frames to what is done to the plain machine. Assumes nothing.
use Rattle.std.proofs.Common.{◌≡◌, ℕ, ◌+◌, ◌<◌, ◌≤◌, Bool, true, false, ◌&&◌, eqb, ltb, leb, List, [], ◌∷◌, length, Some, Option, sym, refl, ap, ◌∙◌, subst, arith}
use Rattle.std.proofs.lemmas.Bool.{and_parts, leb-true, leb-false, ltb-true, ltb-false}
use Rattle.format.specs.Layout.{byte, entry, methods, constants, messages, parameters, locals}
use Rattle.bytecode.specs.declared.instruction.Instruction.{Instruction}
use Rattle.bytecode.specs.Opcodes.{length_of}
use Rattle.bytecode.specs.Encoding.{opcode_of, Encodes}
use Rattle.bytecode.specs.Places.{next, is}
use Rattle.bytecode.proofs.Accepted.{file_short}
use Rattle.verifier.specs.Numbering.{number, Admitted}
use Rattle.output.specs.declared.mode.Mode.{Mode}
use Rattle.output.specs.Mode.{mode_number}
use Rattle.machine.specs.declared.stop.End.{End}
use Rattle.machine.specs.Machine.{Frame, State, Fed, fed, with_operands, continue_at, execute, executed}
use Rattle.machine.specs.Go.{frames_size, frame_need, cells_used}
use Rattle.machine.proofs.Invariant.{Sure, indexed, varied}
use Rattle.machine.proofs.Opcodes.{takes_as}
use Rattle.machine.proofs.Doing.{room_at, below_peak, encoded, next_here, not_awaiting, finds, done}
use Rattle.frames.specs.declared.Frames.{Frames}
use Rattle.frames.specs.Frames.{running, waiting, size, Kept}
use Rattle.run.specs.declared.interpreter.Interpreter.{Interpreter}
use Rattle.run.specs.Sound.{all_fit, sound}
use Rattle.run.specs.Standing.{program, numbers, cells, state_of, stands}
use Rattle.run.specs.Done.{Done}
use Rattle.run.proofs.Ready.{ready, sound_of, good}

-- other operands once more
pub over : (a b : Frame) (w W : List ℕ) → a ≡ with_operands b w → with_operands a W ≡ with_operands b W
over a b w W e = ap (λ (r : Frame). with_operands r W) e

-- the same file, sheet, number of cells and state
pub carry : (P : List ℕ → List ℕ → ℕ → State → Type 0) {f f' s s' : List ℕ} {n n' : ℕ} {t t' : State} → f' ≡ f → s' ≡ s → n' ≡ n → t' ≡ t → P f s n t → P f' s' n' t'
carry P {f} {f'} {s} {s'} {n} {n'} {t} {t'} a b c d h =
    subst (λ (x : List ℕ). P x s' n' t') (sym a) (subst (λ (x : List ℕ). P f x n' t') (sym b) (subst (λ (x : ℕ). P f s x t') (sym c) (subst (λ (x : State). P f s n x) (sym d) h)))

pub same_state : {x x' : Frame} {ws ws' : List Frame} {p p' n : ℕ} {o : Option End} → x ≡ x' → ws ≡ ws' → p ≡ p' →
    ◌≡◌ {A = State} (record { running = x; waiting = ws; place = p; mode = n; ended = o }) (record { running = x'; waiting = ws'; place = p'; mode = n; ended = o })
same_state a b c = cc

-- what a sound interpreter finds at its place
module _ (m : Interpreter) where
  pub place_room : m.place + 4 ≤ length (program m)
  place_room = let h = ready m in room_at (program m) (numbers m) (good m) (state_of m) h.sure

  pub place_small : m.place + 4 < 65536
  place_small =
      let h = ready m in
      let l = file_short (program m) (good m).accepted in
      let r = place_room in
      omega arith

  -- a frame r above the frames rs has a cell free, if it has fewer operands than its method's peak
  pub frame_free : (r : Frame) (rs : List Frame) → leb (frame_need (program m) (numbers m) r.method (frames_size rs)) (cells_used (cells m)) ≡ true →
      length r.variables ≡ parameters (program m) r.method + locals (program m) r.method →
      length r.operands < number (numbers m) (entry r.method) → frames_size (r ∷ rs) < cells_used (cells m)
  frame_free r rs fits wide l =
      tight (frames_size rs) (length r.variables) (length r.operands) (parameters (program m) r.method) (locals (program m) r.method) (number (numbers m) (entry r.method)) (cells_used (cells m))
      wide l (leb-true (frame_need (program m) (numbers m) r.method (frames_size rs)) (cells_used (cells m)) fits)
    where
      tight : (n v w p l k c : ℕ) → v ≡ p + l → w < k → n + 3 + p + l + k ≤ c → 3 + v + w + n < c
      tight n v w p l k c e h t = omega arith

  -- the running frame fits, and so do those that wait
  pub fits : (leb (frame_need (program m) (numbers m) (running m.frames).method (frames_size (waiting m.frames))) (cells_used (cells m)) ≡ true) ×
      (all_fit (program m) (numbers m) (cells m) (waiting m.frames) ≡ true)
  fits =
      and_parts (leb (frame_need (program m) (numbers m) (running m.frames).method (frames_size (waiting m.frames))) (cells_used (cells m)))
      (all_fit (program m) (numbers m) (cells m) (waiting m.frames)) (ready m).fit

  -- one more operand has room in the running frame, if it has fewer than its method's peak
  pub cell_free : (x : Frames) (w : List ℕ) → Kept m.frames x → running x ≡ with_operands (running m.frames) w → waiting x ≡ waiting m.frames →
      length w < number (numbers m) (entry (running m.frames).method) → frames_size (running x ∷ waiting x) < cells_used (size x)
  cell_free x w k er ew l =
      let r : Frame = with_operands (running m.frames) w in
      rw (er, ew, k.same_size) (frame_free r (waiting m.frames) fits.0 (ready m).sure.wide l)

  -- other frames and another place, of which all this holds too
  pub sound_after : (st : State) → Sure (program m) (numbers m) st → (y : Frames) (p n : ℕ) (o : Option End) → Kept m.frames y →
      ◌≡◌ {A = State} (record { running = running y; waiting = waiting y; place = p; mode = n; ended = o }) st →
      all_fit (program m) (numbers m) (cells m) (st.running ∷ st.waiting) ≡ true → sound y (numbers m) p ≡ true
  sound_after st sure y p n o k q fit =
      sound_of y (numbers m) p n o
      (carry (λ f s _ _. Admitted f s) k.same_file refl k.same_size q (ready m).admitted)
      (carry (λ f s _ t. Sure f s t) k.same_file refl k.same_size q sure)
      (carry (λ f s n t. all_fit f s n (t.running ∷ t.waiting) ≡ true) k.same_file refl k.same_size q fit)

-- the interpreter m comes to the frames y, the place p, the mode n and the end o, which are sound, and of which P holds
pub record Comes (P : Interpreter → Type 0) (m : Interpreter) (y : Frames) (p : ℕ) (n : Mode) (o : Option End) : Type 0 where
  pub holds : sound y (numbers m) p ≡ true
  pub does : (ok : sound y (numbers m) p ≡ true) → P (record { frames = y; sheet = m.sheet; place = p; mode = n; ended = o; sound = ok })

abbrev pub Reached : Interpreter → Frames → ℕ → Mode → Option End → Type 0
Reached m = Comes (Done m) m

-- the instruction i stands there
module _ (m : Interpreter) (i : Instruction) (here : stands m ≡ Some i) where
  abbrev r : Frame
  r = running m.frames

  abbrev x : List ℕ → List ℕ → Fed
  x us vs = fed (state_of m) us vs

  pub code : Encodes (program m) m.place i
  code = let h = ready m in encoded (program m) (numbers m) (good m) (x [] []) h.sure i here

  pub next_is : next (program m) m.place ≡ m.place + length_of (opcode_of i)
  next_is = let h = ready m in next_here (program m) (numbers m) (good m) (x [] []) h.sure i here

  pub taken : takes_as (program m) m.place (opcode_of i) ≤ length r.operands
  taken = let h = ready m in finds (program m) (numbers m) (good m) (x [] []) h.sure i here

  -- the variable, the constant, the method or the message that it names is there, and so is the mode
  abbrev j : ℕ
  j = byte (program m) (m.place + 1)

  named : ((is (opcode_of i) (0x15 ∷ 0x36 ∷ 0x84 ∷ []) && leb (parameters (program m) r.method + locals (program m) r.method) j) ≡ false) ×
      ((eqb (opcode_of i) 0x12 && leb (constants (program m)) j) ≡ false) ×
      ((eqb (opcode_of i) 0xB6 && leb (methods (program m)) j) ≡ false) ×
      ((eqb (opcode_of i) 0xF2 && leb (messages (program m)) j) ≡ false) ×
      ((eqb (opcode_of i) 0xFA && ltb 2 j) ≡ false)
  named = let h = ready m in indexed (program m) (numbers m) (good m) (x [] []) h.sure (opcode_of i) j code.opcode refl

  pub variable_there : is (opcode_of i) (0x15 ∷ 0x36 ∷ 0x84 ∷ []) ≡ true → j < length r.variables
  variable_there e = let h = ready m in ltb-true j (length r.variables) (varied (program m) (numbers m) (good m) (x [] []) h.sure (opcode_of i) j code.opcode refl e)

  pub constant_there : eqb (opcode_of i) 0x12 ≡ true → j < constants (program m)
  constant_there e = leb-false (constants (program m)) j (ap (λ (b : Bool). b && leb (constants (program m)) j) (sym e) ∙ named.1)

  pub method_there : eqb (opcode_of i) 0xB6 ≡ true → j < methods (program m)
  method_there e = leb-false (methods (program m)) j (ap (λ (b : Bool). b && leb (methods (program m)) j) (sym e) ∙ named.2)

  pub message_there : eqb (opcode_of i) 0xF2 ≡ true → j < messages (program m)
  message_there e = leb-false (messages (program m)) j (ap (λ (b : Bool). b && leb (messages (program m)) j) (sym e) ∙ named.3)

  pub mode_there : eqb (opcode_of i) 0xFA ≡ true → j < 3
  mode_there e = let l = ltb-false 2 j (ap (λ (b : Bool). b && ltb 2 j) (sym e) ∙ named.4) in omega arith

-- it is not IN
module _ (m : Interpreter) (i : Instruction) (here : stands m ≡ Some i) (free : eqb (opcode_of i) 0xF0 ≡ false) where
  abbrev frame : Frame
  frame = running m.frames

  abbrev pub Executes : (List ℕ → List ℕ → Fed) → Type 0
  Executes y = (us vs : List ℕ) → execute (program m) (fed (state_of m) us vs) i frame.operands ≡ Some (y us vs)

  pub does : (y : List ℕ → List ℕ → Fed) → Executes y → (us vs : List ℕ) → (executed (program m) (numbers m) (fed (state_of m) us vs) ≡ Some (y us vs)) × Sure (program m) (numbers m) (y us vs).state
  does y e us vs =
      let h = ready m in
      done (program m) (numbers m) (good m) (fed (state_of m) us vs) h.sure i here
      (not_awaiting (program m) (numbers m) (good m) (fed (state_of m) us vs) h.sure i here free) (y us vs) (e us vs)

  -- it leaves no more operands than the method's peak
  pub peak : (R : Frame) (p : ℕ) → Executes (λ us vs. fed (continue_at (state_of m) R p) us vs) → length R.operands ≤ number (numbers m) (entry R.method)
  peak R p e =
      let h = ready m in
      below_peak (program m) (numbers m) (good m) (continue_at (state_of m) R p) (does (λ us vs. fed (continue_at (state_of m) R p) us vs) e [] []).1

  -- frames, a place, a mode and an end that stand for the state which the instruction leads to
  pub finished : (st : State) → Executes (λ us vs. fed st us vs) → (y : Frames) (p : ℕ) (n : Mode) (o : Option End) → Kept m.frames y →
      ◌≡◌ {A = State} (record { running = running y; waiting = waiting y; place = p; mode = mode_number n; ended = o }) st →
      all_fit (program m) (numbers m) (cells m) (st.running ∷ st.waiting) ≡ true → Reached m y p n o
  finished st e y p n o k q fits =
      record {
        holds = sound_after m st (does (λ us vs. fed st us vs) e [] []).1 y p (mode_number n) o k q fits;
        does = λ ok. record {
          kept = record { frames = k; sheet = refl };
          does = λ us vs. (does (λ us vs. fed st us vs) e us vs).0 ∙ ap (λ (t : State). Some (fed t us vs)) (sym q);
        };
      }

  -- the running frame goes on as R at p
  pub continued : (R : Frame) (p : ℕ) → Executes (λ us vs. fed (continue_at (state_of m) R p) us vs) → R.method ≡ frame.method →
      (y : Frames) (q : ℕ) → Kept m.frames y → running y ≡ R → waiting y ≡ waiting m.frames → q ≡ p → Reached m y q m.mode m.ended
  continued R p e same y q k er ew ep =
      finished (continue_at (state_of m) R p) e y q m.mode m.ended k (same_state er ew ep)
      (ap (λ (j : ℕ). nat_le_need j) same ∙ (ready m).fit)
    where
      nat_le_need : ℕ → Bool
      nat_le_need j = all_fit (program m) (numbers m) (cells m) (record { method = j; return_place = 0; variables = []; operands = [] } ∷ waiting m.frames)

  -- on to the next instruction with the operands W
  abbrev pub Proceeds : List ℕ → Type 0
  Proceeds W = Executes (λ us vs. fed (continue_at (state_of m) (with_operands frame W) (next (program m) m.place)) us vs)

  -- before an operand is pushed that the instruction leaves
  pub free_cell : (y : Frames) (v : ℕ) → Kept m.frames y → running y ≡ with_operands frame (running y).operands → waiting y ≡ waiting m.frames →
      Proceeds (v ∷ (running y).operands) → frames_size (running y ∷ waiting y) < cells_used (size y)
  free_cell y v k er ew e = cell_free m y (running y).operands k er ew (peak (with_operands frame (v ∷ (running y).operands)) (next (program m) m.place) e)

  -- once the frame has them
  pub proceeded : (W : List ℕ) → Proceeds W → (y : Frames) → Kept m.frames y → running y ≡ with_operands frame W → waiting y ≡ waiting m.frames →
      Reached m y (m.place + length_of (opcode_of i)) m.mode m.ended
  proceeded W e y k er ew = continued (with_operands frame W) (next (program m) m.place) e refl y _ k er ew (sym (next_is m i here))
