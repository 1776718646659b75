-- Calls and returns: from what is done to the frames to what is done to the plain machine. Assumes nothing.
use Rattle.std.proofs.Common.{◌≡◌, ℕ, ◌+◌, ◌-◌, ◌<◌, ◌≤◌, Bool, true, false, cond, eqb, ltb, leb, List, [], ◌∷◌, ◌++◌, length, drop, Some, None, sym, refl, ap, ◌∙◌, subst, arith, length-drop}
use Rattle.std.proofs.lemmas.Bool.{and_parts, and_from, leb-true, lt-ltb, le-leb}
use Rattle.format.specs.Layout.{entry, methods, parameters, locals, code_address}
use Rattle.bytecode.specs.declared.instruction.Instruction.{Instruction}
use Rattle.bytecode.specs.declared.instruction.Instruction.TheVariants.{Invokevirtual}
use Rattle.bytecode.specs.Encoding.{opcode_of}
use Rattle.bytecode.specs.Places.{next}
use Rattle.verifier.specs.Numbering.{number}
use Rattle.verifier.proofs.Peaks.{entry_low}
use Rattle.output.specs.Mode.{mode_number}
use Rattle.machine.specs.declared.stop.End.{End}
use Rattle.machine.specs.Machine.{Frame, State, fed, with_operands, with_end, execute, call, return_to}
use Rattle.machine.specs.Go.{top, frames_size, frame_need, callee_need, cells_used}
use Rattle.machine.proofs.Doing.{below_peak}
use Rattle.frames.specs.declared.Frames.{Frames}
use Rattle.frames.specs.Frames.{running, waiting, alone, called, Kept, kept_refl}
use Rattle.frames.proofs.Parts.{ends}
use Rattle.run.specs.declared.interpreter.Interpreter.{Interpreter}
use Rattle.run.specs.Sound.{all_fit}
use Rattle.run.specs.Standing.{program, numbers, cells, state_of, stands}
use Rattle.run.proofs.Ready.{ready, good}
use Rattle.run.proofs.Steps.{Reached, same_state, frame_free, fits, code, taken, method_there, next_is, does, finished, Executes}

-- a call of method i
module _ (m : Interpreter) (i : ℕ) (here : stands m ≡ Some (Invokevirtual i)) where
  abbrev r : Frame
  r = running m.frames

  abbrev w : List ℕ
  w = r.operands

  -- the method, its parameters and its peak are there
  pub method_below : i < methods (program m)
  method_below = subst (λ (j : ℕ). j < methods (program m)) (code m (Invokevirtual i) here).arguments (method_there m (Invokevirtual i) here refl)

  pub enough : parameters (program m) i ≤ length w
  enough = subst (λ (j : ℕ). parameters (program m) j ≤ length w) (code m (Invokevirtual i) here).arguments (taken m (Invokevirtual i) here)

  pub peak_there : entry i < length (numbers m)
  peak_there =
      let h = (good m).facts in
      let l = entry_low (program m) i method_below in
      let t = h.layout.tables in
      let n = h.long in
      omega arith

  pub enough_below : parameters (program m) i ≤ frames_size (r ∷ waiting m.frames)
  enough_below = let l = enough in below (parameters (program m) i) (length w) (length r.variables) (frames_size (waiting m.frames)) l
    where
      below : (p w v n : ℕ) → p ≤ w → p ≤ 3 + v + w + n
      below p w v n l = omega arith

  pub top_low : frames_size (r ∷ waiting m.frames) < 65536
  top_low = omega (arith, ends m.frames, m.frames.used)

  -- the caller, without the parameters that are taken, ends where the frame of the method called begins
  base_is : frames_size (with_operands r (drop (parameters (program m) i) w) ∷ waiting m.frames) ≡ top (state_of m) - parameters (program m) i
  base_is =
      ap (λ (k : ℕ). 3 + length r.variables + k + frames_size (waiting m.frames)) (length-drop (parameters (program m) i) w) ∙
      shorter (parameters (program m) i) (length w) (length r.variables) (frames_size (waiting m.frames)) enough
    where
      shorter : (p w v n : ℕ) → p ≤ w → 3 + v + (w - p) + n ≡ (3 + v + w + n) - p
      shorter p w v n l = omega arith

  -- a frame that fits has room for its locals above the parameters
  pub room : leb (callee_need (program m) (numbers m) (state_of m) i) (cells_used (cells m)) ≡ true →
      frames_size (r ∷ waiting m.frames) + 3 + locals (program m) i ≤ cells_used (cells m)
  room e =
      tight (parameters (program m) i) (locals (program m) i) (top (state_of m)) _ (cells_used (cells m)) enough_below
      (leb-true (callee_need (program m) (numbers m) (state_of m) i) (cells_used (cells m)) e)
    where
      tight : (p l t k c : ℕ) → p ≤ t → t - p + 3 + p + l + k ≤ c → t + 3 + l ≤ c
      tight p l t k c a b = omega arith

  abbrev callee : State
  callee =
      record {
        running = called (program m) i (next (program m) m.place) w;
        waiting = with_operands r (drop (parameters (program m) i) w) ∷ waiting m.frames;
        place = code_address (program m) i;
        mode = mode_number m.mode;
        ended = m.ended;
      }

  calls : Executes m (Invokevirtual i) here refl (λ us vs. fed callee us vs)
  calls us vs =
      ap (λ (b : Bool). cond b (call (program m) (fed (state_of m) us vs) i w) None)
      (and_from (ltb i (methods (program m))) (leb (parameters (program m) i) (length w)) (lt-ltb i (methods (program m)) method_below) (le-leb (parameters (program m) i) (length w) enough))

  -- once the frame of the method called is laid
  pub entered : leb (callee_need (program m) (numbers m) (state_of m) i) (cells_used (cells m)) ≡ true →
      (y : Frames) (back : ℕ) → back ≡ m.place + 2 → Kept m.frames y →
      running y ≡ called (program m) i back w → waiting y ≡ with_operands r (drop (parameters (program m) i) w) ∷ waiting m.frames →
      (p : ℕ) → p ≡ code_address (program m) i → Reached m y p m.mode m.ended
  entered e y back eb k er ew p ep =
      finished m (Invokevirtual i) here refl callee calls y p m.mode m.ended k
      (same_state (er ∙ ap (λ (q : ℕ). called (program m) i q w) (eb ∙ sym (next_is m (Invokevirtual i) here))) ew ep)
      (and_from _ _ (ap (λ (b : ℕ). leb (frame_need (program m) (numbers m) i b) (cells_used (cells m))) base_is ∙ e) (ready m).fit)

alone_is : (ws : List Frame) → alone ws ≡ true → ws ≡ []
alone_is [] e = refl
alone_is (c ∷ cs) e = cc

-- a return: the instruction i goes back to the caller with the values rs, or ends the run by e
module _ (m : Interpreter) (i : Instruction) (here : stands m ≡ Some i) (free : eqb (opcode_of i) 0xF0 ≡ false)
    (e : End) (rs : List ℕ)
    (goes : (us vs : List ℕ) → execute (program m) (fed (state_of m) us vs) i (running m.frames).operands ≡ return_to (program m) (fed (state_of m) us vs) e rs (waiting m.frames)) where
  -- where no frame waits
  pub ended_by : alone (waiting m.frames) ≡ true → Reached m m.frames m.place m.mode (Some e)
  ended_by a =
      finished m i here free (with_end (state_of m) e)
      (λ us vs. goes us vs ∙ ap (return_to (program m) (fed (state_of m) us vs) e rs) (alone_is (waiting m.frames) a))
      m.frames m.place m.mode (Some e) (kept_refl m.frames) refl (ready m).fit

  -- where c waits
  module _ (c : Frame) (cs : List Frame) (w : waiting m.frames ≡ c ∷ cs) where
    abbrev caller : State
    caller = record { running = with_operands c (rs ++ c.operands); waiting = cs; place = (running m.frames).return_place; mode = mode_number m.mode; ended = m.ended }

    resumes : Executes m i here free (λ us vs. fed caller us vs)
    resumes us vs = goes us vs ∙ ap (return_to (program m) (fed (state_of m) us vs) e rs) w

    still_fits : all_fit (program m) (numbers m) (cells m) (c ∷ cs) ≡ true
    still_fits = subst (λ (ws : List Frame). all_fit (program m) (numbers m) (cells m) ws ≡ true) w (fits m).1

    -- it has room for the value that it gets
    pub caller_free : (v : ℕ) → rs ≡ v ∷ [] → frames_size (c ∷ cs) < cells_used (cells m)
    caller_free v q =
        let s = (does m i here free (λ us vs. fed caller us vs) resumes [] []).1 in
        let p = below_peak (program m) (numbers m) (good m) caller s in
        frame_free m c cs (and_parts (leb (frame_need (program m) (numbers m) c.method (frames_size cs)) (cells_used (cells m))) (all_fit (program m) (numbers m) (cells m) cs) still_fits).0
        s.wide (subst (λ (t : List ℕ). length (t ++ c.operands) ≤ number (numbers m) (entry c.method)) q p)

    -- once its frame is the running one
    pub resumed : (y : Frames) → Kept m.frames y → running y ≡ with_operands c (rs ++ c.operands) → waiting y ≡ cs →
        (p : ℕ) → p ≡ (running m.frames).return_place → Reached m y p m.mode m.ended
    resumed y k er ew p ep = finished m i here free caller resumes y p m.mode m.ended k (same_state er ew ep) still_fits
