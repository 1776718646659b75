-- What hinders the next instruction, by its opcode, and a turn of a go. Assumes nothing.
use Rattle.std.proofs.Common.{◌≡◌, ℕ, ◌+◌, ◌<◌, Bool, true, false, cond, ◌&&◌, ◌||◌, eqb, ltb, List, [], ◌∷◌, ◌++◌, length, get_or, is_some, Some, None, Option, unwrap_or, sym, refl, ap, ◌∙◌, append-nil, zero-le, add-zero, zero-add, MatchOption}
use Rattle.std.proofs.lemmas.Bool.{le-ltb, or_from, not-true, or_parts, and_right}
use Rattle.format.specs.Search.{◌else◌, when}
use Rattle.format.specs.Layout.{byte}
use Rattle.bytecode.specs.declared.instruction.Instruction.{Instruction}
use Rattle.bytecode.specs.declared.instruction.Instruction.TheVariants.{Invokevirtual, In, Out}
use Rattle.bytecode.specs.Encoding.{opcode_of}
use Rattle.bytecode.specs.Places.{next}
use Rattle.output.specs.Mode.{mode_number}
use Rattle.output.specs.Text.{text}
use Rattle.machine.specs.declared.stop.Stop.{Stop}
use Rattle.machine.specs.declared.stop.Stop.TheVariants.{NoUnit, NoRoom, StackFull}
use Rattle.machine.specs.Machine.{State, Fed, fed, with_operands, continue_at, none_left, execute, awaits_input, executed, step}
use Rattle.machine.specs.Go.{Host, frames_size, cells_used, callee_need, next_text}
use Rattle.machine.proofs.Invariant.{Sure}
use Rattle.machine.proofs.Doing.{below_peak, encoded, not_awaiting, done}
use Rattle.frames.specs.declared.Frames.{Frames}
use Rattle.frames.specs.Frames.{running, waiting, size, Kept, kept_refl}
use Rattle.run.specs.declared.interpreter.Interpreter.{Interpreter}
use Rattle.run.specs.Standing.{program, numbers, cells, state_of, stands}
use Rattle.run.specs.Done.{is_free, Done, Took, Wrote}
use Rattle.run.specs.Step.{host_of, hindered, Advanced, Turn}
use Rattle.run.proofs.Ready.{ready, good}
use Rattle.run.proofs.Steps.{Comes, same_state, cell_free, sound_after, code, does, next_is}

nothing_below : (n : ℕ) → ltb n 0 ≡ false
nothing_below n = le-ltb n 0 zero-le

-- hosts with the same lists and room
pub same_host : {a a' b b' : List ℕ} {n n' : ℕ} → a' ≡ a → b' ≡ b → n' ≡ n → host_of a' b' n' ≡ host_of a b n
same_host p q r = cc

-- a test that fails is passed over
skip : (b : Bool) (x : Stop) (o : Option Stop) → b ≡ false → (when b x else o) ≡ o
skip true x o e = cc
skip false x o e = refl

-- the instruction i stands at the place
module _ (m : Interpreter) (i : Instruction) (here : stands m ≡ Some i) where
  abbrev value : ℕ
  value = get_or (running m.frames).operands 0 0

  opcode_here : byte (program m) m.place ≡ opcode_of i
  opcode_here = let h = ready m in sym (encoded (program m) (numbers m) (good m) (fed (state_of m) [] []) h.sure i here).opcode

  -- what it writes, and what hinders it, by its opcode
  abbrev writes_as : ℕ → List ℕ
  writes_as c = cond (eqb c 0xF1) (text (mode_number m.mode) value) []

  pub writes_is : next_text (program m) (state_of m) ≡ writes_as (opcode_of i)
  writes_is = ap writes_as opcode_here

  abbrev hinders_as : Host → ℕ → Option Stop
  hinders_as h c =
      when (none_left h.waits && eqb c 0xF0) NoUnit else
      when (ltb h.space (0 + length (writes_as c))) NoRoom else
      when (ltb (cells_used (cells m)) (unwrap_or (when (eqb c 0xB6) (callee_need (program m) (numbers m) (state_of m) (byte (program m) (m.place + 1)))) 0)) StackFull

  pub hinders_is : (h : Host) → hindered m h ≡ hinders_as h (opcode_of i)
  hinders_is h = ap (hinders_as h) opcode_here

  -- the three tests, with what each finds of the opcode
  abbrev hinders_by : Host → Bool → Bool → Bool → Option Stop
  hinders_by h a b d =
      when (none_left h.waits && a) NoUnit else
      when (ltb h.space (0 + length (cond b (text (mode_number m.mode) value) []))) NoRoom else
      when (ltb (cells_used (cells m)) (unwrap_or (when d (callee_need (program m) (numbers m) (state_of m) (byte (program m) (m.place + 1)))) 0)) StackFull

  -- one that is no IN, no OUT or no call
  no_in : (h : Host) (b d : Bool) → hinders_by h false b d ≡
      (when (ltb h.space (0 + length (cond b (text (mode_number m.mode) value) []))) NoRoom else
      when (ltb (cells_used (cells m)) (unwrap_or (when d (callee_need (program m) (numbers m) (state_of m) (byte (program m) (m.place + 1)))) 0)) StackFull)
  no_in h b d = skip (none_left h.waits && false) NoUnit _ (and_right (none_left h.waits) false refl)

  no_out : (h : Host) (d : Bool) → hinders_by h false false d ≡
      when (ltb (cells_used (cells m)) (unwrap_or (when d (callee_need (program m) (numbers m) (state_of m) (byte (program m) (m.place + 1)))) 0)) StackFull
  no_out h d = no_in h false d ∙ skip (ltb h.space 0) NoRoom _ (nothing_below h.space)

  no_call : when (ltb (cells_used (cells m)) 0) StackFull ≡ None
  no_call = ap (λ (t : Bool). when t StackFull) (nothing_below (cells_used (cells m)))

  -- one that is none of them
  pub free_hinders : is_free (opcode_of i) ≡ true → (h : Host) → hindered m h ≡ None
  free_hinders e h =
      let c : ℕ = opcode_of i in
      let p = or_parts (eqb c 0xB6) (eqb c 0xF0 || (eqb c 0xF1 || false)) (not-true _ e) in
      let q = or_parts (eqb c 0xF0) (eqb c 0xF1 || false) p.1 in
      let r = or_parts (eqb c 0xF1) false q.1 in
      hinders_is h ∙ same_tests h (eqb c 0xF0) (eqb c 0xF1) (eqb c 0xB6) q.0 r.0 p.0 ∙ no_out h false ∙ no_call
    where
      same_tests : (h : Host) (a b d : Bool) → a ≡ false → b ≡ false → d ≡ false → hinders_by h a b d ≡ hinders_by h false false false
      same_tests h a b d p q r = cc

  pub free_writes : eqb (opcode_of i) 0xF1 ≡ false → next_text (program m) (state_of m) ≡ []
  free_writes e = writes_is ∙ ap (λ (b : Bool). cond b (text (mode_number m.mode) value) []) e

pub call_hinders : (m : Interpreter) (k : ℕ) (here : stands m ≡ Some (Invokevirtual k)) (h : Host) →
    hindered m h ≡ when (ltb (cells_used (cells m)) (callee_need (program m) (numbers m) (state_of m) k)) StackFull
call_hinders m k here h =
    hinders_is m (Invokevirtual k) here h ∙ no_out m (Invokevirtual k) here h true ∙
    ap (λ (j : ℕ). when (ltb (cells_used (cells m)) (callee_need (program m) (numbers m) (state_of m) j)) StackFull) (code m (Invokevirtual k) here).arguments

else_nothing : (o : Option Stop) → (o else None) ≡ o
else_nothing None = refl
else_nothing (Some x) = refl

pub in_hinders : (m : Interpreter) (here : stands m ≡ Some In) (h : Host) → hindered m h ≡ when (none_left h.waits) NoUnit
in_hinders m here h =
    hinders_is m In here h ∙
    ap (λ (o : Option Stop). when (none_left h.waits && true) NoUnit else o) (ap (λ (t : Bool). when t NoRoom else when (ltb (cells_used (cells m)) 0) StackFull) (nothing_below h.space) ∙ no_call m In here) ∙
    else_nothing (when (none_left h.waits && true) NoUnit) ∙ ap (λ (t : Bool). when t NoUnit) (and_true (none_left h.waits))
  where
    and_true : (b : Bool) → (b && true) ≡ b
    and_true true = refl
    and_true false = refl

pub out_hinders : (m : Interpreter) (here : stands m ≡ Some Out) (h : Host) →
    hindered m h ≡ when (ltb h.space (length (next_text (program m) (state_of m)))) NoRoom
out_hinders m here h =
    hinders_is m Out here h ∙ no_in m Out here h true false ∙
    ap (λ (o : Option Stop). when (ltb h.space (0 + length (text (mode_number m.mode) (value m Out here)))) NoRoom else o) (no_call m Out here) ∙
    else_nothing (when (ltb h.space (0 + length (text (mode_number m.mode) (value m Out here)))) NoRoom) ∙
    ap (λ (n : ℕ). when (ltb h.space n) NoRoom) (zero-add (length (text (mode_number m.mode) (value m Out here)))) ∙
    ap (λ (t : List ℕ). when (ltb h.space (length t)) NoRoom) (sym (writes_is m Out here))

-- a step of the plain machine that is not idle
steps : (f s : List ℕ) (x y : Fed) → is_some x.state.ended ≡ false → awaits_input f x ≡ false → executed f s x ≡ Some y → step f s x ≡ y
steps f s x y a b e =
    ap (λ (t : Bool). cond t x (unwrap_or (executed f s x) x)) (or_from (is_some x.state.ended) (awaits_input f x) a b) ∙ ap (λ (o : Option Fed). unwrap_or o x) e

-- an instruction was done that the host had no part in
pub free_turn : (m : Interpreter) (i : Instruction) (here : stands m ≡ Some i) → is_some m.ended ≡ false →
    eqb (opcode_of i) 0xF0 ≡ false → eqb (opcode_of i) 0xF1 ≡ false → (m' : Interpreter) → Done m m' → (h : Host) → Advanced m h m' h
free_turn m i here alive no_in no_out m' d h =
    let none = free_writes m i here no_out in
    record {
      kept = d.kept;
      does = λ vs.
          steps (program m) (numbers m) (fed (state_of m) h.waits vs) (fed (state_of m') h.waits vs) alive
          (let r = ready m in not_awaiting (program m) (numbers m) (good m) (fed (state_of m) h.waits vs) r.sure i here no_in) (d.does h.waits vs) ∙
          ap (fed (state_of m') h.waits) (sym (append-nil vs) ∙ ap (λ (t : List ℕ). vs ++ t) (sym none));
      writes = sym (append-nil h.written) ∙ ap (λ (t : List ℕ). h.written ++ t) (sym none);
      takes_room = sym (add-zero h.space) ∙ ap (λ (t : List ℕ). h.space + length t) (sym none);
    }

-- a unit was taken
pub took_turn : (m : Interpreter) (here : stands m ≡ Some In) → is_some m.ended ≡ false →
    (u : ℕ) (m' : Interpreter) → Took u m m' → (h h' : Host) → h.waits ≡ u ∷ h'.waits → h'.written ≡ h.written → h'.space ≡ h.space → Advanced m h m' h'
took_turn m here alive u m' d h h' ew eo es =
    let none = free_writes m In here refl in
    record {
      kept = d.kept;
      does = λ vs.
          ap (λ (us : List ℕ). step (program m) (numbers m) (fed (state_of m) us vs)) ew ∙
          steps (program m) (numbers m) (fed (state_of m) (u ∷ h'.waits) vs) (fed (state_of m') h'.waits vs) alive refl (d.does h'.waits vs) ∙
          ap (fed (state_of m') h'.waits) (sym (append-nil vs) ∙ ap (λ (t : List ℕ). vs ++ t) (sym none));
      writes = eo ∙ sym (append-nil h.written) ∙ ap (λ (t : List ℕ). h.written ++ t) (sym none);
      takes_room = sym es ∙ sym (add-zero h'.space) ∙ ap (λ (t : List ℕ). h'.space + length t) (sym none);
    }

-- units were put
pub wrote_turn : (m : Interpreter) (here : stands m ≡ Some Out) → is_some m.ended ≡ false →
    (m' : Interpreter) → Wrote (next_text (program m) (state_of m)) m m' → (h h' : Host) → h'.waits ≡ h.waits →
    h'.written ≡ h.written ++ next_text (program m) (state_of m) → h.space ≡ h'.space + length (next_text (program m) (state_of m)) → Advanced m h m' h'
wrote_turn m here alive m' d h h' ew eo es =
    record {
      kept = d.kept;
      does = λ vs.
          steps (program m) (numbers m) (fed (state_of m) h.waits vs) (fed (state_of m') h.waits (vs ++ next_text (program m) (state_of m))) alive
          (let r = ready m in not_awaiting (program m) (numbers m) (good m) (fed (state_of m) h.waits vs) r.sure Out here refl) (d.does h.waits vs) ∙
          ap (λ (us : List ℕ). fed (state_of m') us (vs ++ next_text (program m) (state_of m))) (sym ew);
      writes = eo;
      takes_room = es;
    }

-- IN with the unit u
module _ (m : Interpreter) (here : stands m ≡ Some In) (u : ℕ) where
  abbrev taken_state : State
  taken_state = continue_at (state_of m) (with_operands (running m.frames) (u ∷ (running m.frames).operands)) (next (program m) m.place)

  takes : (us vs : List ℕ) → (executed (program m) (numbers m) (fed (state_of m) (u ∷ us) vs) ≡ Some (fed taken_state us vs)) × Sure (program m) (numbers m) taken_state
  takes us vs = let h = ready m in done (program m) (numbers m) (good m) (fed (state_of m) (u ∷ us) vs) h.sure In here refl (fed taken_state us vs) refl

  pub unit_room : frames_size (running m.frames ∷ waiting m.frames) < cells_used (size m.frames)
  unit_room =
      cell_free m m.frames (running m.frames).operands (kept_refl m.frames) refl refl
      (below_peak (program m) (numbers m) (good m) taken_state (takes [] []).1)

  pub took : (y : Frames) → Kept m.frames y → running y ≡ with_operands (running m.frames) (u ∷ (running m.frames).operands) → waiting y ≡ waiting m.frames →
      Comes (Took u m) m y (m.place + 1) m.mode m.ended
  took y k er ew =
      let q = same_state {n = mode_number m.mode} {o = m.ended} er ew (sym (next_is m In here)) in
      record {
        holds = sound_after m taken_state (takes [] []).1 y (m.place + 1) (mode_number m.mode) m.ended k q (ready m).fit;
        does = λ ok. record {
          kept = record { frames = k; sheet = refl };
          does = λ us vs. (takes us vs).0 ∙ ap (λ (t : State). Some (fed t us vs)) (sym q);
        };
      }

-- OUT with v on top of the operands w
module _ (m : Interpreter) (here : stands m ≡ Some Out) (v : ℕ) (w : List ℕ) (top : (running m.frames).operands ≡ v ∷ w) where
  pub writes_text : text (mode_number m.mode) v ≡ next_text (program m) (state_of m)
  writes_text = ap (λ (t : List ℕ). text (mode_number m.mode) (get_or t 0 0)) (sym top) ∙ sym (writes_is m Out here)

  abbrev written_state : State
  written_state = continue_at (state_of m) (with_operands (running m.frames) w) (next (program m) m.place)

  puts : (us vs : List ℕ) → (executed (program m) (numbers m) (fed (state_of m) us vs) ≡ Some (fed written_state us (vs ++ text (mode_number m.mode) v))) × Sure (program m) (numbers m) written_state
  puts us vs = does m Out here refl (λ us vs. fed written_state us (vs ++ text (mode_number m.mode) v)) (λ us vs. ap (execute (program m) (fed (state_of m) us vs) Out) top) us vs

  pub wrote : (y : Frames) → Kept m.frames y → running y ≡ with_operands (running m.frames) w → waiting y ≡ waiting m.frames →
      Comes (Wrote (next_text (program m) (state_of m)) m) m y (m.place + 1) m.mode m.ended
  wrote y k er ew =
      let q = same_state {n = mode_number m.mode} {o = m.ended} er ew (sym (next_is m Out here)) in
      let st : State = record { running = running y; waiting = waiting y; place = m.place + 1; mode = mode_number m.mode; ended = m.ended } in
      record {
        holds = sound_after m written_state (puts [] []).1 y (m.place + 1) (mode_number m.mode) m.ended k q (ready m).fit;
        does = λ ok. record {
          kept = record { frames = k; sheet = refl };
          does = λ us vs. (puts us vs).0 ∙ ap (λ (t : State). Some (fed t us (vs ++ text (mode_number m.mode) v))) (sym q) ∙
              ap (λ (t : List ℕ). Some (fed st us (vs ++ t))) writes_text;
        };
      }

-- a call: what it answers, and what it did
pub call_turn : (m : Interpreter) (k : ℕ) (here : stands m ≡ Some (Invokevirtual k)) → is_some m.ended ≡ false →
    (o : Option Stop) (m' : Interpreter) → MatchOption o (Done m m') (λ _. m' ≡ m) → (h : Host) → Turn m h o m' h
call_turn m k here alive None m' d h = free_turn m (Invokevirtual k) here alive refl refl m' d h
call_turn m k here alive (Some stop) m' d h = (d, refl)
