-- The instruction that stands at a machine's place: what it finds there, and that it is done as `execute` says. Assumes nothing.
use Rattle.std.proofs.Common.{◌≡◌, ℕ, ◌+◌, ◌≤◌, Bool, false, cond, eqb, List, length, drop, Some, None, Option, sym, ap, ◌∙◌, subst, arith}
use Rattle.std.proofs.lemmas.Bool.{and_right}
use Rattle.format.specs.Layout.{byte, entry}
use Rattle.format.proofs.Finds.{some_none}
use Rattle.bytecode.specs.declared.instruction.Instruction.{Instruction}
use Rattle.bytecode.specs.Opcodes.{decode, length_of}
use Rattle.bytecode.specs.Encoding.{opcode_of, Encodes}
use Rattle.bytecode.specs.Places.{next}
use Rattle.bytecode.proofs.Coded.{place_room}
use Rattle.bytecode.proofs.Decoding.{encodes_at}
use Rattle.verifier.specs.Numbering.{number}
use Rattle.verifier.proofs.Places.{in_is_place}
use Rattle.verifier.proofs.Peaks.{peak_above}
use Rattle.machine.specs.Machine.{State, Fed, execute, execute_if, awaits_input, none_left, within_peak, executed}
use Rattle.machine.proofs.Invariant.{Good, Sure, Made, reads, does, enough}
use Rattle.machine.proofs.Level.{within}
use Rattle.machine.proofs.Opcodes.{takes_as, next_is}

module _ (f s : List ℕ) (good : Good f s) (st : State) (sure : Sure f s st) where
  -- four bytes of the file stand at the place
  pub room_at : st.place + 4 ≤ length f
  room_at = place_room f st.running.method st.place good.accepted sure.below (in_is_place f st.running.method st.place sure.stands)

  -- and an instruction
  pub not_nothing : decode (drop st.place f) ≡ None → ⊥
  not_nothing e =
      let r = reads f s good st.running.method st.place sure.below sure.stands sure.few in
      some_none (sym r.1 ∙ e)

  -- the operands are no more than the method's peak
  pub below_peak : length st.running.operands ≤ number s (entry st.running.method)
  below_peak =
      let e = good.facts.peaks st.running.method sure.below in
      let h = peak_above f s st.running.method st.place sure.stands sure.few in
      let l = sure.level in
      omega arith

module _ (f s : List ℕ) (good : Good f s) (x : Fed) (sure : Sure f s x.state) (i : Instruction) (here : decode (drop x.state.place f) ≡ Some i) where
  abbrev p : ℕ
  p = x.state.place

  pub encoded : Encodes f p i
  encoded = encodes_at f p i here

  pub next_here : next f p ≡ p + length_of (opcode_of i)
  next_here = next_is f p (opcode_of i) encoded.opcode

  -- it is not IN, so the machine does not wait for a unit
  pub not_awaiting : eqb (opcode_of i) 0xF0 ≡ false → awaits_input f x ≡ false
  not_awaiting e = and_right (none_left x.feed) (eqb (byte f p) 0xF0) (ap (λ (c : ℕ). eqb c 0xF0) (sym encoded.opcode) ∙ e)

  -- it finds the values that it takes
  pub finds : takes_as f p (opcode_of i) ≤ length x.state.running.operands
  finds = subst (λ (n : ℕ). takes_as f p (opcode_of i) ≤ n) (sym sure.level) (enough f s good x sure (opcode_of i) encoded.opcode)

  -- it is done, and what held before it holds after it
  pub done : awaits_input f x ≡ false → (y : Fed) → execute f x i x.state.running.operands ≡ Some y → (executed f s x ≡ Some y) × Sure f s y.state
  done n y e = (
    ap (λ (b : Bool). cond b (execute_if f s x (decode (drop p f))) None) (in_is_place f x.state.running.method p sure.stands)
        ∙ ap (λ (o : Option Instruction). execute_if f s x o) here
        ∙ ap (within_peak s) e ∙ within f s good y after,
    after,
  )
    where
      after : Sure f s y.state
      after = subst (Made f s) e (does f s good x sure n i encoded x.state.running.operands sure.level)
