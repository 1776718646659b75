-- Instructions by what they do to the operands on top. Assumes nothing.
use Rattle.std.proofs.Common.{◌≡◌, ℕ, ◌+◌, ◌<◌, ◌≤◌, Bool, true, false, cond, ◌||◌, eqb, List, ◌∷◌, length, Some, sym, refl, ap, ◌∙◌, subst}
use Rattle.std.proofs.lemmas.Bool.{or_parts, not-true}
use Rattle.bytecode.specs.declared.instruction.Instruction.{Instruction}
use Rattle.bytecode.specs.Opcodes.{length_of, takes_of, target}
use Rattle.bytecode.specs.Encoding.{opcode_of}
use Rattle.bytecode.specs.Places.{next}
use Rattle.format.specs.Layout.{byte, parameters}
use Rattle.machine.specs.Machine.{fed, execute, with_operands}
use Rattle.frames.specs.declared.Frames.{Frames}
use Rattle.frames.specs.Frames.{running, waiting, kept_refl, Kept}
use Rattle.run.specs.declared.interpreter.Interpreter.{Interpreter}
use Rattle.run.specs.Standing.{program, state_of, stands}
use Rattle.run.specs.Done.{is_free, Idles, Combines, Branches}
use Rattle.run.proofs.Steps.{Reached, next_is, Proceeds, continued, taken}

-- what is free is neither a call nor IN
pub no_call : (c : ℕ) → is_free c ≡ true → eqb c 0xB6 ≡ false
no_call c free = (or_parts (eqb c 0xB6) (eqb c 0xF0 || (eqb c 0xF1 || false)) (not-true _ free)).0

pub no_in : (c : ℕ) → is_free c ≡ true → eqb c 0xF0 ≡ false
no_in c free = (or_parts (eqb c 0xF0) (eqb c 0xF1 || false) (or_parts (eqb c 0xB6) (eqb c 0xF0 || (eqb c 0xF1 || false)) (not-true _ free)).1).0

module _ (m : Interpreter) (i : Instruction) (here : stands m ≡ Some i) (free : is_free (opcode_of i) ≡ true) where
  -- the place after it, by its length
  after : (n : ℕ) → length_of (opcode_of i) ≡ n → m.place + n ≡ next (program m) m.place
  after n size = ap (λ (k : ℕ). m.place + k) (sym size) ∙ sym (next_is m i here)

  -- the operands that it takes are there
  pub takes_there : (k : ℕ) → takes_of (opcode_of i) ≡ k → k ≤ length (running m.frames).operands
  takes_there k takes =
      subst (λ (n : ℕ). n ≤ length (running m.frames).operands) takes
      (subst (λ (b : Bool). cond b (parameters (program m) (byte (program m) (m.place + 1))) (takes_of (opcode_of i)) ≤ length (running m.frames).operands)
      (no_call (opcode_of i) free) (taken m i here))

  pub idled : length_of (opcode_of i) ≡ 1 → Idles (program m) i → Reached m m.frames (m.place + 1) m.mode m.ended
  idled size idles =
      continued m i here (no_in (opcode_of i) free) (running m.frames) (next (program m) m.place)
      (λ us vs. idles (fed (state_of m) us vs) (running m.frames).operands) refl
      m.frames (m.place + 1) (kept_refl m.frames) refl refl (after 1 size)

  module _ (p : ℕ → ℕ → ℕ → Type 0) (combines : Combines p (program m) i) (u v r : ℕ) (w : List ℕ) (low : u < 65536) (high : v < 65536)
      (gives : p u v r) (top : (running m.frames).operands ≡ v ∷ u ∷ w) where
    pub combines_to : Proceeds m i here (no_in (opcode_of i) free) (r ∷ w)
    combines_to us vs = ap (execute (program m) (fed (state_of m) us vs) i) top ∙ combines (fed (state_of m) us vs) u v w r low high gives

    pub combined : length_of (opcode_of i) ≡ 1 → (y : Frames) → Kept m.frames y → running y ≡ with_operands (running m.frames) (r ∷ w) →
        waiting y ≡ waiting m.frames → Reached m y (m.place + 1) m.mode m.ended
    combined size y k er ew =
        continued m i here (no_in (opcode_of i) free) (with_operands (running m.frames) (r ∷ w)) (next (program m) m.place) combines_to refl
        y (m.place + 1) k er ew (after 1 size)

  module _ (p : ℕ → Bool → Type 0) (o : ℕ) (branches : Branches p o (program m) i) (v : ℕ) (w : List ℕ) (b : Bool) (low : v < 65536)
      (gives : p v b) (top : (running m.frames).operands ≡ v ∷ w) where
    pub branched : length_of (opcode_of i) ≡ 3 → (y : Frames) → Kept m.frames y → running y ≡ with_operands (running m.frames) w →
        waiting y ≡ waiting m.frames → (q : ℕ) → q ≡ cond b (target m.place o) (m.place + 3) → Reached m y q m.mode m.ended
    branched size y k er ew q way =
        continued m i here (no_in (opcode_of i) free) (with_operands (running m.frames) w) (cond b (target m.place o) (next (program m) m.place))
        (λ us vs. ap (execute (program m) (fed (state_of m) us vs) i) top ∙ branches (fed (state_of m) us vs) v w b low gives) refl
        y q k er ew (way ∙ ap (λ (n : ℕ). cond b (target m.place o) n) (after 3 size))
