-- Which instruction stands at the place, by its bytes. Assumes nothing.
use Rattle.std.proofs.Common.{◌≡◌, ℕ, ◌+◌, Bool, true, false, cond, not, ◌&&◌, eqb, leb, List, [], length, drop, Some, None, sym, refl, ap, ◌∙◌}
use Rattle.format.specs.Layout.{byte, be16}
use Rattle.bytecode.specs.declared.instruction.Instruction.{Instruction}
use Rattle.bytecode.specs.Opcodes.{rows, find, index_in, number_in, length_of}
use Rattle.bytecode.specs.Encoding.{opcode_of}
use Rattle.bytecode.proofs.Decoding.{first_byte, byte_at, number_at}
use Rattle.machine.specs.Machine.{fed}
use Rattle.machine.proofs.Invariant.{reads}
use Rattle.machine.proofs.Doing.{not_nothing, encoded}
use Rattle.run.specs.declared.interpreter.Interpreter.{Interpreter}
use Rattle.run.specs.Standing.{program, numbers, state_of, stands}
use Rattle.run.proofs.Ready.{ready, good}

module _ (m : Interpreter) where
  abbrev bytes : List ℕ
  bytes = drop m.place (program m)

  -- there is an instruction, so it is the one that its opcode's row reads
  read : stands m ≡ (find (byte bytes 0) rows).read bytes
  read = go (not (eqb (length_of (byte bytes 0)) 0) && leb (length_of (byte bytes 0)) (length bytes)) there
    where
      there : stands m ≡ None → ⊥
      there = let h = ready m in not_nothing (program m) (numbers m) (good m) (state_of m) h.sure

      go : (b : Bool) → (cond b ((find (byte bytes 0) rows).read bytes) None ≡ None → ⊥) → cond b ((find (byte bytes 0) rows).read bytes) None ≡ (find (byte bytes 0) rows).read bytes
      go true h = refl
      go false h = absurd (h refl)

  -- of the opcode c
  module _ (c : ℕ) (here : c ≡ byte (program m) m.place) where
    pub standing : stands m ≡ (find c rows).read bytes
    standing = read ∙ ap (λ (k : ℕ). (find k rows).read bytes) (first_byte (program m) m.place ∙ sym here)

    -- with an index, with a number, and with both
    pub standing_index : (i : ℕ → Instruction) → (find c rows).read bytes ≡ Some (i (index_in bytes)) → (k : ℕ) → k ≡ byte (program m) (m.place + 1) → stands m ≡ Some (i k)
    standing_index i e k q = standing ∙ e ∙ ap (λ (j : ℕ). Some (i j)) (byte_at (program m) m.place 1 ∙ sym q)

    pub standing_number : (i : ℕ → Instruction) → (find c rows).read bytes ≡ Some (i (number_in bytes)) → (k : ℕ) → k ≡ be16 (program m) (m.place + 1) → stands m ≡ Some (i k)
    standing_number i e k q = standing ∙ e ∙ ap (λ (j : ℕ). Some (i j)) (number_at (program m) m.place 1 ∙ sym q)

    pub standing_both : (i : ℕ → ℕ → Instruction) → (find c rows).read bytes ≡ Some (i (index_in bytes) (be16 bytes 2)) →
        (j k : ℕ) → j ≡ byte (program m) (m.place + 1) → k ≡ be16 (program m) (m.place + 2) → stands m ≡ Some (i j k)
    standing_both i e j k p q =
        standing ∙ e ∙ ap (λ (t : ℕ). Some (i t (be16 bytes 2))) (byte_at (program m) m.place 1 ∙ sym p) ∙
        ap (λ (t : ℕ). Some (i j t)) (number_at (program m) m.place 2 ∙ sym q)

    -- some instruction has the opcode
    pub has_opcode : (i : Instruction) × (stands m ≡ Some i) × (opcode_of i ≡ c)
    has_opcode =
        let h = ready m in
        let r = reads (program m) (numbers m) (good m) (state_of m).running.method m.place h.sure.below h.sure.stands h.sure.few in
        (r.0, r.1, (encoded (program m) (numbers m) (good m) (fed (state_of m) [] []) h.sure r.0 r.1).opcode ∙ sym here)
