-- What one instruction does to the interpreter of a run. Assumes nothing.
use Rattle.std.specs.Prelude.{◌≡◌, ℕ, ◌<◌, Bool, true, not, List, [], ◌∷◌, ◌++◌, Some}
use Rattle.bytecode.specs.declared.instruction.Instruction.{Instruction}
use Rattle.bytecode.specs.Opcodes.{length_of, takes_of}
use Rattle.bytecode.specs.Encoding.{opcode_of}
use Rattle.bytecode.specs.Places.{is}
use Rattle.machine.specs.Machine.{Fed, fed, proceed, branch, execute, executed}
use Rattle.frames.specs.Frames as stack
use Rattle.run.specs.declared.interpreter.Interpreter.{Interpreter}
use Rattle.run.specs.Standing.{program, numbers, state_of, stands}

-- the opcode of an instruction that neither the host nor the room on the stack can hinder: none of a call, IN and OUT
abbrev pub is_free : ℕ → Bool
is_free c = not (is c (0xB6 ∷ 0xF0 ∷ 0xF1 ∷ []))

-- the interpreter stays on its file, its sheet and its cells
pub record Kept (before after : Interpreter) : Type 0 where
  pub frames : stack.Kept before.frames after.frames
  pub sheet : numbers after ≡ numbers before

-- an instruction stands at the place that nothing hinders, of n bytes, which takes k operands, and of which P holds
abbrev pub Stands : Interpreter → ℕ → ℕ → (Instruction → Type 0) → Type 0
Stands m n k P =
    (i : Instruction) × (stands m ≡ Some i) × (is_free (opcode_of i) ≡ true) × (length_of (opcode_of i) ≡ n) × (takes_of (opcode_of i) ≡ k) × P i

-- nothing is done to the operands
abbrev pub Idles : List ℕ → Instruction → Type 0
Idles f i = (x : Fed) (w : List ℕ) → execute f x i w ≡ proceed f x w

-- what the operation p gives of the two operands on top, the lower one first, takes their place
abbrev pub Combines : (ℕ → ℕ → ℕ → Type 0) → List ℕ → Instruction → Type 0
Combines p f i = (x : Fed) (u v : ℕ) (w : List ℕ) (r : ℕ) → u < 65536 → v < 65536 → p u v r → execute f x i (v ∷ u ∷ w) ≡ proceed f x (r ∷ w)

-- the operand on top is taken off, and the test p of it says whether to jump
abbrev pub Branches : (ℕ → Bool → Type 0) → ℕ → List ℕ → Instruction → Type 0
Branches p o f i = (x : Fed) (v : ℕ) (w : List ℕ) (b : Bool) → v < 65536 → p v b → execute f x i (v ∷ w) ≡ branch f x b o w

-- the next instruction was done, and the host had no part in it
pub record Done (before after : Interpreter) : Type 0 where
  pub kept : Kept before after
  pub does : (us vs : List ℕ) → executed (program before) (numbers before) (fed (state_of before) us vs) ≡ Some (fed (state_of after) us vs)

-- IN was done with this unit
pub record Took (unit : ℕ) (before after : Interpreter) : Type 0 where
  pub kept : Kept before after
  pub does : (us vs : List ℕ) → executed (program before) (numbers before) (fed (state_of before) (unit ∷ us) vs) ≡ Some (fed (state_of after) us vs)

-- OUT was done with these units
pub record Wrote (units : List ℕ) (before after : Interpreter) : Type 0 where
  pub kept : Kept before after
  pub does : (us vs : List ℕ) → executed (program before) (numbers before) (fed (state_of before) us vs) ≡ Some (fed (state_of after) us (vs ++ units))
