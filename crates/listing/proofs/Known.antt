-- The instruction at a place of a code that breaks no rule is known. Assumes nothing.
use Rattle.std.proofs.Common.{◌≡◌, ℕ, ◌+◌, ◌<◌, List, None, arith}
use Rattle.format.specs.Layout.{byte, methods}
use Rattle.format.proofs.Finds.{In}
use Rattle.bytecode.specs.Opcodes.{length_of}
use Rattle.bytecode.specs.Places.{places, code_end}
use Rattle.bytecode.specs.Rules.{code_refusal}
use Rattle.bytecode.proofs.Walks.{whole_ends}
use Rattle.verifier.proofs.CodeRules.{code_kept}

pub known : (f : List ℕ) (k p : ℕ) → code_refusal f ≡ None → k < methods f → In p (places f k) → 0 < length_of (byte f p)
known f k p e l m = let w = whole_ends f (code_end f k) p ((code_kept f e).known k p l m) in positive p (length_of (byte f p)) w.0
  where
    positive : (p n : ℕ) → p < p + n → 0 < n
    positive p n h = omega arith
