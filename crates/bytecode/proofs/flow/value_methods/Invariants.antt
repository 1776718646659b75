use Rattle.std.proofs.Common.{◌≡◌, ℕ, ◌<◌, ◌≤◌, false, length, get_or}
use Rattle.bytecode.specs.Places.{holds}
use Rattle.bytecode.proofs.flow.value_methods.Given as goal

abbrev pub invariant-loop-k : goal.invariant-loop-k
invariant-loop-k l =
    (length l.returns_value ≡ 256) ×
    ((j : ℕ) → j < l.k → get_or l.returns_value j false ≡ holds l.file j 0xAC) ×
    ((j : ℕ) → l.k ≤ j → get_or l.returns_value j false ≡ false)
