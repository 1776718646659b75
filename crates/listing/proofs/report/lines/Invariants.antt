use Rattle.std.proofs.Common.{◌≡◌, ℕ, ◌<◌, List, string_bytes, IfOk}
use Rattle.listing.specs.Lines.{lines}
use Rattle.listing.proofs.report.lines.Given as goal

abbrev pub invariant-loop-index : goal.invariant-loop-index
invariant-loop-index g l = (each : ℕ → List ℕ) → ((index : ℕ) → index < l.fn.count → (text : _) → goal.F-post g l.line index text → IfOk text (λ s. string_bytes s ≡ each index)) → string_bytes l.text ≡ lines each l.index
