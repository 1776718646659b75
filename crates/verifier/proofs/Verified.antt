-- What an admitted file and its sheet are, in plain facts. Assumes nothing.
use Rattle.std.proofs.Common.{◌≡◌, ℕ, ◌<◌, ◌≤◌, List, length}
use Rattle.format.specs.Layout.{methods, entry, code_address}
use Rattle.format.specs.Sound.{Sound}
use Rattle.format.proofs.Finds.{In}
use Rattle.format.proofs.Sounds.{sound}
use Rattle.bytecode.specs.Places.{places}
use Rattle.verifier.specs.Numbering.{number, peak, Admitted}
use Rattle.verifier.specs.Verdicts.{KeepsRule}
use Rattle.verifier.proofs.Places.{start_is_place}
use Rattle.verifier.proofs.CodeRules.{CodeKept, code_kept}
use Rattle.verifier.proofs.Rule.{keeps_rule}
use Rattle.verifier.proofs.Refusals.{admits}

pub record Verified (f s : List ℕ) : Type 0 where
  pub layout : Sound f
  pub code : CodeKept f
  pub opens : (k : ℕ) → k < methods f → In (code_address f k) (places f k)
  pub long : length f ≤ length s
  pub rule : (k : ℕ) → k < methods f → KeepsRule f k (number s)
  pub peaks : (k : ℕ) → k < methods f → number s (entry k) ≡ peak f s k

pub verified : (f s : List ℕ) → Admitted f s → Verified f s
verified f s a =
    let h = admits f s a in
    record {
      layout = sound f h.accepted;
      code = code_kept f h.code;
      opens = start_is_place f h.accepted;
      long = h.long;
      rule = keeps_rule f h.accepted s h.kept;
      peaks = h.peaks;
    }
