use Rattle.std.proofs.Common.{◌≡◌, ℕ, ◌++◌, string_bytes, fold}
use mathlib.Core.List.{Memᴰ}
use Rattle.bytecode.specs.Places.{places}
use Rattle.bytecode.specs.Walk.{left}
use Rattle.listing.specs.Code.{place_line, place_lines}
use Rattle.listing.proofs.program.Program.place_lines.Given as goal

abbrev pub invariant-loop-place : goal.invariant-loop-place
invariant-loop-place l =
    (fold (λ text p. text ++ place_line l.self.file.now l.self.sheet.now p) (string_bytes l.text) (left l.place-iterator) ≡ place_lines l.self.file.now l.self.sheet.now l.k) ×
    ((q : ℕ) → Memᴰ q (left l.place-iterator) → Memᴰ q (places l.self.file.now l.k))
