-- Where the code of an accepted file lies. Assumes nothing.
use Rattle.std.proofs.Common.{ℕ, ◌+◌, ◌<◌, ◌≤◌, List, length, arith}
use Rattle.format.specs.Layout.{methods, debug_none}
use Rattle.format.specs.Parts.{Accepted}
use Rattle.format.proofs.Sounds.{sound}
use Rattle.format.proofs.Answered.{code_before}
use Rattle.bytecode.specs.Places.{code_end}

-- past the code of a method there are four bytes and more, those of a debug block
pub code_room : (f : List ℕ) (k : ℕ) → Accepted f → k < methods f → code_end f k + 4 ≤ length f
code_room f k h l =
    let s = sound f h in
    let a = (s.method k l).code in
    let b = code_before f k (methods f) l in
    let m = s.method 0 s.some in
    let w = m.whole in
    let n = m.name.some in
    let e = debug_none f in
    omega arith

pub file_short : (f : List ℕ) → Accepted f → length f < 65536
file_short f h = let s = (sound f h).short in omega arith
