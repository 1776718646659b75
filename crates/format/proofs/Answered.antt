-- Each part of an accepted file is there just where its index is inside its table. Assumes nothing.
use Rattle.std.proofs.Common.{◌≡◌, ℕ, zero, suc, ◌+◌, ◌<◌, ◌≤◌, Bool, true, false, cond, ltb, leb, List, length, is_some, Some, None, Option, sym, refl, ◌∙◌, inl, inr, add-one, arith}
use Rattle.std.specs.Option.{option_map}
use Rattle.std.proofs.lemmas.Bool.{cases_lt}
use Rattle.std.proofs.lemmas.Bool.Decides.{nat_tests}
use Rattle.format.specs.Layout.{methods, constants, messages, constant_address, code_due, code_size, code_address, debug_address, name_size, message_due, message_size, program_address, program_size, code_more, debug_none}
use Rattle.format.specs.Parts.{Accepted, Piece, piece, within, among, program_name, method_name, method_code, constant, message}
use Rattle.format.proofs.Finds.{some_none}
use Rattle.format.proofs.Sounds.{sound}

-- the code of a method ends where that of a later one begins, or before
pub code_before : (f : List ℕ) (i m : ℕ) → i < m → code_due f i + code_size f i ≤ code_due f m
code_before f i zero l = absurd (omega arith)
code_before f i (suc m) l =
    elim (cases_lt i m) [
      | inl q ↦ let t : code_due f i + code_size f i ≤ code_due f m = code_before f i m q in rw (sym (add-one m), code_more f m) (omega arith)
      | inr q ↦ let z : m ≡ i = omega arith in rw (z, sym (add-one i), code_more f i) (omega arith)
    ]

-- all code lies before the debug blocks, and so inside the file
pub code_fits : (f : List ℕ) (i : ℕ) → Accepted f → i < methods f → code_address f i + code_size f i ≤ length f
code_fits f i h l =
    let s = sound f h in
    let a = (s.method i l).code in
    let b = code_before f i (methods f) l in
    let w = (s.method 0 s.some).whole in
    let e = debug_none f in
    omega arith

within_fits : (f : List ℕ) (place size : ℕ) → place + size ≤ length f → is_some (within f place size) ≡ true
within_fits f place size l = grind (arith, nat_tests)

-- an index inside its table has its part, any other none
part_there : (f : List ℕ) (i count place size : ℕ) → (i < count → place + size ≤ length f) → is_some (among i count (within f place size)) ≡ ltb i count
part_there f i count place size h =
    elim (cases_lt i count) [
      | inl l ↦ let t = h l in grind (arith, nat_tests)
      | inr l ↦ grind (arith, nat_tests)
    ]

same_there : {A B : Type 0} (g : A → B) (o : Option A) → is_some (option_map g o) ≡ is_some o
same_there g (Some x) = refl
same_there g None = refl

-- what is answered by its parts' definition is there where the definition says
pub there : {A : Type 0} (see : A → Piece) (o : Option A) (p : Option Piece) (b : Bool) → option_map see o ≡ p → is_some p ≡ b → is_some o ≡ b
there see o p b e h = sym (same_there see o) ∙ rw e h

pub program_name_there : (f : List ℕ) → Accepted f → is_some (program_name f) ≡ true
program_name_there f h = let s = sound f h in let e = s.end in within_fits f (program_address f) (program_size f) (omega arith)

pub method_name_there : (f : List ℕ) (i : ℕ) → Accepted f → is_some (method_name f i) ≡ ltb i (methods f)
method_name_there f i h = part_there f i (methods f) (debug_address f i + 3) (name_size f i) (λ l. let m = (sound f h).method i l in let d = m.debug in let w = m.whole in omega arith)

pub method_code_there : (f : List ℕ) (i : ℕ) → Accepted f → is_some (method_code f i) ≡ ltb i (methods f)
method_code_there f i h = part_there f i (methods f) (code_address f i) (code_size f i) (λ l. code_fits f i h l)

pub constant_there : (f : List ℕ) (i : ℕ) → Accepted f → is_some (constant f i) ≡ ltb i (constants f)
constant_there f i h = part_there f i (constants f) (constant_address f i) 2 (λ l. let t = (sound f h).tables in omega arith)

pub message_there : (f : List ℕ) (i : ℕ) → Accepted f → is_some (message f i) ≡ ltb i (messages f)
message_there f i h = part_there f i (messages f) (message_due f i + 2) (message_size f i) (λ l. let w = ((sound f h).message i l).whole in omega arith)

-- what an answer holds, once it is there
pub found_within : (f : List ℕ) (place size : ℕ) (p : Piece) → Some p ≡ within f place size → p ≡ piece f place size
found_within f place size p e = go (leb (place + size) (length f)) e
  where
    go : (b : Bool) → Some p ≡ cond b (Some (piece f place size)) None → p ≡ piece f place size
    go true e = cc
    go false e = absurd (some_none e)

pub found_among : {A : Type 0} (i count : ℕ) (o : Option A) (x : A) → Some x ≡ among i count o → Some x ≡ o
found_among i count o x e = go (ltb i count) e
  where
    go : (b : Bool) → Some x ≡ cond b o None → Some x ≡ o
    go true e = e
    go false e = absurd (some_none e)
