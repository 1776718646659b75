-- A file is accepted just if its layout is sound. Assumes nothing.
use Rattle.std.proofs.Common.{◌≡◌, ℕ, ◌+◌, ◌<◌, ◌≤◌, false, List, is_ok, Ok, Err, Decides, Result, sym, refl, arith}
use Rattle.std.specs.Result.{result_err}
use Rattle.std.proofs.lemmas.Bool.Decides.{nat_tests}
use Rattle.refusals.specs.declared.Refusal.{Refusal}
use Rattle.format.specs.Layout.{methods, parameters, locals, name_size, program_size}
use Rattle.format.specs.Rules.{no_name, bad_variables, bad_code, bad_debug_block, bad_message, layout_refusal}
use Rattle.format.specs.Parts.{Accepted}
use Rattle.format.specs.Sound.{Name, Method, Message, Sound}
use Rattle.format.proofs.Kept.{Kept, kept, accepted}

name_from : (n : ℕ) → no_name n ≡ false → Name n
name_from n e = record { some = grind (arith, nat_tests); even = grind (arith, nat_tests) }

method_from : (f : List ℕ) (k : ℕ) → bad_variables f k ≡ false → bad_code f k ≡ false → bad_debug_block f k ≡ false → Method f k
method_from f k a b d =
    record {
      variables = grind (arith, nat_tests);
      code = grind (arith, nat_tests);
      some = grind (arith, nat_tests);
      debug = grind (arith, nat_tests);
      name = name_from (name_size f k) (grind (arith, nat_tests));
      whole = grind (arith, nat_tests);
    }

message_from : (f : List ℕ) (k : ℕ) → bad_message f k ≡ false → Message f k
message_from f k b = record { even = grind (arith, nat_tests); short = grind (arith, nat_tests); whole = grind (arith, nat_tests) }

sound_from : (f : List ℕ) → Kept f → Sound f
sound_from f h =
    let a = h.short in
    let b = h.magic in
    let c = h.version in
    let d = h.some in
    let e = h.tables in
    let m : 0 < methods f = grind (arith, nat_tests) in
    let v = h.variables 0 m in
    let n = h.name in
    record {
      short = grind (arith, nat_tests);
      magic = (grind (arith, nat_tests), grind (arith, nat_tests), grind (arith, nat_tests), grind (arith, nat_tests));
      version = grind (arith, nat_tests);
      some = grind (arith, nat_tests);
      tables = grind (arith, nat_tests);
      main = grind (arith, nat_tests);
      method = λ k l. method_from f k (h.variables k l) (h.code k l) (h.debug k l);
      message = λ k l. message_from f k (h.message k l);
      name = name_from (program_size f) (grind (arith, nat_tests));
      after = grind (arith, nat_tests);
      end = grind (arith, nat_tests);
    }

pub sound : (f : List ℕ) → Accepted f → Sound f
sound f h = sound_from f (kept f h)

no_name_from : (n : ℕ) → Name n → no_name n ≡ false
no_name_from n h = let a = h.some in let b = h.even in grind (arith, nat_tests)

variables_kept : (f : List ℕ) (k : ℕ) → parameters f k + locals f k ≤ 255 → parameters f 0 ≡ 0 → bad_variables f k ≡ false
variables_kept f k m z = grind (arith, nat_tests)

code_kept : (f : List ℕ) (k : ℕ) → Method f k → bad_code f k ≡ false
code_kept f k m =
    let a = m.code in
    let b = m.some in
    let d = m.debug in
    let w = m.whole in
    grind (arith, nat_tests)

debug_kept : (f : List ℕ) (k : ℕ) → Method f k → bad_debug_block f k ≡ false
debug_kept f k m =
    let n = no_name_from (name_size f k) m.name in
    let d = m.debug in
    let w = m.whole in
    grind (arith, nat_tests)

message_kept : (f : List ℕ) (k : ℕ) → Message f k → bad_message f k ≡ false
message_kept f k m =
    let a = m.even in
    let b = m.short in
    let w = m.whole in
    grind (arith, nat_tests)

kept_from : (f : List ℕ) → Sound f → Kept f
kept_from f h =
    let n : no_name (program_size f) ≡ false = no_name_from (program_size f) h.name in
    let y = h.after in
    let z = h.end in
    record {
      short = let a = h.short in grind (arith, nat_tests);
      header = let a = h.tables in grind (arith, nat_tests);
      magic = let a = h.magic in grind (arith, nat_tests);
      version = let a = h.version in grind (arith, nat_tests);
      some = let a = h.some in grind (arith, nat_tests);
      tables = let a = h.tables in grind (arith, nat_tests);
      variables = λ k l. variables_kept f k (h.method k l).variables h.main;
      code = λ k l. code_kept f k (h.method k l);
      debug = λ k l. debug_kept f k (h.method k l);
      message = λ k l. message_kept f k (h.message k l);
      name = grind (arith, nat_tests);
    }

-- a result that refuses as the rules say is an Ok just of a sound file
pub sound_decides : {X : Type 0} (r : Result X Refusal) (f : List ℕ) → result_err r ≡ layout_refusal f → Decides (is_ok r) (Sound f)
sound_decides (Ok x) f e = (λ _. sound f (sym e), λ _. refl)
sound_decides (Err y) f e = (
  λ h. let z : ◌≡◌ {A = ℕ} 0 1 = cc in absurd (omega arith),
  λ s. let a = accepted f (kept_from f s) in let z : ◌≡◌ {A = ℕ} 0 1 = cc in absurd (omega arith),
)
