-- What a sound interpreter holds, part by part. Assumes nothing.
use Rattle.std.proofs.Common.{◌≡◌, ℕ, ◌+◌, ◌-◌, Bool, true, not, ◌&&◌, eqb, ltb, leb, List, [], ◌∷◌, length, is_some, Some, None, Option, sym, refl, ap, subst, arith}
use Rattle.std.proofs.lemmas.Bool.{and_parts, and_from, ltb-true, leb-true, eqb-true, lt-ltb, le-leb, eq-eqb}
use Rattle.format.specs.Layout.{byte, methods, parameters, locals}
use Rattle.bytecode.specs.Places.{is_place}
use Rattle.verifier.specs.Numbering.{number, admit_refusal, Admitted}
use Rattle.verifier.proofs.Places.{in_is_place, is_place_in}
use Rattle.machine.specs.declared.stop.End.{End}
use Rattle.machine.specs.Machine.{Frame, State}
use Rattle.machine.proofs.Invariant.{Good, good_from, Called, Stack, Sure}
use Rattle.frames.specs.declared.Frames.{Frames}
use Rattle.frames.specs.Frames.{running, waiting, size}
use Rattle.run.specs.declared.interpreter.Interpreter.{Interpreter}
use Rattle.run.specs.Sound.{has_variables, waits_for, all_wait, level, all_fit, sound}
use Rattle.run.specs.Standing.{program, numbers, cells, state_of}

-- several tests that all hold
two : (a b : Bool) → (a && b) ≡ true → (a ≡ true) × (b ≡ true)
two a b e = and_parts a b e

three : (a b c : Bool) → (a && b && c) ≡ true → (a ≡ true) × (b ≡ true) × (c ≡ true)
three a b c e = let h = two (a && b) c e in let k = two a b h.0 in (k.0, k.1, h.1)

four : (a b c d : Bool) → (a && b && c && d) ≡ true → (a ≡ true) × (b ≡ true) × (c ≡ true) × (d ≡ true)
four a b c d e = let h = two (a && b && c) d e in let k = three a b c h.0 in (k.0, k.1, k.2, h.1)

all_four : (a b c d : Bool) → a ≡ true → b ≡ true → c ≡ true → d ≡ true → (a && b && c && d) ≡ true
all_four a b c d p q r s = and_from (a && b && c) d (and_from (a && b) c (and_from a b p q) r) s

module _ (f s : List ℕ) where
  -- a frame that waits
  called_from : (k b : ℕ) (c : Frame) → waits_for f s k b c ≡ true → Called f s k b c
  called_from k b c e =
      let h = four (leb 2 b && ltb c.method (methods f) && is_place f c.method (b - 2) && leb (number s (b - 2)) 255 && eqb (byte f (b - 2)) 0xB6) (eqb (byte f (b - 2 + 1)) k) (has_variables f c) (eqb (length c.operands + parameters f k) (number s (b - 2))) e in
      let i = four (leb 2 b && ltb c.method (methods f)) (is_place f c.method (b - 2)) (leb (number s (b - 2)) 255) (eqb (byte f (b - 2)) 0xB6) h.0 in
      let j = two (leb 2 b) (ltb c.method (methods f)) i.0 in
      let l = leb-true 2 b j.0 in
      record {
        site = b - 2;
        return_place = omega arith;
        below = ltb-true c.method (methods f) j.1;
        stands = is_place_in f c.method (b - 2) i.1;
        few = leb-true (number s (b - 2)) 255 i.2;
        calls = sym (eqb-true (byte f (b - 2)) 0xB6 i.3);
        callee = eqb-true (byte f (b - 2 + 1)) k h.1;
        wide = eqb-true (length c.variables) (parameters f c.method + locals f c.method) h.2;
        level = eqb-true (length c.operands + parameters f k) (number s (b - 2)) h.3;
      }

  called_to : (k b : ℕ) (c : Frame) → Called f s k b c → waits_for f s k b c ≡ true
  called_to k b c h =
      let r = h.return_place in
      let e : h.site ≡ b - 2 = omega arith in
      at (b - 2) e
    where
      at : (q : ℕ) → h.site ≡ q →
          (leb 2 b && ltb c.method (methods f) && is_place f c.method q && leb (number s q) 255 && eqb (byte f q) 0xB6 && eqb (byte f (q + 1)) k && has_variables f c && eqb (length c.operands + parameters f k) (number s q)) ≡ true
      at q e =
          subst (λ (q : ℕ). (leb 2 b && ltb c.method (methods f) && is_place f c.method q && leb (number s q) 255 && eqb (byte f q) 0xB6 && eqb (byte f (q + 1)) k && has_variables f c && eqb (length c.operands + parameters f k) (number s q)) ≡ true) e
          (all_four _ _ _ _
          (all_four _ _ _ _
          (and_from _ _ (le-leb 2 b (let r = h.return_place in omega arith)) (lt-ltb c.method (methods f) h.below))
          (in_is_place f c.method h.site h.stands)
          (le-leb (number s h.site) 255 h.few)
          (eq-eqb (byte f h.site) 0xB6 (sym h.calls)))
          (eq-eqb (byte f (h.site + 1)) k h.callee)
          (eq-eqb (length c.variables) (parameters f c.method + locals f c.method) h.wide)
          (eq-eqb (length c.operands + parameters f k) (number s h.site) h.level))

  stack_from : (k b : ℕ) (cs : List Frame) → all_wait f s k b cs ≡ true → Stack f s k b cs
  stack_from k b [] e = tt
  stack_from k b (c ∷ cs) e =
      let h = two (waits_for f s k b c) (all_wait f s c.method c.return_place cs) e in
      (called_from k b c h.0, stack_from c.method c.return_place cs h.1)

  stack_to : (k b : ℕ) (cs : List Frame) → Stack f s k b cs → all_wait f s k b cs ≡ true
  stack_to k b [] h = refl
  stack_to k b (c ∷ cs) h = and_from _ _ (called_to k b c h.0) (stack_to c.method c.return_place cs h.1)

  sure_from : (x : State) → level f s x.running x.waiting x.place ≡ true → Sure f s x
  sure_from x e =
      let h = four (ltb x.running.method (methods f) && is_place f x.running.method x.place && leb (number s x.place) 255) (eqb (length x.running.operands) (number s x.place)) (has_variables f x.running) (all_wait f s x.running.method x.running.return_place x.waiting) e in
      let i = three (ltb x.running.method (methods f)) (is_place f x.running.method x.place) (leb (number s x.place) 255) h.0 in
      record {
        below = ltb-true x.running.method (methods f) i.0;
        stands = is_place_in f x.running.method x.place i.1;
        few = leb-true (number s x.place) 255 i.2;
        level = eqb-true (length x.running.operands) (number s x.place) h.1;
        wide = eqb-true (length x.running.variables) (parameters f x.running.method + locals f x.running.method) h.2;
        stack = stack_from x.running.method x.running.return_place x.waiting h.3;
      }

  sure_to : (x : State) → Sure f s x → level f s x.running x.waiting x.place ≡ true
  sure_to x h =
      all_four _ _ _ _
      (and_from _ _ (and_from _ _ (lt-ltb x.running.method (methods f) h.below) (in_is_place f x.running.method x.place h.stands)) (le-leb (number s x.place) 255 h.few))
      (eq-eqb (length x.running.operands) (number s x.place) h.level)
      (eq-eqb (length x.running.variables) (parameters f x.running.method + locals f x.running.method) h.wide)
      (stack_to x.running.method x.running.return_place x.waiting h.stack)

pub record Ready (m : Interpreter) : Type 0 where
  pub admitted : Admitted (program m) (numbers m)
  pub sure : Sure (program m) (numbers m) (state_of m)
  pub fit : all_fit (program m) (numbers m) (cells m) (running m.frames ∷ waiting m.frames) ≡ true

none : {A : Type 0} (o : Option A) → not (is_some o) ≡ true → o ≡ None
none None e = refl
none (Some x) e = cc

pub ready : (m : Interpreter) → Ready m
unfolding sound
ready m =
    let h = three (not (is_some (admit_refusal (program m) (numbers m)))) (level (program m) (numbers m) (running m.frames) (waiting m.frames) m.place) (all_fit (program m) (numbers m) (cells m) (running m.frames ∷ waiting m.frames)) m.sound in
    record { admitted = none (admit_refusal (program m) (numbers m)) h.0; sure = sure_from (program m) (numbers m) (state_of m) h.1; fit = h.2 }

pub sound_of : (x : Frames) (s : List ℕ) (p n : ℕ) (o : Option End) → Admitted x.file.now s →
    Sure x.file.now s (record { running = running x; waiting = waiting x; place = p; mode = n; ended = o }) →
    all_fit x.file.now s (size x) (running x ∷ waiting x) ≡ true → sound x s p ≡ true
unfolding sound
sound_of x s p n o a sure fit =
    and_from _ _ (and_from _ _ (ap (λ o. not (is_some o)) a)
    (sure_to x.file.now s (record { running = running x; waiting = waiting x; place = p; mode = n; ended = o }) sure)) fit

pub good : (m : Interpreter) → Good (program m) (numbers m)
good m = good_from (program m) (numbers m) (ready m).admitted
