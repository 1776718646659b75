-- The cells of a run hold its frames; and main's frame, where it fits, holds what a sound interpreter does. Assumes nothing.
use Rattle.std.proofs.Common.{◌≡◌, ℕ, ◌+◌, ◌<◌, ◌≤◌, true, List, ◌∷◌, length, take, Some, None, Option, refl, ap, ◌∙◌, subst, arith}
use Rattle.std.proofs.lemmas.Bool.{and_from, leb-true}
use Rattle.format.specs.Layout.{entry, parameters, locals}
use Rattle.verifier.specs.Numbering.{number, Admitted}
use Rattle.verifier.proofs.Peaks.{entry_low}
use Rattle.machine.specs.declared.stop.End.{End}
use Rattle.machine.specs.Machine.{State, main}
use Rattle.machine.specs.Go.{top, frame_need, cells_used, begins}
use Rattle.machine.specs.Cells.{cells_of}
use Rattle.machine.proofs.Invariant.{Good, good_from, Sure}
use Rattle.machine.proofs.Level.{sure_main}
use Rattle.frames.specs.declared.Frames.{Frames}
use Rattle.frames.specs.Frames.{running, waiting, size}
use Rattle.frames.proofs.Parts.{cells_are, ends}
use Rattle.run.specs.Sound.{all_fit, sound}
use Rattle.run.proofs.Ready.{sound_of}
use Rattle.run.proofs.Steps.{carry}

some_is : {A : Type 0} {a b : A} → ◌≡◌ {A = Option A} (Some a) (Some b) → a ≡ b
some_is e = cc

-- of frames that a state has
pub holds : (x : Frames) (p n : ℕ) (o : Option End) (st : State) →
    ◌≡◌ {A = Option State} (Some (record { running = running x; waiting = waiting x; place = p; mode = n; ended = o })) (Some st) → take (top st) x.cells.now ≡ cells_of st
holds x p n o st e =
    subst (λ (t : State). take (top t) x.cells.now ≡ cells_of t) (some_is e)
    (ap (λ (k : ℕ). take k x.cells.now) (ends x) ∙ cells_are x)

-- main has no parameters, its peak is on the sheet, and where its frame fits its locals do
module _ (f s : List ℕ) (a : Admitted f s) where
  g : Good f s
  g = good_from f s a

  pub main_plain : parameters f 0 ≡ 0
  main_plain = g.facts.layout.main

  pub main_peak : entry 0 < length s
  main_peak =
      let l = entry_low f 0 g.facts.layout.some in
      let t = g.facts.layout.tables in
      let n = g.facts.long in
      omega arith

  pub main_room : (n : ℕ) → begins f s n ≡ true → 3 + locals f 0 ≤ cells_used n
  main_room n e =
      tight (parameters f 0) (locals f 0) (number s (entry 0)) (cells_used n) (leb-true (frame_need f s 0 0) (cells_used n) e)
    where
      tight : (p l k c : ℕ) → 0 + 3 + p + l + k ≤ c → 3 + l ≤ c
      tight p l k c h = omega arith

  -- frames at main's start
  pub main_sound : (x : Frames) (p : ℕ) → x.file.now ≡ f → begins f s (size x) ≡ true →
      ◌≡◌ {A = State} (record { running = running x; waiting = waiting x; place = p; mode = 0; ended = None }) (main f) → sound x s p ≡ true
  main_sound x p ef fits q =
      sound_of x s p 0 None
      (carry (λ f s _ _. Admitted f s) {n = 0} ef refl refl q a)
      (carry (λ f s _ t. Sure f s t) {n = 0} ef refl refl q (sure_main f s g))
      (carry (λ f s n t. all_fit f s n (t.running ∷ t.waiting) ≡ true) ef refl refl q (and_from _ _ fits refl))
