-- The worklist of a method as the code begins it. Assumes nothing.
use Rattle.std.proofs.Common.{◌≡◌, ℕ, ◌<◌, ◌≤◌, true, ltb, eqb, List, [], ◌∷◌, length, set, refl, ap, ◌∙◌, arith}
use Rattle.std.proofs.lemmas.Bool.{lt-ltb, eq-eqb}
use Rattle.format.specs.Layout.{methods, code_address}
use Rattle.format.specs.Parts.{Accepted}
use Rattle.bytecode.specs.Places.{code_end}
use Rattle.bytecode.proofs.Turns.{place_fits}
use Rattle.verifier.specs.declared.pending.Pending.{Pending}
use Rattle.verifier.specs.Numbering.{blank, number}
use Rattle.verifier.specs.Worklist.{Work, pend_if, turns_left, Spreads, ClosedTo, OnlyMethod}
use Rattle.verifier.proofs.Places.{start_inside, start_is_place}
use Rattle.verifier.proofs.Turns.{work, pending, only_start}
use Rattle.verifier.proofs.Methods.{closed_blank, loop_begins}

-- what the loop keeps: from the sheet s, before the method's start has its number, to the sheet t
abbrev pub Going : List ℕ → ℕ → List ℕ → List ℕ → List Pending → ℕ → Type 0
Going f k s t ps cap = Spreads f k (work t ps) × OnlyMethod f k s t × (turns_left f k (work t ps) ≤ cap)

module _ (f : List ℕ) (g : Accepted f) (k : ℕ) (l : k < methods f) where
  -- a line that is empty has room for the start
  pub start_room : (ps : List Pending) (cap : ℕ) → ps ≡ [] → length f ≤ cap → length ps < cap
  start_room ps cap n room = let i = start_inside f g k l in let y : length ps ≡ 0 = ap length n in omega arith

  -- the start is still blank, so it gets its number and waits
  opens : (s : List ℕ) → ClosedTo f k s → pend_if (ltb (code_address f k) (code_end f k)) 0 (work s []) (code_address f k) ≡ work (set s (code_address f k) 0) (pending (code_address f k) 0 ∷ [])
  opens s c =
      let m = start_is_place f g k l in
      let i : ltb (code_address f k) (code_end f k) ≡ true = lt-ltb (code_address f k) (code_end f k) (place_fits f k (code_address f k) g l m).0 in
      let b : eqb (number s (code_address f k)) blank ≡ true = eq-eqb (number s (code_address f k)) blank (closed_blank f g k s c l (code_address f k) m) in
      rw (i, b) refl

  pub begins : (s : List ℕ) (a e : ℕ) (ps : List Pending) (w : Work) (cap cap' : ℕ) → ClosedTo f k s → a ≡ code_address f k → e ≡ code_end f k → ps ≡ [] → length f ≤ cap → cap' ≡ cap →
      w ≡ pend_if (ltb a e) 0 (work s ps) a → Going f k s w.sheet w.pending cap'
  begins s a e ps w cap cap' c is ends n room same h =
      let b = loop_begins f g k l s c in
      let o : w ≡ work (set s (code_address f k) 0) (pending (code_address f k) 0 ∷ []) = h ∙ (rw (is, ends, n) (opens s c)) in
      rw o (b.0, only_start f g k l s, let t = b.1 in omega arith)
