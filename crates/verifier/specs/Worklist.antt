-- The worklist of check: a turn of it, what it has done in a sheet at each time, and when nothing is left to number. Assumes nothing.
use Rattle.std.specs.Prelude.{◌≡◌, ℕ, ◌+◌, ◌<◌, ◌≤◌, Bool, true, cond, ◌&&◌, ◌⊎◌, List, [], ◌∷◌, ◌++◌, length, fold, count_by, ◌==◌, nat_eq, slice_set}
use mathlib.Core.List.{Memᴰ}
use Rattle.format.specs.Layout.{methods, code_address}
use Rattle.bytecode.specs.Places.{places, is_place, successors}
use Rattle.verifier.specs.declared.pending.Pending.{Pending}
use Rattle.verifier.specs.Numbering.{blank, number, depth_after, balanced}
use Rattle.verifier.specs.Verdicts.{Counts}

-- the sheet, and what waits: first in, first out
pub record Work : Type 0 where
  pub sheet : List ℕ
  pub pending : List Pending

-- q gets the number d and waits, if it is inside and still blank
abbrev pub pend_if : Bool → ℕ → Work → ℕ → Work
pend_if inside d w q =
    cond (inside && number w.sheet q == blank)
    (record { sheet = slice_set w.sheet q d; pending = w.pending ++ (record { place = q; number = d } ∷ []) })
    w

-- inside means a place of method k
abbrev pub pend : List ℕ → ℕ → ℕ → Work → ℕ → Work
pend f k d w q = pend_if (is_place f k q) d w q

-- a turn: x, which waited, gives its result to its successors if it is balanced
abbrev pub turn : List ℕ → ℕ → Work → Pending → Work
turn f k w x = cond (balanced f x.place x.number) (fold (pend f k (depth_after f x.place x.number)) w (successors f x.place)) w

-- at most so many turns are left, and never more wait than that
abbrev pub turns_left : List ℕ → ℕ → Work → ℕ
turns_left f k w = length w.pending + count_by (λ p. nat_eq (number w.sheet p) blank) (places f k)

-- the entry of p is blank, or the depth of a way from method k's start
abbrev pub Counted : List ℕ → ℕ → List ℕ → ℕ → Type 0
Counted f k s p = (number s p ≡ blank) ⊎ ((number s p ≤ 255) × Counts f k p (number s p))

-- p is done with: if it is balanced, its successors in the method are numbered
abbrev pub Settled : List ℕ → ℕ → List ℕ → ℕ → Type 0
Settled f k s p = balanced f p (number s p) ≡ true → (q : ℕ) → Memᴰ q (successors f p) → Memᴰ q (places f k) → number s q ≤ 255

-- between the turns: what waits is a numbered place, and a numbered place waits or is done with
pub record Spreads (f : List ℕ) (k : ℕ) (w : Work) : Type 0 where
  pub long : length w.sheet ≡ length f
  pub starts : number w.sheet (code_address f k) ≡ 0
  pub counted : (p : ℕ) → Memᴰ p (places f k) → Counted f k w.sheet p
  pub waiting : (x : Pending) → Memᴰ x w.pending → Memᴰ x.place (places f k) × (number w.sheet x.place ≡ x.number) × (x.number ≤ 255)
  pub settled : (p : ℕ) → Memᴰ p (places f k) → number w.sheet p ≤ 255 → Memᴰ (record { place = p; number = number w.sheet p }) w.pending ⊎ Settled f k w.sheet p

-- nothing is left to number in method k
pub record Closed (f : List ℕ) (k : ℕ) (s : List ℕ) : Type 0 where
  pub starts : number s (code_address f k) ≡ 0
  pub counted : (p : ℕ) → Memᴰ p (places f k) → Counted f k s p
  pub settled : (p : ℕ) → Memᴰ p (places f k) → number s p ≤ 255 → Settled f k s p

-- the methods below i are closed, and all else is blank
pub record ClosedTo (f : List ℕ) (i : ℕ) (s : List ℕ) : Type 0 where
  pub long : length s ≡ length f
  pub closed : (k : ℕ) → k < i → Closed f k s
  pub others : (p : ℕ) → ((k : ℕ) → k < i → Memᴰ p (places f k) → ⊥) → number s p ≡ blank

-- nothing is left to number in the file
abbrev pub Complete : List ℕ → List ℕ → Type 0
Complete f s = ClosedTo f (methods f) s

-- the sheet t is the sheet s but for the places of method k
pub record OnlyMethod (f : List ℕ) (k : ℕ) (s t : List ℕ) : Type 0 where
  pub long : length t ≡ length s
  pub others : (p : ℕ) → (Memᴰ p (places f k) → ⊥) → number t p ≡ number s p
