-- What holds of all frames, part by part, and what it says of the cells. Assumes nothing.
use Rattle.std.proofs.Common.{◌≡◌, ℕ, zero, suc, ◌+◌, ◌-◌, ◌<◌, ◌≤◌, true, false, eqb, List, ◌∷◌, length, get_or, take, drop, sym, refl, ap, ◌∙◌, arith}
use Rattle.std.proofs.lemmas.List.{length-drop, length-take-le, length-reverse, take-take, get_or-take}
use Rattle.std.proofs.lemmas.Bool.{eqb-false}
use Rattle.machine.specs.Go.{frames_size, cells_used}
use Rattle.machine.specs.Cells.{frames_cells}
use Rattle.frames.specs.declared.Frames.{Frames}
use Rattle.frames.specs.Frames.{size, alone, running, waiting}
use Rattle.frames.specs.Laid.{variables_of, frame_at, frames_at, laid}
use Rattle.frames.proofs.Stack.{laid_more, size_is, depth_fits, cells_hold, alone_is}

-- what lies below a base is the same in the first `top` cells
module _ (f cells : List ℕ) (depth base top : ℕ) (le : base + 3 ≤ top) where
  pub method_below : get_or (take top cells) base 0 ≡ get_or cells base 0
  method_below = get_or-take top cells base 0 (omega arith)

  pub frames_below : frames_at f depth (take base (take top cells)) (get_or (take top cells) (base + 2) 0) ≡ frames_at f depth (take base cells) (get_or cells (base + 2) 0)
  frames_below =
      let a = get_or-take top cells (base + 2) 0 (omega arith) in
      let t = take-take base top cells (omega arith) in
      cc

  pub laid_below : laid f depth (take base (take top cells)) (get_or (take top cells) (base + 2) 0) ≡ laid f depth (take base cells) (get_or cells (base + 2) 0)
  laid_below =
      let a = get_or-take top cells (base + 2) 0 (omega arith) in
      let t = take-take base top cells (omega arith) in
      cc

-- the running frame is whole in the cells, and in those below the top
pub whole_below : (f cells : List ℕ) (base top : ℕ) → base + 3 + variables_of f (get_or cells base 0) ≤ top → top ≤ length cells →
    base + 3 + variables_of f (get_or (take top cells) base 0) ≤ length (take top cells)
whole_below f cells base top whole inside =
    let m = method_below f cells 0 base top (omega arith) in
    let n = ap (variables_of f) m in
    let l = length-take-le top cells inside in
    omega arith

-- all frames, with the running one
module _ (x : Frames) where
  low : x.base + 3 ≤ x.top
  low = omega (arith, x.whole)

  all_frames : frames_at x.file.now (suc x.depth) (take x.top x.cells.now) x.base ≡ running x ∷ waiting x
  unfolding running waiting
  all_frames = ap (λ rs. frame_at x.file.now (take x.top x.cells.now) x.base ∷ rs) (frames_below x.file.now x.cells.now x.depth x.base x.top low)

  all_laid : laid x.file.now (suc x.depth) (take x.top x.cells.now) x.base ≡ true
  all_laid =
      laid_more x.file.now x.depth (take x.top x.cells.now) x.base
      (whole_below x.file.now x.cells.now x.base x.top x.whole x.inside)
      (laid_below x.file.now x.cells.now x.depth x.base x.top low ∙ x.below)

  pub ends : frames_size (running x ∷ waiting x) ≡ x.top
  ends =
      sym (ap frames_size all_frames)
      ∙ size_is x.file.now (suc x.depth) (take x.top x.cells.now) x.base all_laid
      ∙ length-take-le x.top x.cells.now x.inside

  pub callers : alone (waiting x) ≡ eqb x.depth 0
  unfolding waiting
  callers = alone_is x.file.now x.depth (take x.base x.cells.now) (get_or x.cells.now (x.base + 2) 0)

-- the cells below the top are exactly the frames
pub cells_are : (x : Frames) → take x.top x.cells.now ≡ frames_cells (running x ∷ waiting x)
cells_are x = cells_hold x.file.now (suc x.depth) (take x.top x.cells.now) x.base (all_laid x) ∙ ap frames_cells (all_frames x)

-- how many variables and operands the running frame has
pub variables_count : (x : Frames) → length (running x).variables ≡ variables_of x.file.now (running x).method
unfolding running
variables_count x =
    let q = take x.top x.cells.now in
    let n = variables_of x.file.now (get_or q x.base 0) in
    let w = whole_below x.file.now x.cells.now x.base x.top x.whole x.inside in
    length-take-le n (drop (x.base + 3) q) (rw (length-drop (x.base + 3) q) (sum n (x.base + 3) (length q) w))
  where
    sum : (n b l : ℕ) → b + n ≤ l → n ≤ l - b
    sum n b l h = omega arith

pub operands_count : (x : Frames) → x.base + 3 + variables_of x.file.now (running x).method + length (running x).operands ≡ x.top
unfolding running
operands_count x =
    let q = take x.top x.cells.now in
    let n = variables_of x.file.now (get_or q x.base 0) in
    let w = whole_below x.file.now x.cells.now x.base x.top x.whole x.inside in
    let l = length-take-le x.top x.cells.now x.inside in
    let o = length-reverse (drop (x.base + 3 + n) q) ∙ length-drop (x.base + 3 + n) q in
    sum (x.base + 3 + n) (length q) x.top _ w l o
  where
    sum : (a q t o : ℕ) → a ≤ q → q ≡ t → o ≡ q - a → a + o ≡ t
    sum a q t o p e r = omega arith

pub operands_below : (x : Frames) → x.base + 3 + variables_of x.file.now (get_or x.cells.now x.base 0) + length (running x).operands ≡ x.top
unfolding running
operands_below x =
    ap (λ k. x.base + 3 + variables_of x.file.now k + length (running x).operands) (sym (method_below x.file.now x.cells.now 0 x.base x.top (omega (arith, x.whole))))
    ∙ operands_count x

-- an operand, and a variable, that the frame has lie between its head and its top
pub some_operand : (x : Frames) → 0 < length (running x).operands → x.base + 3 + variables_of x.file.now (get_or x.cells.now x.base 0) < x.top
some_operand x some =
    let w = x.whole in
    let o = operands_below x in
    omega arith

pub has_variable : (x : Frames) (i : ℕ) → i < length (running x).variables → i < variables_of x.file.now (get_or x.cells.now x.base 0)
unfolding running
has_variable x i few =
    let v = variables_count x in
    let m = ap (variables_of x.file.now) (method_below x.file.now x.cells.now 0 x.base x.top (omega (arith, x.whole))) in
    sum i _ _ _ few v m
  where
    sum : (i a b c : ℕ) → i < a → a ≡ b → b ≡ c → i < c
    sum i a b c p q r = omega arith

pub some_caller : (x : Frames) → alone (waiting x) ≡ false → 0 < x.depth
some_caller x waits = positive x.depth (eqb-false x.depth 0 (sym (callers x) ∙ waits))
  where
    positive : (d : ℕ) → (d ≡ 0 → ⊥) → 0 < d
    positive zero n = absurd (n refl)
    positive (suc d) n = omega arith

-- each frame that waits takes cells
pub few_callers : (x : Frames) → x.depth ≤ 65535
few_callers x =
    let d = depth_fits x.file.now x.depth (take x.base x.cells.now) (get_or x.cells.now (x.base + 2) 0) x.below in
    let l = length-take-le x.base x.cells.now (omega (arith, x.whole, x.inside)) in
    omega (arith, x.whole, x.used)

-- what fits above the frames lies on the cells that are used
pub room_above : (x : Frames) (k l : ℕ) → k ≡ l → frames_size (running x ∷ waiting x) + 3 + l ≤ cells_used (size x) →
    (x.top + (3 + k) ≤ length x.cells.now) × (x.top + (3 + k) ≤ 65535)
room_above x k l e room =
    fits (frames_size (running x ∷ waiting x)) x.top k l (size x) (ends x) e room
  where
    fits : (a t k l n : ℕ) → a ≡ t → k ≡ l → a + 3 + l ≤ cells_used n → (t + (3 + k) ≤ n) × (t + (3 + k) ≤ 65535)
    fits a t k l n p q r = (omega arith, omega arith)
