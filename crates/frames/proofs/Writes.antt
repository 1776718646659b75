-- The running frame after a cell of it, or the first above it, is written, and with its last operand off. Assumes nothing.
use Rattle.std.proofs.Common.{◌≡◌, ℕ, ◌+◌, ◌-◌, ◌<◌, ◌≤◌, true, List, ◌∷◌, length, get_or, take, drop, set, sym, ap, ◌∙◌, arith}
use lib.Seq.{take-set-lt}
use Rattle.std.proofs.lemmas.List.{take_more, take_more_set, take-set-le, get_or-set_other, get_or-take, get_or-drop}
use Rattle.machine.specs.Machine.{with_operands, with_variable}
use Rattle.frames.specs.Laid.{variables_of, frame_at, frames_at, laid}
use Rattle.frames.proofs.Stack.{push_frame, set_frame}
use Rattle.frames.specs.declared.Frames.{Frames}
use Rattle.frames.specs.Frames.{running}
use Rattle.frames.proofs.Parts.{whole_below, method_below, some_operand}

-- a cell written above the head of the running frame
module _ (f cells : List ℕ) (depth base i v : ℕ) (above : base + 3 ≤ i) where
  pub write_method : get_or (set cells i v) base 0 ≡ get_or cells base 0
  write_method = get_or-set_other cells i base v 0 (omega arith)

  pub write_waiting : frames_at f depth (take base (set cells i v)) (get_or (set cells i v) (base + 2) 0) ≡ frames_at f depth (take base cells) (get_or cells (base + 2) 0)
  write_waiting =
      let b = get_or-set_other cells i (base + 2) v 0 (omega arith) in
      let t = take-set-le base cells i v (omega arith) in
      cc

  pub write_laid : laid f depth (take base cells) (get_or cells (base + 2) 0) ≡ true → laid f depth (take base (set cells i v)) (get_or (set cells i v) (base + 2) 0) ≡ true
  write_laid h =
      let b = get_or-set_other cells i (base + 2) v 0 (omega arith) in
      let t = take-set-le base cells i v (omega arith) in
      cc

  pub write_whole : (top : ℕ) → base + 3 + variables_of f (get_or cells base 0) ≤ top → base + 3 + variables_of f (get_or (set cells i v) base 0) ≤ top
  write_whole top whole = rw write_method whole

module _ (f cells : List ℕ) (base top : ℕ) (whole : base + 3 + variables_of f (get_or cells base 0) ≤ top) where
  -- one more operand
  pub pushed : (v : ℕ) → top < length cells →
      frame_at f (take (top + 1) (set cells top v)) base ≡ with_operands (frame_at f (take top cells) base) (v ∷ (frame_at f (take top cells) base).operands)
  pushed v free =
      ap (λ q. frame_at f q base) (take_more_set cells top v free)
      ∙ push_frame f (take top cells) base v (whole_below f cells base top whole (omega arith))

  -- a variable set
  pub stored : (i v : ℕ) → top ≤ length cells → i < variables_of f (get_or cells base 0) →
      frame_at f (take top (set cells (base + 3 + i) v)) base ≡ with_variable (frame_at f (take top cells) base) i v (frame_at f (take top cells) base).operands
  stored i v inside few =
      let m = ap (variables_of f) (method_below f cells 0 base top (omega arith)) in
      let few' : i < variables_of f (get_or (take top cells) base 0) = omega arith in
      ap (λ q. frame_at f q base) (take-set-lt top cells (base + 3 + i) v (omega arith))
      ∙ set_frame f (take top cells) base i v (whole_below f cells base top whole inside) few'

  -- a variable's cell
  pub loaded : (i : ℕ) → i < variables_of f (get_or cells base 0) → get_or cells (base + 3 + i) 0 ≡ get_or (frame_at f (take top cells) base).variables i 0
  loaded i few =
      let m = ap (variables_of f) (method_below f cells 0 base top (omega arith)) in
      let n = variables_of f (get_or (take top cells) base 0) in
      let few' : i < n = omega arith in
      sym (get_or-take n (drop (base + 3) (take top cells)) i 0 few' ∙ get_or-drop (base + 3) (take top cells) i 0 ∙ get_or-take top cells (base + 3 + i) 0 (omega arith))

-- the last operand off
pub popped : (f cells : List ℕ) (base top : ℕ) → base + 3 + variables_of f (get_or cells base 0) < top → top ≤ length cells →
    frame_at f (take top cells) base ≡ with_operands (frame_at f (take (top - 1) cells) base) (get_or cells (top - 1) 0 ∷ (frame_at f (take (top - 1) cells) base).operands)
popped f cells base top some inside =
    let e : top - 1 + 1 ≡ top = omega arith in
    ap (λ k. frame_at f (take k cells) base) (sym e)
    ∙ ap (λ q. frame_at f q base) (take_more cells (top - 1) 0 (omega arith))
    ∙ push_frame f (take (top - 1) cells) base (get_or cells (top - 1) 0) (whole_below f cells base (top - 1) (omega arith) (omega arith))

-- the last operand
pub last_is : (x : Frames) → 0 < length (running x).operands → (running x).operands ≡ get_or x.cells.now (x.top - 1) 0 ∷ drop 1 (running x).operands
unfolding running
last_is x some =
    let p = popped x.file.now x.cells.now x.base x.top (some_operand x some) x.inside in
    ap (λ r. r.operands) p ∙ sym (ap (λ r. get_or x.cells.now (x.top - 1) 0 ∷ drop 1 r.operands) p)

pub last_inside : (x : Frames) → 0 < length (running x).operands → 0 < x.top
last_inside x some = let o = some_operand x some in omega arith
