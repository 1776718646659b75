-- The frames after the running one is taken off. Assumes nothing.
use Rattle.std.proofs.Common.{◌≡◌, ℕ, zero, suc, ◌+◌, ◌-◌, ◌<◌, ◌≤◌, true, List, ◌∷◌, length, get_or, take, sym, ap, ◌∙◌, sub-one, arith}
use Rattle.std.proofs.lemmas.List.{length-take-le}
use Rattle.frames.specs.Laid.{variables_of, frame_at, frames_at, laid}
use Rattle.frames.proofs.Stack.{nearest_whole, rest_laid}
use Rattle.frames.proofs.Parts.{method_below, frames_below, laid_below}

-- the caller's frame is on top, below what was the base
pub record Left (f cells : List ℕ) (depth base : ℕ) : Type 0 where
  pub whole : get_or cells (base + 2) 0 + 3 + variables_of f (get_or cells (get_or cells (base + 2) 0) 0) ≤ base
  pub below : laid f (depth - 1) (take (get_or cells (base + 2) 0) cells) (get_or cells (get_or cells (base + 2) 0 + 2) 0) ≡ true
  pub frames : frames_at f depth (take base cells) (get_or cells (base + 2) 0)
      ≡ frame_at f (take base cells) (get_or cells (base + 2) 0) ∷ frames_at f (depth - 1) (take (get_or cells (base + 2) 0) cells) (get_or cells (get_or cells (base + 2) 0 + 2) 0)

pub left : (f cells : List ℕ) (depth base : ℕ) → 0 < depth → base ≤ length cells → laid f depth (take base cells) (get_or cells (base + 2) 0) ≡ true → Left f cells depth base
left f cells zero base pos inside h = absurd (omega arith)
left f cells (suc d) base pos inside h =
    let b = get_or cells (base + 2) 0 in
    let q = take base cells in
    let l = length-take-le base cells inside in
    let w = nearest_whole f d q b h in
    let low : b + 3 ≤ base = omega arith in
    let m = ap (variables_of f) (method_below f cells d b base low) in
    let s : suc d - 1 ≡ d = sub-one (suc d) in
    let r = sym (laid_below f cells d b base low) ∙ rest_laid f d q b h in
    record {
      whole = omega arith;
      below = ap (λ n. laid f n (take b cells) (get_or cells (b + 2) 0)) s ∙ r;
      frames = ap (λ rs. frame_at f q b ∷ rs) (frames_below f cells d b base low ∙ ap (λ n. frames_at f n (take b cells) (get_or cells (b + 2) 0)) (sym s));
    }
