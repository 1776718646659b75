-- What is done to the cells of a stack, as its frames see it. Assumes nothing.
use Rattle.std.proofs.Common.{◌≡◌, ℕ, zero, suc, ◌+◌, ◌-◌, ◌<◌, ◌≤◌, true, eqb, List, [], ◌∷◌, ◌++◌, reverse, length, get_or, take, drop, set, sym, refl, ap, ◌∙◌, arith}
use lib.Seq.{take-set-lt}
use Rattle.std.proofs.lemmas.List.{reverse-append, reverse-reverse, length-drop, length-reverse, length-take-le, take-append-drop, take-append-le, drop-append-le, drop-drop, drop_more, drop-set-add, drop-set-lt, get_or_append_left, get_or-set_other, nil_from_length}
use Rattle.std.proofs.lemmas.Bool.{and_parts, and_from, leb-true, le-leb, eqb-true, ne_eqb}
use Rattle.machine.specs.Machine.{with_operands, with_variable}
use Rattle.machine.specs.Go.{frames_size}
use Rattle.machine.specs.Cells.{caller_base, frames_cells}
use Rattle.frames.specs.Frames.{alone}
use Rattle.frames.specs.Laid.{variables_of, frame_at, frames_at, laid}

-- the parts of `laid`
module _ (f : List ℕ) where
  pub nearest_whole : (d : ℕ) (q : List ℕ) (b : ℕ) → laid f (suc d) q b ≡ true → b + 3 + variables_of f (get_or q b 0) ≤ length q
  nearest_whole d q b h = leb-true _ _ (and_parts _ _ h).0

  pub rest_laid : (d : ℕ) (q : List ℕ) (b : ℕ) → laid f (suc d) q b ≡ true → laid f d (take b q) (get_or q (b + 2) 0) ≡ true
  rest_laid d q b h = (and_parts _ _ h).1

  pub laid_more : (d : ℕ) (q : List ℕ) (b : ℕ) → b + 3 + variables_of f (get_or q b 0) ≤ length q → laid f d (take b q) (get_or q (b + 2) 0) ≡ true → laid f (suc d) q b ≡ true
  laid_more d q b le h = and_from _ _ (le-leb _ _ le) h

-- the running frame with one more operand
pub push_frame : (f q : List ℕ) (b v : ℕ) → b + 3 + variables_of f (get_or q b 0) ≤ length q →
    frame_at f (q ++ v ∷ []) b ≡ with_operands (frame_at f q b) (v ∷ (frame_at f q b).operands)
push_frame f q b v whole =
    let n = variables_of f (get_or q b 0) in
    let m = get_or_append_left q (v ∷ []) 0 b (omega arith) in
    let p = get_or_append_left q (v ∷ []) 0 (b + 1) (omega arith) in
    let d = drop-append-le (b + 3) q (v ∷ []) (omega arith) in
    let e = drop-append-le (b + 3 + n) q (v ∷ []) whole in
    let t = take-append-le n (drop (b + 3) q) (v ∷ []) (simp length-drop (omega arith)) in
    let r = reverse-append (drop (b + 3 + n) q) (v ∷ []) in
    cc

-- a variable set
pub set_frame : (f q : List ℕ) (b i v : ℕ) → b + 3 + variables_of f (get_or q b 0) ≤ length q → i < variables_of f (get_or q b 0) →
    frame_at f (set q (b + 3 + i) v) b ≡ with_variable (frame_at f q b) i v (frame_at f q b).operands
set_frame f q b i v whole inside =
    let n = variables_of f (get_or q b 0) in
    let m = get_or-set_other q (b + 3 + i) b v 0 (omega arith) in
    let p = get_or-set_other q (b + 3 + i) (b + 1) v 0 (omega arith) in
    let d = drop-set-add (b + 3) q i v in
    let t = take-set-lt n (drop (b + 3) q) i v inside in
    let e = drop-set-lt (b + 3 + n) q (b + 3 + i) v (omega arith) in
    cc

-- how many cells frames take
pub size_is : (f : List ℕ) (d : ℕ) (q : List ℕ) (b : ℕ) → laid f d q b ≡ true → frames_size (frames_at f d q b) ≡ length q
size_is f zero q b h = sym (eqb-true _ _ (and_parts _ _ h).0)
size_is f (suc d) q b h =
    let n = variables_of f (get_or q b 0) in
    let whole = nearest_whole f d q b h in
    let rest = size_is f d (take b q) (get_or q (b + 2) 0) (rest_laid f d q b h) in
    let t = length-take-le b q (omega arith) in
    let v = length-take-le n (drop (b + 3) q) (simp length-drop (omega arith)) in
    let o = length-reverse (drop (b + 3 + n) q) ∙ length-drop (b + 3 + n) q in
    sum n b (length q) _ _ _ whole v o (rest ∙ t)
  where
    sum : (n b l v o r : ℕ) → b + 3 + n ≤ l → v ≡ n → o ≡ l - (b + 3 + n) → r ≡ b → 3 + v + o + r ≡ l
    sum n b l v o r le p q s = omega arith

-- each frame takes cells
pub depth_fits : (f : List ℕ) (d : ℕ) (q : List ℕ) (b : ℕ) → laid f d q b ≡ true → d ≤ length q
depth_fits f zero q b h = omega arith
depth_fits f (suc d) q b h =
    let whole = nearest_whole f d q b h in
    let rest = depth_fits f d (take b q) (get_or q (b + 2) 0) (rest_laid f d q b h) in
    let t = length-take-le b q (omega arith) in
    sum (variables_of f (get_or q b 0)) b d (length q) (length (take b q)) whole rest t
  where
    sum : (n b d l k : ℕ) → b + 3 + n ≤ l → d ≤ k → k ≡ b → suc d ≤ l
    sum n b d l k p q r = omega arith

-- the base of the nearest frame
pub base_is : (f : List ℕ) (d : ℕ) (q : List ℕ) (b : ℕ) → laid f d q b ≡ true → caller_base (frames_at f d q b) ≡ b
base_is f zero q b h = sym (eqb-true _ _ (and_parts _ _ h).1)
base_is f (suc d) q b h =
    let whole = nearest_whole f d q b h in
    size_is f d (take b q) (get_or q (b + 2) 0) (rest_laid f d q b h) ∙ length-take-le b q (omega arith)

-- what stands from a base on
pub head_cells : (q : List ℕ) (b : ℕ) → b + 3 ≤ length q → drop b q ≡ get_or q b 0 ∷ get_or q (b + 1) 0 ∷ get_or q (b + 2) 0 ∷ drop (b + 3) q
head_cells q b le =
    let x = drop_more q b 0 (omega arith) in
    let y = drop_more q (b + 1) 0 (omega arith) in
    let z = drop_more q (b + 2) 0 (omega arith) in
    let one : b + 1 + 1 ≡ b + 2 = omega arith in
    let two : b + 2 + 1 ≡ b + 3 = omega arith in
    cc

-- frames are all that there is in the cells
pub cells_hold : (f : List ℕ) (d : ℕ) (q : List ℕ) (b : ℕ) → laid f d q b ≡ true → q ≡ frames_cells (frames_at f d q b)
cells_hold f zero q b h = nil_from_length q (eqb-true _ _ (and_parts _ _ h).0)
cells_hold f (suc d) q b h =
    let n = variables_of f (get_or q b 0) in
    let c = get_or q (b + 2) 0 in
    let rest = drop (b + 3) q in
    let whole = nearest_whole f d q b h in
    let low = rest_laid f d q b h in
    let under = cells_hold f d (take b q) c low in
    let back = base_is f d (take b q) c low in
    let heads = head_cells q b (omega arith) in
    let whole_rest : take n rest ++ reverse (reverse (drop (b + 3 + n) q)) ≡ rest
    = ap (λ x. take n rest ++ x) (reverse-reverse (drop (b + 3 + n) q) ∙ sym (drop-drop n (b + 3) q)) ∙ take-append-drop n rest in
    sym (take-append-drop b q) ∙ ap (λ x. take b q ++ x) heads
    ∙ ap (λ x. x ++ (get_or q b 0 ∷ get_or q (b + 1) 0 ∷ c ∷ rest)) under
    ∙ ap (λ x. frames_cells (frames_at f d (take b q) c) ++ (get_or q b 0 ∷ get_or q (b + 1) 0 ∷ x ∷ rest)) (sym back)
    ∙ ap (λ x. frames_cells (frames_at f d (take b q) c) ++ (get_or q b 0 ∷ get_or q (b + 1) 0 ∷ caller_base (frames_at f d (take b q) c) ∷ x)) (sym whole_rest)

pub alone_is : (f : List ℕ) (d : ℕ) (q : List ℕ) (b : ℕ) → alone (frames_at f d q b) ≡ eqb d 0
alone_is f zero q b = refl
alone_is f (suc d) q b = sym (ne_eqb (suc d) 0 (λ e. omega arith))
