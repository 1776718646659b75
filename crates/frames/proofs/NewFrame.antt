-- The cells of a new frame, as they are laid, and the frames with it. Assumes nothing.
use Rattle.std.proofs.Common.{◌≡◌, ℕ, zero, suc, ◌+◌, ◌-◌, ◌≤◌, true, List, [], ◌∷◌, ◌++◌, reverse, length, get_or, take, drop, replicate, sym, refl, ap, ◌∙◌, add-one, arith}
use Rattle.std.proofs.lemmas.List.{reverse-append, reverse-reverse, length-append, length-drop, length-replicate, length-reverse, length-take-le, take-append-drop, take_all, take_at, take-take, drop_all, drop_at, drop-drop, drop-take, get_or-append_right, get_or_at, get_or-take}
use Rattle.std.proofs.lemmas.Bool.{eq-eqb}
use Rattle.format.specs.Layout.{parameters, locals}
use Rattle.machine.specs.Machine.{with_operands}
use Rattle.frames.specs.Frames.{called}
use Rattle.frames.specs.Laid.{variables_of, variables_are, frame_at, frames_at, laid}
use Rattle.frames.proofs.Stack.{laid_more}
use Rattle.frames.proofs.Parts.{method_below, frames_below, laid_below, whole_below}

-- a cell of a list's second part
get_or_in : (xs ys : List ℕ) (b i : ℕ) → length xs ≡ b → get_or (xs ++ ys) (b + i) 0 ≡ get_or ys i 0
get_or_in xs ys b i e =
    let j : b + i - b ≡ i = omega arith in
    get_or-append_right xs ys b (b + i) 0 e (omega arith) ∙ ap (λ k. get_or ys k 0) j

-- the frame whose cells they are
pub new_frame : (f low t : List ℕ) (b m p c : ℕ) → length low ≡ b → length t ≡ variables_of f m →
    frame_at f (low ++ (m ∷ p ∷ c ∷ t)) b ≡ record { method = m; return_place = p; variables = t; operands = [] }
new_frame f low t b m p c len size =
    let q = low ++ (m ∷ p ∷ c ∷ t) in
    let x = get_or_at low m (p ∷ c ∷ t) 0 b len in
    let n = ap (variables_of f) x in
    let y = get_or_in low (m ∷ p ∷ c ∷ t) b 1 len in
    let rest : drop (b + 3) q ≡ t = sym (drop-drop 3 b q) ∙ ap (drop 3) (drop_at low (m ∷ p ∷ c ∷ t) b len) in
    let vars : take (variables_of f m) t ≡ t = take_all (variables_of f m) t (omega arith) in
    let none : drop (b + 3 + variables_of f m) q ≡ [] = sym (drop-drop (variables_of f m) (b + 3) q) ∙ ap (drop (variables_of f m)) rest ∙ drop_all (variables_of f m) t (omega arith) in
    cc

-- the last values of a list, and the others, turned round
last_ones : (xs : List ℕ) (k n : ℕ) → length xs ≡ k + n → (take n (reverse xs) ≡ reverse (drop k xs)) × (drop n (reverse xs) ≡ reverse (take k xs))
last_ones xs k n e =
    let r : reverse xs ≡ reverse (drop k xs) ++ reverse (take k xs) = ap reverse (sym (take-append-drop k xs)) ∙ reverse-append (take k xs) (drop k xs) in
    let l : length (reverse (drop k xs)) ≡ n = length-reverse (drop k xs) ∙ length-drop k xs ∙ minus k n (length xs) e in
    (ap (take n) r ∙ take_at (reverse (drop k xs)) (reverse (take k xs)) n l, ap (drop n) r ∙ drop_at (reverse (drop k xs)) (reverse (take k xs)) n l)
  where
    minus : (k n l : ℕ) → l ≡ k + n → l - k ≡ n
    minus k n l e = omega arith

rest_size : (j n l : ℕ) → j + n ≤ l → l - j ≡ l - n - j + n
rest_size j n l h = omega arith

cut_place : (j n l : ℕ) → j + n ≤ l → l - n ≡ j + (l - n - j)
cut_place j n l h = omega arith

regroup : (b v k : ℕ) → b + 3 + v + k ≡ b + 3 + (v + k)
regroup b v k = omega arith

-- a frame whose last n operands are taken off, and those operands
module _ (f q : List ℕ) (b n : ℕ) (some : b + 3 + variables_of f (get_or q b 0) + n ≤ length q) where
  pub arguments : reverse (take n (frame_at f q b).operands) ≡ drop (length q - n) q
  arguments =
      let j = b + 3 + variables_of f (get_or q b 0) in
      let k = length q - n - j in
      let l : length (drop j q) ≡ k + n = length-drop j q ∙ rest_size j n (length q) some in
      ap reverse (last_ones (drop j q) k n l).0 ∙ reverse-reverse (drop k (drop j q)) ∙ drop-drop k j q ∙ ap (λ i. drop i q) (sym (cut_place j n (length q) some))

  pub cut_frame : frame_at f (take (length q - n) q) b ≡ with_operands (frame_at f q b) (drop n (frame_at f q b).operands)
  cut_frame =
      let v = variables_of f (get_or q b 0) in
      let j = b + 3 + v in
      let s = length q - n in
      let k = s - j in
      let l : length (drop j q) ≡ k + n = length-drop j q ∙ rest_size j n (length q) some in
      let cut : s ≡ j + k = cut_place j n (length q) some in
      let low : j ≤ s = omega (arith, some) in
      let m = get_or-take s q b 0 (omega arith) in
      let p = get_or-take s q (b + 1) 0 (omega arith) in
      let vs : take v (drop (b + 3) (take s q)) ≡ take v (drop (b + 3) q)
      = ap (λ i. take v (drop (b + 3) (take i q))) (cut ∙ regroup b v k) ∙ ap (take v) (drop-take (b + 3) (v + k) q) ∙ take-take v (v + k) (drop (b + 3) q) (omega arith) in
      let os : reverse (drop j (take s q)) ≡ drop n (reverse (drop j q))
      = ap (λ i. reverse (drop j (take i q))) cut ∙ ap reverse (drop-take j k q) ∙ sym (last_ones (drop j q) k n l).1 in
      cc

-- the frames after a call: d are the cells before it, and l those after it
module _ (f d l : List ℕ) (depth base top n k m p : ℕ)
    (some : base + 3 + variables_of f (get_or d base 0) + n ≤ top) (inside : top ≤ length d)
    (ps : n ≡ parameters f m) (ls : k ≡ locals f m)
    (new : take (top - n + 3 + n + k) l ≡ take (top - n) d ++ (m ∷ p ∷ base ∷ (take n (drop (top - n) d) ++ replicate k 0))) where
  new_size : length (take n (drop (top - n) d) ++ replicate k 0) ≡ variables_of f m
  new_size =
      let a = length-take-le n (drop (top - n) d) (simp length-drop (omega arith)) in
      let r = length-replicate k (zero) in
      length-append (take n (drop (top - n) d)) (replicate k 0) ∙ ap (λ i. i + length (replicate {A = ℕ} k 0)) a ∙ ap (λ i. n + i) r
      ∙ ap (λ i. i + k) ps ∙ ap (λ i. parameters f m + i) ls ∙ sym (variables_are f m)

  low_size : length (take (top - n) d) ≡ top - n
  low_size = length-take-le (top - n) d (omega arith)

  end : top + (3 + k) ≡ top - n + 3 + n + k
  end = omega arith

  -- what the callee's frame holds at its base, and above it the base of its caller
  at_base : get_or l (top - n) 0 ≡ m
  at_base =
      sym (get_or-take (top - n + 3 + n + k) l (top - n) 0 (omega arith)) ∙ ap (λ q. get_or q (top - n) 0) new
      ∙ get_or_at (take (top - n) d) m (p ∷ base ∷ (take n (drop (top - n) d) ++ replicate k 0)) 0 (top - n) low_size

  at_caller : get_or l (top - n + 2) 0 ≡ base
  at_caller =
      sym (get_or-take (top - n + 3 + n + k) l (top - n + 2) 0 (omega arith)) ∙ ap (λ q. get_or q (top - n + 2) 0) new
      ∙ get_or_in (take (top - n) d) (m ∷ p ∷ base ∷ (take n (drop (top - n) d) ++ replicate k 0)) (top - n) 2 low_size

  under : take (top - n) l ≡ take (top - n) d
  under =
      sym (take-take (top - n) (top - n + 3 + n + k) l (omega arith)) ∙ ap (take (top - n)) new
      ∙ take_at (take (top - n) d) (m ∷ p ∷ base ∷ (take n (drop (top - n) d) ++ replicate k 0)) (top - n) low_size

  -- the cells below the top before the call
  q_size : length (take top d) ≡ top
  q_size = length-take-le top d inside

  q_some : base + 3 + variables_of f (get_or (take top d) base 0) + n ≤ length (take top d)
  q_some =
      let v = ap (variables_of f) (method_below f d 0 base top (omega arith)) in
      omega (arith, q_size, v, some)

  moved : reverse (take n (frame_at f (take top d) base).operands) ≡ take n (drop (top - n) d)
  moved =
      let e : top ≡ top - n + n = omega arith in
      arguments f (take top d) base n q_some
      ∙ ap (λ i. drop (i - n) (take top d)) q_size
      ∙ ap (λ i. drop (top - n) (take i d)) e
      ∙ drop-take (top - n) n d

  cut : frame_at f (take (top - n) d) base ≡ with_operands (frame_at f (take top d) base) (drop n (frame_at f (take top d) base).operands)
  cut =
      ap (λ q. frame_at f q base) (sym (take-take (top - n) top d (omega arith)) ∙ ap (λ i. take (i - n) (take top d)) (sym q_size))
      ∙ cut_frame f (take top d) base n q_some

  pub entered_running : frame_at f (take (top + (3 + k)) l) (top - n) ≡ called f m p (frame_at f (take top d) base).operands
  entered_running =
      ap (λ i. frame_at f (take i l) (top - n)) end ∙ ap (λ q. frame_at f q (top - n)) new
      ∙ new_frame f (take (top - n) d) (take n (drop (top - n) d) ++ replicate k 0) (top - n) m p base low_size new_size
      ∙ ap (λ vs. record { method = m; return_place = p; variables = vs; operands = [] }) (ap (λ vs. vs ++ replicate k 0) (sym moved) ∙ ap (λ i. reverse (take i (frame_at f (take top d) base).operands) ++ replicate k 0) ps ∙ ap (λ i. reverse (take (parameters f m) (frame_at f (take top d) base).operands) ++ replicate i 0) ls)

  pub entered_waiting : frames_at f (depth + 1) (take (top - n) l) (get_or l (top - n + 2) 0)
      ≡ with_operands (frame_at f (take top d) base) (drop (parameters f m) (frame_at f (take top d) base).operands) ∷ frames_at f depth (take base d) (get_or d (base + 2) 0)
  entered_waiting =
      ap (λ i. frames_at f i (take (top - n) l) (get_or l (top - n + 2) 0)) (add-one depth)
      ∙ ap (λ q. frames_at f (suc depth) q (get_or l (top - n + 2) 0)) under
      ∙ ap (frames_at f (suc depth) (take (top - n) d)) at_caller
      ∙ ap (λ r. r ∷ frames_at f depth (take base (take (top - n) d)) (get_or (take (top - n) d) (base + 2) 0)) (cut ∙ ap (λ i. with_operands (frame_at f (take top d) base) (drop i (frame_at f (take top d) base).operands)) ps)
      ∙ ap (λ rs. with_operands (frame_at f (take top d) base) (drop (parameters f m) (frame_at f (take top d) base).operands) ∷ rs) (frames_below f d depth base (top - n) (omega arith))

  pub entered_below : laid f depth (take base d) (get_or d (base + 2) 0) ≡ true → laid f (depth + 1) (take (top - n) l) (get_or l (top - n + 2) 0) ≡ true
  entered_below h =
      ap (λ i. laid f i (take (top - n) l) (get_or l (top - n + 2) 0)) (add-one depth)
      ∙ ap (λ q. laid f (suc depth) q (get_or l (top - n + 2) 0)) under
      ∙ ap (laid f (suc depth) (take (top - n) d)) at_caller
      ∙ laid_more f depth (take (top - n) d) base (whole_below f d base (top - n) (omega arith) (omega arith)) (laid_below f d depth base (top - n) (omega arith) ∙ h)

  pub entered_whole : top - n + 3 + variables_of f (get_or l (top - n) 0) ≤ top + (3 + k)
  entered_whole =
      let v = ap (variables_of f) at_base in
      let w = variables_are f m in
      omega arith

-- main's frame, laid at cell 0
module _ (f d l : List ℕ) (n k : ℕ) (ps : n ≡ parameters f 0) (ls : k ≡ locals f 0) (plain : parameters f 0 ≡ 0)
    (new : take (0 + 3 + n + k) l ≡ take 0 d ++ (0 ∷ 65535 ∷ 65535 ∷ (take n (drop 0 d) ++ replicate k 0))) where
  main_cells : take (3 + k) l ≡ 0 ∷ 65535 ∷ 65535 ∷ replicate (locals f 0) 0
  main_cells =
      let none : n ≡ 0 = ps ∙ plain in
      let end : 3 + k ≡ 0 + 3 + n + k = omega arith in
      ap (λ i. take i l) end ∙ new ∙ ap (λ i. 0 ∷ 65535 ∷ 65535 ∷ (take i d ++ replicate k 0)) none ∙ ap (λ i. 0 ∷ 65535 ∷ 65535 ∷ replicate i 0) ls

  pub main_running : frame_at f (take (3 + k) l) 0 ≡ record { method = 0; return_place = 65535; variables = replicate (locals f 0) 0; operands = [] }
  main_running =
      let r = length-replicate (locals f 0) (zero) in
      let v = variables_are f 0 in
      ap (λ q. frame_at f q 0) main_cells ∙ new_frame f [] (replicate (locals f 0) 0) 0 0 65535 65535 refl (omega arith)

  pub main_whole : 0 + 3 + variables_of f (get_or l 0 0) ≤ 3 + k
  main_whole =
      let m : get_or l 0 0 ≡ 0 = sym (get_or-take (3 + k) l 0 0 (omega arith)) ∙ ap (λ q. get_or q 0 0) main_cells in
      let w = ap (variables_of f) m in
      let v = variables_are f 0 in
      omega arith

  pub main_below : laid f 0 (take 0 l) (get_or l (0 + 2) 0) ≡ true
  main_below =
      let c : get_or l 2 0 ≡ 65535 = sym (get_or-take (3 + k) l 2 0 (omega arith)) ∙ ap (λ q. get_or q 2 0) main_cells in
      eq-eqb (get_or l 2 0) 65535 c
