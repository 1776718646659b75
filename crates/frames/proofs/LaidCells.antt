-- The cells of a frame as they are laid: arguments moved up, zeros, and a head. Assumes nothing.
use Rattle.std.proofs.Common.{◌≡◌, ℕ, zero, ◌+◌, ◌-◌, ◌≤◌, List, ◌∷◌, ◌++◌, length, get_or, take, drop, set, replicate, sym, ap, ◌∙◌, arith}
use lib.Seq.{paste, take-set-lt}
use Rattle.std.proofs.lemmas.List.{append_assoc, length-append, length-drop, length-replicate, length-take-le, take-append-drop, take-append-le, take_all, take-take, drop_at, set-append_right, set_at}
use Rattle.std.proofs.lemmas.List.Edits.{length-paste, take-paste}
use Rattle.frames.proofs.Stack.{head_cells}

-- a cell of a list's second part
set_in : (xs ys : List ℕ) (b i v : ℕ) → length xs ≡ b → set (xs ++ ys) (b + i) v ≡ xs ++ set ys i v
set_in xs ys b i v e =
    let j : b + i - b ≡ i = omega arith in
    set-append_right xs ys b (b + i) v e (omega arith) ∙ ap (λ k. xs ++ set ys k v) j

-- a head written
headed : (l : List ℕ) (b m p c : ℕ) → b + 3 ≤ length l → set (set (set l b m) (b + 1) p) (b + 2) c ≡ take b l ++ (m ∷ p ∷ c ∷ drop (b + 3) l)
headed l b m p c le =
    let x = get_or l b 0 in
    let y = get_or l (b + 1) 0 in
    let z = get_or l (b + 2) 0 in
    let low = take b l in
    let rest = drop (b + 3) l in
    let n = length-take-le b l (omega arith) in
    let e : l ≡ low ++ (x ∷ y ∷ z ∷ rest) = sym (take-append-drop b l) ∙ ap (λ t. low ++ t) (head_cells l b le) in
    ap (λ t. set (set (set t b m) (b + 1) p) (b + 2) c) e
    ∙ ap (λ t. set (set t (b + 1) p) (b + 2) c) (set_at low x (y ∷ z ∷ rest) m b n)
    ∙ ap (λ t. set t (b + 2) c) (set_in low (m ∷ y ∷ z ∷ rest) b 1 p n)
    ∙ set_in low (m ∷ p ∷ z ∷ rest) b 2 c n

-- arguments moved up, zeros, and a head: the cells of a frame
module _ (d : List ℕ) (b n k m p c : ℕ) (room : b + 3 + n + k ≤ length d) where
  upper : take (b + 3 + n + k) (paste (paste d (b + 3) (drop b d) n) (b + 3 + n) (replicate k 0) k) ≡ take (b + 3) d ++ (take n (drop b d) ++ replicate k 0)
  upper =
      let long : n ≤ length (drop b d) = simp length-drop (omega arith) in
      let one = paste d (b + 3) (drop b d) n in
      let l : length one ≡ length d = length-paste d (b + 3) (drop b d) n (omega arith) long in
      let r = length-replicate k (zero) in
      take-paste one (b + 3 + n) (replicate k 0) k (omega arith) (omega arith)
      ∙ ap (λ t. t ++ take k (replicate k 0)) (take-paste d (b + 3) (drop b d) n (omega arith) long)
      ∙ ap (λ t. take (b + 3) d ++ take n (drop b d) ++ t) (take_all k (replicate k 0) (omega arith))
      ∙ append_assoc (take (b + 3) d) (take n (drop b d)) (replicate k 0)

  pub laid_cells : (l : List ℕ) → l ≡ set (set (set (paste (paste d (b + 3) (drop b d) n) (b + 3 + n) (replicate k 0) k) b m) (b + 1) p) (b + 2) c →
      take (b + 3 + n + k) l ≡ take b d ++ (m ∷ p ∷ c ∷ (take n (drop b d) ++ replicate k 0))
  laid_cells l e =
      let w = paste (paste d (b + 3) (drop b d) n) (b + 3 + n) (replicate k 0) k in
      let top = b + 3 + n + k in
      let new = take n (drop b d) ++ replicate k 0 in
      let len = length-take-le (b + 3) d (omega arith) in
      let fits : b + 3 ≤ length (take (b + 3) d ++ new) = simp length-append (omega arith) in
      ap (take top) e
      ∙ take-set-lt top (set (set w b m) (b + 1) p) (b + 2) c (omega arith)
      ∙ ap (λ t. set t (b + 2) c) (take-set-lt top (set w b m) (b + 1) p (omega arith))
      ∙ ap (λ t. set (set t (b + 1) p) (b + 2) c) (take-set-lt top w b m (omega arith))
      ∙ ap (λ t. set (set (set t b m) (b + 1) p) (b + 2) c) upper
      ∙ headed (take (b + 3) d ++ new) b m p c fits
      ∙ ap (λ t. t ++ (m ∷ p ∷ c ∷ drop (b + 3) (take (b + 3) d ++ new))) (take-append-le b (take (b + 3) d) new (omega arith) ∙ take-take b (b + 3) d (omega arith))
      ∙ ap (λ t. take b d ++ (m ∷ p ∷ c ∷ t)) (drop_at (take (b + 3) d) new (b + 3) len)
