-- Cells that move up by the size of a head, the highest one first. Assumes nothing.
use Rattle.std.proofs.Common.{◌≡◌, ℕ, suc, ◌+◌, ◌-◌, ◌<◌, ◌≤◌, List, [], ◌∷◌, ◌++◌, length, get_or, take, drop, set, sym, ap, ◌∙◌, add-one, arith}
use lib.Seq.{paste}
use Rattle.std.proofs.lemmas.List.{append_assoc, length-take-le, take_more, drop_more, get_or_append_left, get_or-take, set_at}
use Rattle.std.proofs.lemmas.List.Edits.{paste_none}

-- one cell more has moved up
module _ (d : List ℕ) (f i m : ℕ) (room : f + 3 + i + 1 + m ≤ length d) where
  parted : paste d (f + 3 + i + 1) (drop (f + i + 1) d) m ≡ take (f + 3 + i) d ++ (get_or d (f + 3 + i) 0 ∷ (take m (drop (f + i + 1) d) ++ drop (f + 3 + i + 1 + m) d))
  parted =
      let x = get_or d (f + 3 + i) 0 in
      let moved = take m (drop (f + i + 1) d) in
      let rest = drop (f + 3 + i + 1 + m) d in
      ap (λ t. t ++ moved ++ rest) (take_more d (f + 3 + i) 0 (omega arith))
      ∙ append_assoc (take (f + 3 + i) d ++ x ∷ []) moved rest
      ∙ append_assoc (take (f + 3 + i) d) (x ∷ []) (moved ++ rest)

  not_yet : get_or (paste d (f + 3 + i + 1) (drop (f + i + 1) d) m) (f + i) 0 ≡ get_or d (f + i) 0
  not_yet =
      let l = length-take-le (f + 3 + i) d (omega arith) in
      ap (λ q. get_or q (f + i) 0) parted
      ∙ get_or_append_left (take (f + 3 + i) d) (get_or d (f + 3 + i) 0 ∷ (take m (drop (f + i + 1) d) ++ drop (f + 3 + i + 1 + m) d)) 0 (f + i) (omega arith)
      ∙ get_or-take (f + 3 + i) d (f + i) 0 (omega arith)

  raised : set (paste d (f + 3 + i + 1) (drop (f + i + 1) d) m) (f + 3 + i) (get_or d (f + i) 0) ≡ paste d (f + 3 + i) (drop (f + i) d) (m + 1)
  raised =
      let v = get_or d (f + i) 0 in
      let moved = take m (drop (f + i + 1) d) in
      let rest = drop (f + 3 + i + 1 + m) d in
      let more : take (m + 1) (drop (f + i) d) ≡ v ∷ moved
      = ap (λ n. take n (drop (f + i) d)) (add-one m) ∙ ap (take (suc m)) (drop_more d (f + i) 0 (omega arith)) in
      let end : f + 3 + i + (m + 1) ≡ f + 3 + i + 1 + m = omega arith in
      ap (λ q. set q (f + 3 + i) v) parted
      ∙ set_at (take (f + 3 + i) d) (get_or d (f + 3 + i) 0) (moved ++ rest) v (f + 3 + i) (length-take-le (f + 3 + i) d (omega arith))
      ∙ sym (append_assoc (take (f + 3 + i) d) (v ∷ moved) rest)
      ∙ sym (ap (λ t. take (f + 3 + i) d ++ t ++ drop (f + 3 + i + (m + 1)) d) more ∙ ap (λ k. take (f + 3 + i) d ++ (v ∷ moved) ++ drop k d) end)

pub raise_more : (d s : List ℕ) (f n k : ℕ) → 0 < k → k ≤ n → f + 3 + n ≤ length d → s ≡ paste d (f + 3 + k) (drop (f + k) d) (n - k) →
    set s (f + 3 + (k - 1)) (get_or s (f + (k - 1)) 0) ≡ paste d (f + 3 + (k - 1)) (drop (f + (k - 1)) d) (n - (k - 1))
raise_more d s f n k pos le room e =
    let i = k - 1 in
    let m = n - k in
    let a : f + 3 + k ≡ f + 3 + i + 1 = omega arith in
    let b : f + k ≡ f + i + 1 = omega arith in
    let c : n - i ≡ m + 1 = omega arith in
    let fits : f + 3 + i + 1 + m ≤ length d = omega arith in
    let e' : s ≡ paste d (f + 3 + i + 1) (drop (f + i + 1) d) m = e ∙ ap (λ t. paste d t (drop (f + k) d) m) a ∙ ap (λ t. paste d (f + 3 + i + 1) (drop t d) m) b in
    ap (λ q. set q (f + 3 + i) (get_or q (f + i) 0)) e'
    ∙ ap (set (paste d (f + 3 + i + 1) (drop (f + i + 1) d) m) (f + 3 + i)) (not_yet d f i m fits)
    ∙ raised d f i m fits
    ∙ ap (paste d (f + 3 + i) (drop (f + i) d)) (sym c)

pub raise_none : (d : List ℕ) (f n : ℕ) → d ≡ paste d (f + 3 + n) (drop (f + n) d) (n - n)
raise_none d f n =
    let none : n - n ≡ 0 = omega arith in
    paste_none d (f + 3 + n) (drop (f + n) d) ∙ ap (paste d (f + 3 + n) (drop (f + n) d)) (sym none)
