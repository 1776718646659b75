-- The text of pairs of bytes, and the lines of one index more. Assumes nothing.
use Rattle.std.proofs.Common.{◌≡◌, ℕ, suc, ◌+◌, ◌*◌, ◌/◌, ◌<◌, ◌≤◌, List, [], ◌∷◌, ◌++◌, length, get_or, take, sym, refl, ap, ◌∙◌, add-one, arith}
use Rattle.std.specs.List.{flat_map}
use Rattle.std.specs.Simd.{first_chunks}
use Rattle.std.proofs.lemmas.List.{take_all, take_more, flat_map_more}
use Rattle.listing.specs.Text.{shown_unit, shown_text}
use Rattle.listing.specs.Lines.{lines}

-- the text of the unit of two bytes, high byte first
abbrev pub shown_pair : List ℕ → List ℕ
shown_pair bs = shown_unit (get_or bs 0 0 * 256 + get_or bs 1 0)

pub pairs_more : (pairs : List (List ℕ)) (i : ℕ) → i < length pairs → flat_map shown_pair (take i pairs) ++ shown_pair (get_or pairs i []) ≡ flat_map shown_pair (take (i + 1) pairs)
pairs_more pairs i h = flat_map_more shown_pair [] (take i pairs) (get_or pairs i []) ∙ sym (ap (flat_map shown_pair) (take_more pairs i [] h))

shown_pairs : (bs : List ℕ) → flat_map shown_pair (first_chunks 2 (length bs / 2) bs) ≡ shown_text bs
unfolding shown_text
shown_pairs [] = refl
shown_pairs (x ∷ []) = refl
shown_pairs (x ∷ y ∷ bs) =
    let half : length (x ∷ y ∷ bs) / 2 ≡ suc (length bs / 2) = omega arith in
    ap (λ k. flat_map shown_pair (first_chunks 2 k (x ∷ y ∷ bs))) half ∙ ap (λ r. shown_unit (x * 256 + y) ++ r) (shown_pairs bs)

pub pairs_all : (bs : List ℕ) (pairs : List (List ℕ)) (i : ℕ) → pairs ≡ first_chunks 2 (length bs / 2) bs → length pairs ≤ i → flat_map shown_pair (take i pairs) ≡ shown_text bs
pairs_all bs pairs i e h = ap (flat_map shown_pair) (take_all i pairs h ∙ e) ∙ shown_pairs bs

pub lines_none : (line : ℕ → List ℕ) → lines line 0 ≡ []
unfolding lines
lines_none line = refl

pub lines_more : (line : ℕ → List ℕ) (n : ℕ) → lines line (n + 1) ≡ lines line n ++ line n
unfolding lines
lines_more line n = rw (add-one n)
