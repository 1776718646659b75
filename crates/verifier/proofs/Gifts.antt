-- A turn of the worklist as the code takes it: the gifts to the successors, and the room for them. Assumes nothing.
use Rattle.std.proofs.Common.{◌≡◌, ℕ, ◌<◌, ◌≤◌, Bool, true, false, cond, ltb, List, [], ◌∷◌, length, Some, None, fold, sym, refl, ap, ◌∙◌, subst, arith}
use mathlib.Core.List.Memᴰ
use Rattle.std.proofs.lemmas.Bool.{lt-ltb}
use Rattle.format.specs.Search.{when}
use Rattle.format.proofs.Finds.{In}
use Rattle.bytecode.specs.Places.{is_place, code_end, successors}
use Rattle.verifier.specs.declared.pending.Pending.{Pending}
use Rattle.verifier.specs.Numbering.{blank, number, depth_after, balanced}
use Rattle.verifier.specs.declared.point.Point.{Point}
use Rattle.verifier.specs.Bytes.{bytes}
use Rattle.verifier.specs.Worklist.{Work, pend_if, pend, turn, turns_left}
use Rattle.verifier.proofs.Places.{is_place_in}
use Rattle.verifier.proofs.Rule.{balanced_parts}
use Rattle.verifier.proofs.Steps.{successor_place, some_result, no_result}
use Rattle.verifier.proofs.Turns.{pend_room, pend_left}

module _ (at : Point) (m : ℕ) where
  abbrev f : List ℕ
  f = bytes at.code.now

  abbrev k : ℕ
  k = at.method

  abbrev x : Pending
  x = record { place = at.place; number = m }

  -- nothing is given where the place is not balanced
  pub turn_stays : (w : Work) → None ≡ when (balanced f x.place x.number) (depth_after f x.place x.number) → w ≡ turn f k w x
  turn_stays w e = let b = no_result (balanced f x.place x.number) (depth_after f x.place x.number) e in rw b

  module _ (d : ℕ) (e : Some d ≡ when (balanced f x.place x.number) (depth_after f x.place x.number)) where
    abbrev shown : (balanced f x.place x.number ≡ true) × (d ≡ depth_after f x.place x.number)
    shown = some_result (balanced f x.place x.number) d (depth_after f x.place x.number) e

    pub result_small : d ≤ 255
    result_small = let b = balanced_parts f x.place x.number shown.0 in let r = shown.1 in let n = b.1 in omega arith

    gifts : (w : Work) (qs : List ℕ) → qs ≡ successors f x.place → fold (pend f k d) w qs ≡ turn f k w x
    gifts w qs s = ap (fold (pend f k d) w) s ∙ ap (λ z. fold (pend f k z) w (successors f x.place)) shown.1 ∙ given (balanced f x.place x.number) shown.0
      where
        given : (b : Bool) → b ≡ true → fold (pend f k (depth_after f x.place x.number)) w (successors f x.place) ≡ cond b (fold (pend f k (depth_after f x.place x.number)) w (successors f x.place)) w
        given true z = refl
        given false z = let o : ◌≡◌ {A = ℕ} 0 1 = cc in absurd (omega arith)

    pub turn_nowhere : (w : Work) → [] ≡ successors f x.place → w ≡ turn f k w x
    turn_nowhere w s = gifts w [] s

    module _ (n : ℕ) (h : n ≡ code_end f k) where
      -- a gift to a successor, by the end of the code
      gift : (w : Work) (q : ℕ) → In q (successors f x.place) → pend_if (ltb q n) d w q ≡ pend f k d w q
      gift w q i = ap (λ b. pend_if b d w q) (ap (ltb q) h ∙ sym (successor_place at q i))

      pub turn_one : (w v : Work) (q : ℕ) → q ∷ [] ≡ successors f x.place → v ≡ pend_if (ltb q n) d w q → v ≡ turn f k w x
      turn_one w v q s z = z ∙ gift w q (subst (In q) s (Memᴰ.head refl)) ∙ gifts w (q ∷ []) s

      pub turn_two : (w v u : Work) (q r : ℕ) → q ∷ r ∷ [] ≡ successors f x.place → v ≡ pend_if (ltb q n) d w q → u ≡ pend_if (ltb r n) d v r → u ≡ turn f k w x
      turn_two w v u q r s z y =
          y ∙ gift v r (subst (In r) s (Memᴰ.tail (Memᴰ.head refl))) ∙
          ap (λ t. pend f k d t r) (z ∙ gift w q (subst (In q) s (Memᴰ.head refl))) ∙ gifts w (q ∷ r ∷ []) s

      -- there is room for the gift
      pub gift_room : (w : Work) (q cap : ℕ) → In q (successors f x.place) → turns_left f k w ≤ cap → q < n → number w.sheet q ≡ blank → length w.pending < cap
      gift_room w q cap i room l b =
          let t : is_place f k q ≡ true = successor_place at q i ∙ ap (ltb q) (sym h) ∙ lt-ltb q n l in
          let r = pend_room f at.code.now.layout k at.listed w q (is_place_in f k q t) b in
          omega arith

      -- and afterwards for another
      pub room_again : (w v : Work) (q cap cap' : ℕ) → In q (successors f x.place) → length w.sheet ≡ length f → turns_left f k w ≤ cap → cap' ≡ cap → v ≡ pend_if (ltb q n) d w q → turns_left f k v ≤ cap'
      room_again w v q cap cap' i long room same z =
          let t = pend_left f at.code.now.layout k at.listed d w q long result_small in
          subst (λ u. turns_left f k u ≤ cap') (sym (z ∙ gift w q i)) (omega arith)
