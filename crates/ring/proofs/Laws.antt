-- Values from a slot on: how many they are, with one more at the end, with the first one off.
use Rattle.std.proofs.Common.{◌≡◌, ℕ, zero, suc, ◌+◌, ◌-◌, ◌<◌, ◌≤◌, min, List, [], ◌∷◌, ◌++◌, length, get_or, take, drop, set, sym, ap, ◌∙◌, inl, inr, arith, length-append, length-drop, length-take}
use Rattle.std.proofs.lemmas.List.{length-take-le, length-set, take-take, take_all, take-append-le, take_more_set, drop_all, drop_more, drop-set-add, drop-set-lt, set-append_right}
use Rattle.std.proofs.lemmas.Bool.{cases_lt}
use Rattle.ring.specs.Ring.{turned, from_slot}

module _ {T : Type 0} (slots : List T) (first : ℕ) where
  length-turned : length (turned slots first) ≡ length slots
  unfolding turned
  length-turned = length-take-le (length slots) (drop first slots ++ slots) (simp (length-append, length-drop) (omega arith))

  pub length-from_slot : (count : ℕ) → length (from_slot slots first count) ≡ min count (length slots)
  length-from_slot count = length-take count (turned slots first) ∙ ap (min count) length-turned

  -- within the slots they stand once round
  unrolled : (count : ℕ) → count ≤ length slots → from_slot slots first count ≡ take count (drop first slots ++ slots)
  unfolding turned
  unrolled count le = take-take count (length slots) (drop first slots ++ slots) le

-- a count over the number of slots stands for that number
pub from_slot_all : {T : Type 0} (slots : List T) (first count n : ℕ) → length slots ≤ count → n ≡ length slots →
    from_slot slots first count ≡ from_slot slots first n
from_slot_all slots first count n le e =
    let all : length (turned slots first) ≤ count = rw (length-turned slots first) le in
    let all' : length (turned slots first) ≤ n = rw (length-turned slots first) (omega arith) in
    take_all count (turned slots first) all ∙ sym (take_all n (turned slots first) all')

-- a slot past the last stands for the first
pub from_slot_round : {T : Type 0} (slots : List T) (first count : ℕ) → length slots ≤ first →
    from_slot slots first count ≡ from_slot slots 0 count
unfolding turned
from_slot_round slots first count past =
    let le : length slots ≤ length slots = omega arith in
    ap (take count) (rw (drop_all first slots) (sym (take-append-le (length slots) slots slots le)))

-- one more at the end, where a slot is free
module _ {T : Type 0} (slots : List T) (first count free : ℕ) (value : T) (room : count < length slots) where
  le : count ≤ length slots
  le = omega arith

  le' : count + 1 ≤ length (set slots free value)
  le' = simp length-set (omega arith)

  -- before the last slot
  ahead : first + count < length slots → free ≡ first + count →
      from_slot (set slots free value) first (count + 1) ≡ from_slot slots first count ++ value ∷ []
  ahead inside e =
      let front = drop first slots in
      let short : count < length front = simp length-drop (omega arith) in
      let fits : count ≤ length front = omega arith in
      let fits' : count + 1 ≤ length (set front count value) = simp length-set (omega arith) in
      rw (unrolled (set slots free value) first (count + 1) le', unrolled slots first count le, e, drop-set-add first slots count value, take-append-le (count + 1) (set front count value) (set slots (first + count) value), take_more_set front count value, take-append-le count front slots)

  -- from the first slot again
  round : first < length slots → length slots ≤ first + count → free ≡ first + count - length slots →
      from_slot (set slots free value) first (count + 1) ≡ from_slot slots first count ++ value ∷ []
  round inside past e =
      let before : free < first = omega arith in
      let front : length slots - first ≤ count = omega arith in
      let e' : free ≡ count - (length slots - first) = omega arith in
      let short : count < length (drop first slots ++ slots) = simp (length-append, length-drop) (omega arith) in
      rw (unrolled (set slots free value) first (count + 1) le', unrolled slots first count le, drop-set-lt first slots free value, e', ← set-append_right (drop first slots) slots (length slots - first) count value (length-drop first slots) front, take_more_set (drop first slots ++ slots) count value)

  pub one_more : first < length slots →
      (first + count < length slots → free ≡ first + count) → (length slots ≤ first + count → free ≡ first + count - length slots) →
      from_slot (set slots free value) first (count + 1) ≡ from_slot slots first count ++ value ∷ []
  one_more inside step back =
      elim (cases_lt (first + count) (length slots)) [
        | inl before ↦ ahead before (step before)
        | inr past ↦ round inside past (back past)
      ]

-- the first one off, where there is one
pub first_off : {T : Type 0} (slots : List T) (first count : ℕ) (d : T) → first < length slots → 0 < count → count ≤ length slots →
    from_slot slots first count ≡ get_or slots first d ∷ from_slot slots (first + 1) (count - 1)
first_off slots first count d inside some fits =
    rw (unrolled slots first count fits, unrolled slots (first + 1) (count - 1) (omega arith)) (off count some)
  where
    off : (n : ℕ) → 0 < n → take n (drop first slots ++ slots) ≡ get_or slots first d ∷ take (n - 1) (drop (first + 1) slots ++ slots)
    off zero pos = absurd (omega arith)
    off (suc n) pos = let e : suc n - 1 ≡ n = omega arith in rw (drop_more slots first d, e)

pub rest_left : {T : Type 0} (slots : List T) (first count next : ℕ) → first < length slots → 0 < count → count ≤ length slots →
    (first + 1 < length slots → next ≡ first + 1) → (length slots ≤ first + 1 → next ≡ first + 1 - length slots) →
    from_slot slots next (count - 1) ≡ drop 1 (from_slot slots first count)
rest_left [] first count next inside some fits step back = absurd (omega arith)
rest_left (x ∷ xs) first count next inside some fits step back =
    elim (cases_lt (first + 1) (length (x ∷ xs))) [
      | inl before ↦ rw (step before) rest
      | inr past ↦
          let e : next ≡ 0 = back past ∙ omega arith in
          rw (e, ← from_slot_round (x ∷ xs) (first + 1) (count - 1) past) rest
    ]
  where
    rest : from_slot (x ∷ xs) (first + 1) (count - 1) ≡ drop 1 (from_slot (x ∷ xs) first count)
    rest = sym (ap (drop 1) (first_off (x ∷ xs) first count x inside some fits))

-- what the calls of a ring need
pub ruleset laws = (length-set, length-from_slot, one_more, first_off, rest_left)
