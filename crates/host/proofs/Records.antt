-- Units as byte pairs, and memory with one more unit recorded on it. Assumes nothing.
use Rattle.std.proofs.Common.{◌≡◌, ℕ, ◌+◌, ◌-◌, ◌*◌, ◌/◌, ◌%◌, ◌<◌, ◌≤◌, List, [], ◌∷◌, ◌++◌, length, get_or, take, drop, set, sym, refl, ap, ◌∙◌, arith, length-drop}
use Rattle.std.proofs.lemmas.List.{length-set, length-take-le, length_push, append_assoc, set_at, take_rest, take_more_set, drop_more, drop-set-add, drop-set-lt}
use Rattle.std.proofs.lemmas.Grind.{common_steps}
use Rattle.std.proofs.lemmas.Bool.{le-ltb}
use Rattle.host.specs.declared.recorder.Recorder.{Recorder}
use Rattle.host.specs.Recorder.{bytes_of, units_of, room_in, recorded, recorder_written, recorder_space, Records}

-- two more bytes after whole units are one more unit
units_push : (s : List ℕ) (a b : ℕ) → length s % 2 ≡ 0 → units_of (s ++ a ∷ b ∷ []) ≡ units_of s ++ (a * 256 + b) ∷ []
units_push [] a b h = refl
units_push (x ∷ []) a b h = absurd (omega arith)
units_push (x ∷ y ∷ s) a b h = grind (arith, units_push s a b)

bytes_push : (us : List ℕ) (u : ℕ) → bytes_of (us ++ u ∷ []) ≡ bytes_of us ++ u / 256 ∷ u % 256 ∷ []
bytes_push [] u = refl
bytes_push (x ∷ us) u = grind (arith, bytes_push us u)

length-bytes : (us : List ℕ) → length (bytes_of us) ≡ 2 * length us
length-bytes [] = refl
length-bytes (x ∷ us) = let h = length-bytes us in omega arith

-- bytes written at the end of a list's front
set_two : (p m : List ℕ) (i a b : ℕ) → length p ≡ i → i + 2 ≤ length m →
    set (set (p ++ drop i m) i a) (i + 1) b ≡ p ++ a ∷ b ∷ drop (i + 2) m
set_two p m i a b e h =
    let y = get_or m i 0 in
    let z = get_or m (i + 1) 0 in
    let rest = drop (i + 1 + 1) m in
    let lt : i < length m = omega arith in
    let lt' : i + 1 < length m = omega arith in
    let two : i + 1 + 1 ≡ i + 2 = omega arith in
    let len : length (p ++ a ∷ []) ≡ i + 1 = length_push p a ∙ ap (λ n. n + 1) e in
    rw (drop_more m i 0 lt, drop_more m (i + 1) 0 lt', set_at p y (z ∷ rest) a i e, ← append_assoc p (a ∷ []) (z ∷ rest), set_at (p ++ a ∷ []) z rest b (i + 1) len, append_assoc p (a ∷ []) (b ∷ rest), two)

recorded_long : (m us : List ℕ) → 3 ≤ length m →
    recorded m us ≡ 1 ∷ 2 * length us / 256 ∷ 2 * length us % 256 ∷ (bytes_of us ++ drop (3 + 2 * length us) m)
recorded_long m us h = rw (le-ltb (length m) 3 h)

length-recorded : (m us : List ℕ) → length us ≤ room_in (length m) → length (recorded m us) ≡ length m
length-recorded m us h = grind (arith, common_steps, length-bytes)

-- a unit more in memory that has n units
abbrev pub with_unit : List ℕ → ℕ → ℕ → List ℕ
with_unit m n u =
    set (set (set (set m (3 + 2 * n) (u / 256)) (3 + 2 * n + 1) (u % 256)) 1 ((2 * n + 2) / 256)) 2 ((2 * n + 2) % 256)

recorded_more : (m us : List ℕ) (u : ℕ) → 3 + 2 * length us + 2 ≤ length m →
    with_unit (recorded m us) (length us) u ≡ recorded m (us ++ u ∷ [])
recorded_more m us u h =
    let k = length us in
    let size = 2 * k in
    let p = 1 ∷ size / 256 ∷ size % 256 ∷ bytes_of us in
    let long : 3 ≤ length m = omega arith in
    let len : length p ≡ 3 + size = omega (arith, length-bytes us) in
    let more : 2 * (k + 1) ≡ size + 2 = omega arith in
    let end : 3 + (size + 2) ≡ 3 + size + 2 = omega arith in
    rw (recorded_long m us long, recorded_long m (us ++ u ∷ []) long, set_two p m (3 + size) (u / 256) (u % 256) len h, length_push us u, more, end, bytes_push us u, append_assoc (bytes_of us) (u / 256 ∷ u % 256 ∷ []) (drop (3 + size + 2) m))

units_more : (m : List ℕ) (n u : ℕ) → 3 + 2 * n + 2 ≤ length m →
    units_of (take (2 * (n + 1)) (drop 3 (with_unit m n u))) ≡ units_of (take (2 * n) (drop 3 m)) ++ u ∷ []
units_more m n u h =
    let d = drop 3 m in
    let one = set d (2 * n) (u / 256) in
    let fits : 2 * n < length d = simp length-drop (omega arith) in
    let fits' : 2 * n + 1 < length one = simp (length-set, length-drop) (omega arith) in
    let even : length (take (2 * n) d) % 2 ≡ 0 = rw (length-take-le (2 * n) d (omega arith)) (omega arith) in
    let at : 3 + 2 * n + 1 ≡ 3 + (2 * n + 1) = omega arith in
    let more : 2 * (n + 1) ≡ 2 * n + 1 + 1 = omega arith in
    let same : u / 256 * 256 + u % 256 ≡ u = omega arith in
    let first : 1 < 3 = omega arith in
    let second : 2 < 3 = omega arith in
    rw (drop-set-lt, drop-set-lt, at, drop-set-add 3 (set m (3 + 2 * n) (u / 256)) (2 * n + 1) (u % 256), drop-set-add 3 m (2 * n) (u / 256), more, take_more_set one (2 * n + 1) (u % 256), take_more_set d (2 * n) (u / 256), append_assoc (take (2 * n) d) (u / 256 ∷ []) (u % 256 ∷ []), units_push (take (2 * n) d) (u / 256) (u % 256) even, same)

-- memory with one more unit, where there is room for it
module _ (m m' : List ℕ) (n u : ℕ) (room : 0 < room_in (length m) - n) (e : m' ≡ with_unit m n u) where
  pub written_more : units_of (take (2 * (n + 1)) (drop 3 m')) ≡ units_of (take (2 * n) (drop 3 m)) ++ u ∷ []
  written_more = rw e (units_more m n u (omega arith))

  pub space_less : room_in (length m) - n ≡ room_in (length m') - (n + 1) + 1
  space_less = rw e (simp length-set (omega arith))

-- a recorder with one more unit
pub records_more : (a b : Recorder) (u : ℕ) → 0 < recorder_space a →
    b.memory.now ≡ with_unit a.memory.now a.count u → b.count ≡ a.count + 1 →
    (m : List ℕ) → Records m a → Records m b
records_more a b u room memory count m r =
    let us = recorder_written a in
    let more : recorder_written b ≡ us ++ u ∷ [] = rw count (written_more a.memory.now b.memory.now a.count u room memory) in
    let fits : length us ≤ room_in (length m) = omega arith in
    let len : length a.memory.now ≡ length m = ap length r.bytes ∙ length-recorded m us fits in
    let h : 3 + 2 * length us + 2 ≤ length m = omega arith in
    record {
      bytes = memory ∙ ap (λ (l : List ℕ). with_unit l a.count u) r.bytes ∙ ap (λ n. with_unit (recorded m us) n u) r.counted
          ∙ recorded_more m us u h ∙ ap (recorded m) (sym more);
      counted = count ∙ ap (λ n. n + 1) r.counted ∙ sym (length_push us u) ∙ ap length (sym more);
      fits = omega arith;
    }
