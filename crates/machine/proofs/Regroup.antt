-- One go or two with the same fuel in all. Assumes nothing.
use Rattle.std.proofs.Common.{◌≡◌, ℕ, zero, suc, ◌+◌, ◌-◌, ◌<◌, ◌≤◌, Bool, true, false, cond, eqb, ltb, ◌⊎◌, List, [], ◌∷◌, ◌++◌, length, is_some, Some, None, Option, unwrap_or, sym, refl, ap, ◌∙◌, subst, inl, inr, append_assoc, append-nil, zero-le, add-zero, add_assoc, arith, length-append}
use Rattle.std.specs.Option.{option_map}
use Rattle.std.proofs.lemmas.Bool.{cases_lt, cases_eq, lt-ltb, le-ltb, eq-eqb, ne_eqb}
use Rattle.format.specs.Search.{◌else◌, when}
use Rattle.machine.specs.Machine.{State, Fed, fed, awaits_input, after, step}
use Rattle.machine.specs.declared.stop.Stop.{Stop}
use Rattle.machine.specs.declared.stop.Stop.TheVariants.{Ended, Spent, NoUnit, NoRoom, StackFull}
use Rattle.machine.specs.Go.{cells_used, call_need, next_text, hindrance, stop_at, count, Host, outcome, outcome_begun}
use Rattle.machine.specs.Rows.{Event, slice, Row, row, Regroups}
use Rattle.machine.proofs.Wide.{wide, after_add, after_last, after_wide}
use Rattle.machine.proofs.Writes.{step_writes}
use Rattle.machine.proofs.Counts.{Runs, no_stop, count_goes, count_runs, count_within, count_stops, count_is}

nat_lt_same : (a b c d : ℕ) → (a < b → c < d) → (c < d → a < b) → ltb a b ≡ ltb c d
nat_lt_same a b c d p q =
    elim (cases_lt a b) [
      | inl l ↦ lt-ltb a b l ∙ sym (lt-ltb c d (p l))
      | inr l ↦ le-ltb a b l ∙ sym (elim (cases_lt c d) [ inl m ↦ absurd (let k : a < b = q m in omega arith) | inr m ↦ le-ltb c d m ])
    ]

eqb_same : (a b c d : ℕ) → (a ≡ b → c ≡ d) → (c ≡ d → a ≡ b) → eqb a b ≡ eqb c d
eqb_same a b c d p q =
    elim (cases_eq a b) [
      | inl l ↦ eq-eqb a b l ∙ sym (eq-eqb c d (p l))
      | inr l ↦ ne_eqb a b l ∙ sym (ne_eqb c d (λ e. l (q e)))
    ]

-- what was written before and the room that it took
pub hindrance_wide : (f s ws : List ℕ) (cells room : ℕ) (x : Fed) → length ws ≤ room →
    hindrance f s cells room (wide ws [] x) ≡ hindrance f s cells (room - length ws) x
hindrance_wide f s ws cells room x l =
    ap (λ (b : Bool). when b NoUnit else when (ltb room (length (ws ++ x.wrote) + n)) NoRoom else r) (ap (λ (fd : List ℕ). awaits_input f (fed x.state fd x.wrote)) (append-nil x.feed)) ∙
    ap (λ (b : Bool). when (awaits_input f x) NoUnit else when b NoRoom else r) fits
  where
    n : ℕ
    n = length (next_text f x.state)

    r : Option Stop
    r = when (ltb (cells_used cells) (unwrap_or (call_need f s x.state) 0)) StackFull

    fits : ltb room (length (ws ++ x.wrote) + n) ≡ ltb (room - length ws) (length x.wrote + n)
    fits = let e = length-append ws x.wrote in nat_lt_same _ _ _ _ (λ k. omega arith) (λ k. omega arith)

-- no go writes more than its room
pub within_room : (f s : List ℕ) (cells room fuel : ℕ) (x : Fed) → length x.wrote ≤ room →
    (j : ℕ) → j ≤ count f s cells room fuel x → length (after f s j x).wrote ≤ room
within_room f s cells room fuel x l zero h = l
within_room f s cells room fuel x l (suc j) h = subst (λ (y : Fed). length y.wrote ≤ room) (sym (after_last f s j x)) stepped
  where
    ok : Runs f s cells room fuel j (after f s j x)
    ok = count_runs f s cells room fuel x j h

    small : (a b : ℕ) → a + b ≤ room → a ≤ room
    small a b k = omega arith

    stepped : length (step f s (after f s j x)).wrote ≤ room
    stepped =
        step_writes f s (after f s j x) (λ t. length t ≤ room)
        (small (length (after f s j x).wrote) (length (next_text f (after f s j x).state)) ok.roomy)
        (subst (λ (k : ℕ). k ≤ room) (sym (length-append (after f s j x).wrote (next_text f (after f s j x).state))) ok.roomy)

-- the fuel of two goes
together : (n p j q : ℕ) → n ≤ p → j ≤ q → (n ≡ p) ⊎ (j < q) → eqb (n + j) (p + q) ≡ eqb j q
together n p j q a b c = eqb_same (n + j) (p + q) j q (λ e. omega arith) (λ e. elim c [ inl d ↦ omega arith | inr d ↦ omega arith ])

-- a reason other than fuel stops with any fuel
still : (a : Option Stop) (b c : Bool) (o : Option Stop) → b ≡ false → is_some (a else when b Spent else o) ≡ true → is_some (a else when c Spent else o) ≡ true
still (Some x) b c o e k = refl
still None true c o e k = cc
still None false true o e k = refl
still None false false o e k = k

none_below : (P : ℕ → Type 0) (j : ℕ) → j < 0 → P j
none_below P j l = absurd (omega arith)

abbrev host : List ℕ → List ℕ → ℕ → Host
host a b c = record { waits = a; written = b; space = c }

module _ (f s : List ℕ) (cells p q : ℕ) (st : State) (h : Host) where
  abbrev x0 : Fed
  x0 = fed st h.waits []

  abbrev n1 : ℕ
  n1 = count f s cells h.space p x0

  abbrev x1 : Fed
  x1 = after f s n1 x0

  abbrev w1 : List ℕ
  w1 = x1.wrote

  abbrev y0 : Fed
  y0 = fed x1.state x1.feed []

  abbrev room1 : ℕ
  room1 = h.space - length w1

  abbrev n2 : ℕ
  n2 = count f s cells room1 q y0

  fits : length w1 ≤ h.space
  fits = within_room f s cells h.space p x0 zero-le n1 (le n1)
    where
      le : (n : ℕ) → n ≤ n
      le n = omega arith

  x1_is : x1 ≡ wide w1 [] y0
  x1_is = ap (λ (fd : List ℕ). fed x1.state fd w1) (sym (append-nil x1.feed)) ∙ ap (fed x1.state (x1.feed ++ [])) (sym (append-nil w1))

  -- the second go is where one long go would be
  goes_on : (j : ℕ) → j ≤ n2 → after f s (n1 + j) x0 ≡ wide w1 [] (after f s j y0)
  goes_on j l = after_add f s n1 j x0 ∙ ap (after f s j) x1_is ∙ after_wide f s w1 [] j y0 (λ i k. (count_runs f s cells room1 q y0 i (le i k)).fed)
    where
      le : (i : ℕ) → i < j → i < n2
      le i k = omega arith

  -- and stops where it would
  stops_as : (j : ℕ) → j ≤ n2 → eqb (n1 + j) (p + q) ≡ eqb j q →
      stop_at f s cells h.space (p + q) (n1 + j) (after f s (n1 + j) x0) ≡ stop_at f s cells room1 q j (after f s j y0)
  stops_as j l e =
      ap (stop_at f s cells h.space (p + q) (n1 + j)) (goes_on j l) ∙
      ap (λ (b : Bool). option_map Ended (after f s j y0).state.ended else when b Spent else hindrance f s cells h.space (wide w1 [] (after f s j y0))) e ∙
      ap (λ (o : Option Stop). option_map Ended (after f s j y0).state.ended else when (eqb j q) Spent else o) (hindrance_wide f s w1 cells h.space (after f s j y0) fits)

  n1_in : n1 ≤ p
  n1_in = count_within f s cells h.space p x0

  n2_in : n2 ≤ q
  n2_in = count_within f s cells room1 q y0

  -- a first go that stopped short: the second does nothing
  short : n1 < p → n2 ≡ 0
  short l = count_is f s cells room1 q y0 0 (none_below _) (subst (λ (o : Option Stop). is_some (option_map Ended x1.state.ended else when (eqb 0 q) Spent else o) ≡ true) same stopped)
    where
      same : hindrance f s cells h.space x1 ≡ hindrance f s cells room1 y0
      same = ap (hindrance f s cells h.space) x1_is ∙ hindrance_wide f s w1 cells h.space y0 fits

      stopped : is_some (option_map Ended x1.state.ended else when (eqb 0 q) Spent else hindrance f s cells h.space x1) ≡ true
      stopped = still (option_map Ended x1.state.ended) (eqb n1 p) (eqb 0 q) (hindrance f s cells h.space x1)
          (ne_eqb n1 p (λ e. omega arith)) (count_stops f s cells h.space p x0)

  ends : 1 ≤ q → (n1 ≡ p) ⊎ (n2 < q)
  ends k = elim (cases_lt n1 p) [ inl l ↦ inr (let e = short l in omega arith) | inr l ↦ inl (let e = n1_in in omega arith) ]

  last_as : 1 ≤ q → stop_at f s cells h.space (p + q) (n1 + n2) (after f s (n1 + n2) x0) ≡ stop_at f s cells room1 q n2 (after f s n2 y0)
  last_as k = stops_as n2 (omega arith) (together n1 p n2 q n1_in n2_in (ends k))

  counts_some : 1 ≤ q → count f s cells h.space (p + q) x0 ≡ n1 + n2
  counts_some k = count_is f s cells h.space (p + q) x0 (n1 + n2) below (ap is_some (last_as k) ∙ count_stops f s cells room1 q y0)
    where
      first : (j : ℕ) → j < n1 → is_some (stop_at f s cells h.space (p + q) j (after f s j x0)) ≡ false
      first j l =
          let r = count_runs f s cells h.space p x0 j l in
          no_stop f s cells h.space (p + q) j (after f s j x0) r.alive (ne_eqb j (p + q) (λ e. let m = n1_in in omega arith)) r.free

      second : (j : ℕ) → j < n2 → is_some (stop_at f s cells h.space (p + q) (n1 + j) (after f s (n1 + j) x0)) ≡ false
      second j l =
          let m : j < q = let i = n2_in in omega arith in
          ap is_some (stops_as j (omega arith) (together n1 p j q n1_in (omega arith) (inr m))) ∙ count_goes f s cells room1 q y0 j l

      below : (j : ℕ) → j < n1 + n2 → is_some (stop_at f s cells h.space (p + q) j (after f s j x0)) ≡ false
      below j l =
          elim (cases_lt j n1) [
            | inl m ↦ first j m
            | inr m ↦ (let e : n1 + (j - n1) ≡ j = omega arith in
                subst (λ (i : ℕ). is_some (stop_at f s cells h.space (p + q) i (after f s i x0)) ≡ false) e (second (j - n1) (omega arith)))
          ]

  leaves : count f s cells h.space (p + q) x0 ≡ n1 + n2 →
      after f s (count f s cells h.space (p + q) x0) x0 ≡ wide w1 [] (after f s n2 y0)
  leaves e = ap (λ (k : ℕ). after f s k x0) e ∙ goes_on n2 (omega arith)

  hosts : count f s cells h.space (p + q) x0 ≡ n1 + n2 →
      (outcome_begun f s cells (p + q) st h).host ≡ (outcome_begun f s cells q x1.state (outcome_begun f s cells p st h).host).host
  hosts e =
      ap (λ (y : Fed). host y.feed (h.written ++ y.wrote) (h.space - length y.wrote)) (leaves e) ∙
      ap (λ (a : List ℕ). host a (h.written ++ (w1 ++ w2)) (h.space - length (w1 ++ w2))) (append-nil y2.feed) ∙
      ap (λ (b : List ℕ). host y2.feed b (h.space - length (w1 ++ w2))) (sym (append_assoc h.written w1 w2)) ∙
      ap (host y2.feed ((h.written ++ w1) ++ w2)) room2
    where
      y2 : Fed
      y2 = after f s n2 y0

      w2 : List ℕ
      w2 = y2.wrote

      room2 : h.space - length (w1 ++ w2) ≡ (h.space - length w1) - length w2
      room2 = let e = length-append w1 w2 in omega arith

counts : (f s : List ℕ) (cells p q : ℕ) (st : State) (h : Host) → count f s cells h.space (p + q) (x0 f s cells p q st h) ≡ n1 f s cells p q st h + n2 f s cells p q st h
counts f s cells p zero st h = ap (λ (k : ℕ). count f s cells h.space k (fed st h.waits [])) (add-zero p) ∙ sym (add-zero _)
counts f s cells p (suc q) st h = counts_some f s cells p (suc q) st h (omega arith)

-- a run that never began: fuel in the second go is fuel in all
no_fuel : (p q : ℕ) → 1 ≤ q → eqb (p + q) 0 ≡ eqb q 0
no_fuel p q l = eqb_same (p + q) 0 q 0 (λ e. omega arith) (λ e. absurd (omega arith))

pub Regroups-holds : Regroups
Regroups-holds f s cells p q None h =
    (refl, refl, refl, λ k. ap (λ (b : Bool). let o : Stop = cond b Spent StackFull in o) (no_fuel p q k))
Regroups-holds f s cells p q (Some st) h =
    let c = counts f s cells p q st h in (
      ap (λ (y : Fed). Some y.state) (leaves f s cells p q st h c),
      hosts f s cells p q st h c,
      c,
      λ k. ap (λ (i : ℕ). unwrap_or (stop_at f s cells h.space (p + q) i (after f s i (fed st h.waits []))) Spent) c ∙
          ap (λ (o : Option Stop). unwrap_or o Spent) (last_as f s cells p q st h k),
    )

-- so in a row two goes, one straight after the other, are one
pub regroup_row : (f s : List ℕ) (p q : ℕ) (r : Row) (es : List Event) →
    row f s r (slice (p + q) ∷ es) ≡ row f s r (slice p ∷ slice q ∷ es)
regroup_row f s p q r es =
    let g = outcome f s r.cells p r.run r.host in
    let g' = outcome f s r.cells q g.run g.host in
    let w = outcome f s r.cells (p + q) r.run r.host in
    let e = Regroups-holds f s r.cells p q r.run r.host in
    ap (λ (a : Option State). row f s (record { cells = r.cells; run = a; host = w.host; sum = r.sum + w.counted }) es) e.0 ∙
    ap (λ (a : Host). row f s (record { cells = r.cells; run = g'.run; host = a; sum = r.sum + w.counted }) es) e.1 ∙
    ap (λ (a : ℕ). row f s (record { cells = r.cells; run = g'.run; host = g'.host; sum = a }) es)
    (ap (λ (k : ℕ). r.sum + k) e.2 ∙ sym (add_assoc r.sum g.counted g'.counted))
