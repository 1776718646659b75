-- Units that arrive after a go may as well arrive before it. Assumes nothing.
use Rattle.std.proofs.Common.{◌≡◌, ℕ, ◌+◌, ◌-◌, ◌<◌, ◌≤◌, Bool, true, false, eqb, ltb, List, [], ◌∷◌, ◌++◌, length, is_some, Some, None, Option, unwrap_or, refl, ap, ◌∙◌, arith}
use Rattle.std.specs.Option.{option_map}
use Rattle.format.specs.Search.{◌else◌, when}
use Rattle.machine.specs.Machine.{Fed, fed, awaits_input, after}
use Rattle.machine.specs.declared.stop.Stop.{Stop}
use Rattle.machine.specs.declared.stop.Stop.TheVariants.{Ended, Spent, NoUnit, NoRoom, StackFull}
use Rattle.machine.specs.Go.{cells_used, call_need, next_text, stop_at, count, Host, Outcome, outcome}
use Rattle.machine.specs.Rows.{Event, slice, arrives, Row, row, EarlyUnits}
use Rattle.machine.proofs.Wide.{wide, awaits_input_wide, after_wide}
use Rattle.machine.proofs.Counts.{count_goes, count_runs, count_stops, count_is}

-- the reasons after hunger
abbrev later : List ℕ → List ℕ → ℕ → ℕ → Fed → Option Stop
later f s cells room x =
    when (ltb room (length x.wrote + length (next_text f x.state))) NoRoom else
    when (ltb (cells_used cells) (unwrap_or (call_need f s x.state) 0)) StackFull

-- where a go does not stop for hunger, more units change no reason
pub stop_more : (f s us : List ℕ) (cells room fuel j : ℕ) (x : Fed) → (unwrap_or (stop_at f s cells room fuel j x) Spent ≡ NoUnit → ⊥) →
    stop_at f s cells room fuel j (wide [] us x) ≡ stop_at f s cells room fuel j x
stop_more f s us cells room fuel j x = go (option_map Ended x.state.ended) (eqb j fuel) (awaits_input f x) refl
  where
    go : (o : Option Stop) (b c : Bool) → awaits_input f x ≡ c →
        (unwrap_or (o else when b Spent else when c NoUnit else later f s cells room x) Spent ≡ NoUnit → ⊥) →
        (o else when b Spent else when (awaits_input f (wide [] us x)) NoUnit else later f s cells room x) ≡
        (o else when b Spent else when c NoUnit else later f s cells room x)
    go (Some y) b c e n = refl
    go None true c e n = refl
    go None false true e n = absurd (n refl)
    go None false false e n = ap (λ (d : Bool). when d NoUnit else later f s cells room x) (awaits_input_wide f [] us x e)

module _ (f s us : List ℕ) (cells room fuel : ℕ) (x : Fed) where
  abbrev n : ℕ
  n = count f s cells room fuel x

  ahead : (j : ℕ) → j ≤ n → after f s j (wide [] us x) ≡ wide [] us (after f s j x)
  ahead j l = after_wide f s [] us j x (λ i k. (count_runs f s cells room fuel x i (le i k)).fed)
    where
      le : (i : ℕ) → i < j → i < n
      le i k = omega arith

  abbrev NotWaiting : Type 0
  NotWaiting = unwrap_or (stop_at f s cells room fuel n (after f s n x)) Spent ≡ NoUnit → ⊥

  last_more : NotWaiting → stop_at f s cells room fuel n (after f s n (wide [] us x)) ≡ stop_at f s cells room fuel n (after f s n x)
  last_more k = ap (stop_at f s cells room fuel n) (ahead n (omega arith)) ∙ stop_more f s us cells room fuel n (after f s n x) k

  count_more : NotWaiting → count f s cells room fuel (wide [] us x) ≡ n
  count_more k = count_is f s cells room fuel (wide [] us x) n below (ap is_some (last_more k) ∙ count_stops f s cells room fuel x)
    where
      none : (o : Option Stop) → is_some o ≡ false → unwrap_or o Spent ≡ NoUnit → ⊥
      none None e d = absurd (let z : ◌≡◌ {A = ℕ} 0 1 = cc in omega arith)
      none (Some y) e d = absurd (let z : ◌≡◌ {A = ℕ} 0 1 = cc in omega arith)

      below : (j : ℕ) → j < n → is_some (stop_at f s cells room fuel j (after f s j (wide [] us x))) ≡ false
      below j l =
          let m = count_goes f s cells room fuel x j l in
          ap (λ (y : Fed). is_some (stop_at f s cells room fuel j y)) (ahead j (omega arith)) ∙
          ap is_some (stop_more f s us cells room fuel j (after f s j x) (none _ m)) ∙ m

-- what a go leaves, by its count, its stop and where the machine then is
abbrev left : Host → ℕ → Option Stop → Fed → Outcome
left h n o x =
    record {
      run = Some x.state;
      host = record { waits = x.feed; written = h.written ++ x.wrote; space = h.space - length x.wrote };
      stop = unwrap_or o Spent;
      counted = n;
    }

pub EarlyUnits-holds : EarlyUnits
EarlyUnits-holds f s cells fuel None h us k = refl
EarlyUnits-holds f s cells fuel (Some st) h us k =
    let x = fed st h.waits [] in
    let m = count f s cells h.space fuel x in
    ap (λ (i : ℕ). left h i (stop_at f s cells h.space fuel i (after f s i (wide [] us x))) (after f s i (wide [] us x))) (count_more f s us cells h.space fuel x k) ∙
    ap (λ (o : Option Stop). left h m o (after f s m (wide [] us x))) (last_more f s us cells h.space fuel x k) ∙
    ap (left h m (stop_at f s cells h.space fuel m (after f s m x))) (ahead f s us cells h.space fuel x m (omega arith))

-- so in a row a go and an arrival change places
pub early_row : (f s : List ℕ) (n u : ℕ) (r : Row) (es : List Event) → ((outcome f s r.cells n r.run r.host).stop ≡ NoUnit → ⊥) →
    row f s r (arrives u ∷ slice n ∷ es) ≡ row f s r (slice n ∷ arrives u ∷ es)
early_row f s n u r es k =
    ap (λ (g : Outcome). row f s (record { cells = r.cells; run = g.run; host = g.host; sum = r.sum + g.counted }) es)
    (EarlyUnits-holds f s r.cells n r.run r.host (u ∷ []) k)
