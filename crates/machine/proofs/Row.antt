-- A row follows the plain machine, which does an instruction for each that the row counts. Assumes nothing.
use Rattle.std.proofs.Common.{◌≡◌, ℕ, ◌+◌, ◌-◌, ◌<◌, Bool, true, false, not, ◌&&◌, ◌||◌, List, [], ◌∷◌, ◌++◌, length, drop, is_some, Some, None, sym, refl, ap, ◌∙◌, subst, inl, inr, append_assoc, append-nil, add-zero, arith}
use Rattle.std.proofs.lemmas.List.{drop_at}
use Rattle.std.proofs.lemmas.Bool.{cases_lt}
use Rattle.format.specs.Search.{when}
use Rattle.verifier.specs.Numbering.{Admitted}
use Rattle.machine.specs.Machine.{State, Fed, fed, main, idle, executed, after, machine_after}
use Rattle.machine.specs.Go.{Host, count, begins}
use Rattle.machine.specs.Rows.{Event, slice, arrives, room_set, Row, with_units, with_room, row, arrivals, row_units, new, wrote, RowRests, Follows, RowsKeepLevel, NeverBegins, SameUnits, FollowsOn, KeepsLevelOn, SameUnitsOn, NeverBeginsOn, ReplaysOn}
use Rattle.machine.proofs.Wide.{wide, awaits_input_wide, after_add, after_wide}
use Rattle.machine.proofs.Counts.{count_runs}
use Rattle.machine.proofs.Level.{keeps_level}
use Rattle.machine.proofs.SameMachine.{same_fed}

abbrev pub begun : ℕ → State → Host → ℕ → Row
begun c st g n = record { cells = c; run = Some st; host = g; sum = n }

abbrev pub unbegun : ℕ → Host → ℕ → Row
unbegun c g n = record { cells = c; run = None; host = g; sum = n }

-- the plain machine after as many instructions as were counted: it is still to be fed what waits and what has yet to arrive
pub record Beside (f s : List ℕ) (x : Fed) (h : Host) (es : List Event) (st : State) (g : Host) (n : ℕ) (w : List ℕ) : Type 0 where
  pub here : after f s n x ≡ fed st (g.waits ++ arrivals es) w
  pub written : g.written ≡ h.written ++ w
  pub busy : (j : ℕ) → j < n → idle f (after f s j x) ≡ false

-- where a row that began ends
pub record Ends (f s : List ℕ) (x : Fed) (h : Host) (r : Row) : Type 0 where
  pub state : State
  pub wrote : List ℕ
  pub run : r.run ≡ Some state
  pub beside : Beside f s x h [] state r.host r.sum wrote

module _ (f s : List ℕ) (x : Fed) (h : Host) where
  beside_slice : (c n : ℕ) (es : List Event) (st : State) (g : Host) (m : ℕ) (w : List ℕ) → Beside f s x h es st g m w →
      let x0 = fed st g.waits [] in
      let k = count f s c g.space n x0 in
      let y = after f s k x0 in
      Beside f s x h es y.state (record { waits = y.feed; written = g.written ++ y.wrote; space = g.space - length y.wrote }) (m + k) (w ++ y.wrote)
  beside_slice c n es st g m w b =
      record {
        here = along k (λ i l. l);
        written = ap (λ (t : List ℕ). t ++ (after f s k x0).wrote) b.written ∙ append_assoc h.written w (after f s k x0).wrote;
        busy = busy;
      }
    where
      x0 : Fed
      x0 = fed st g.waits []

      k : ℕ
      k = count f s c g.space n x0

      along : (i : ℕ) → ((j : ℕ) → j < i → j < k) → after f s (m + i) x ≡ wide w (arrivals es) (after f s i x0)
      along i l =
          after_add f s m i x ∙ ap (after f s i) (b.here ∙ ap (fed st (g.waits ++ arrivals es)) (sym (append-nil w))) ∙
          after_wide f s w (arrivals es) i x0 (λ j p. (count_runs f s c g.space n x0 j (l j p)).fed)

      less : (i : ℕ) → i < k → (j : ℕ) → j < i → j < k
      less i l j p = omega arith

      in_go : (i : ℕ) → i < k → idle f (after f s (m + i) x) ≡ false
      in_go i l =
          let r = count_runs f s c g.space n x0 i l in
          ap (idle f) (along i (less i l)) ∙
          ap (λ (b : Bool). is_some (after f s i x0).state.ended || b) (awaits_input_wide f w (arrivals es) (after f s i x0) r.fed) ∙
          ap (λ (b : Bool). b || false) r.alive

      busy : (j : ℕ) → j < m + k → idle f (after f s j x) ≡ false
      busy j l =
          elim (cases_lt j m) [
            | inl p ↦ b.busy j p
            | inr p ↦ (let e : m + (j - m) ≡ j = omega arith in
                subst (λ (i : ℕ). idle f (after f s i x) ≡ false) e (in_go (j - m) (omega arith)))
          ]

  beside : (es : List Event) (c : ℕ) (st : State) (g : Host) (n : ℕ) (w : List ℕ) → Beside f s x h es st g n w →
      Ends f s x h (row f s (begun c st g n) es)
  beside [] c st g n w b = record { state = st; wrote = w; run = refl; beside = b }
  beside (slice k ∷ es) c st g n w b =
      beside es c _ _ _ _ (beside_slice c k es st g n w (record { here = b.here; written = b.written; busy = b.busy }))
  beside (arrives u ∷ es) c st g n w b =
      beside es c st (with_units g (u ∷ [])) n w
      (record {
        here = b.here ∙ ap (λ (t : List ℕ). fed st t w) (sym (append_assoc g.waits (u ∷ []) (arrivals es)));
        written = b.written;
        busy = b.busy;
      })
  beside (room_set m ∷ es) c st g n w b =
      beside es c st (with_room g m) n w (record { here = b.here; written = b.written; busy = b.busy })

-- a run that never began stays so
stays : (f s : List ℕ) (es : List Event) (c : ℕ) (g : Host) (n : ℕ) →
    let r = row f s (unbegun c g n) es in (r.run ≡ None) × (r.sum ≡ n) × (r.host.written ≡ g.written) × (r.host.waits ≡ g.waits ++ arrivals es)
stays f s [] c g n = (refl, refl, refl, sym (append-nil g.waits))
stays f s (slice k ∷ es) c g n = let i = stays f s es c g (n + 0) in (i.0, i.1 ∙ add-zero n, i.2, i.3)
stays f s (arrives u ∷ es) c g n =
    let i = stays f s es c (with_units g (u ∷ [])) n in
    (i.0, i.1, i.2, i.3 ∙ append_assoc g.waits (u ∷ []) (arrivals es))
stays f s (room_set m ∷ es) c g n = stays f s es c (with_room g m) n

new_as : (f s : List ℕ) (cells : ℕ) (h : Host) (b : Bool) → begins f s cells ≡ b →
    new f s cells h ≡ record { cells = cells; run = when b (main f); host = h; sum = 0 }
new_as f s cells h b e = ap (λ (b : Bool). let r : Row = record { cells = cells; run = when b (main f); host = h; sum = 0 } in r) e

pub never_begins_on : (f s : List ℕ) (cells : ℕ) → NeverBeginsOn f s cells
never_begins_on f s cells e h es =
    let i = stays f s es cells h 0 in
    subst (λ (r : Row). RowRests (row_units h es) h (row f s r es)) (sym (new_as f s cells h false e))
    (record { state = i.0; sum = i.1; written = i.2; waits = i.3 })

-- with no rule on the file or its sheet
pub ends : (f s : List ℕ) (cells : ℕ) → begins f s cells ≡ true → (h : Host) (es : List Event) →
    Ends f s (fed (main f) (row_units h es) []) h (row f s (new f s cells h) es)
ends f s cells e h es =
    subst (λ (r : Row). Ends f s (fed (main f) (row_units h es) []) h (row f s r es)) (sym (new_as f s cells h true e))
    (beside f s (fed (main f) (row_units h es) []) h es cells (main f) h 0 []
    (record { here = refl; written = sym (append-nil h.written); busy = λ j l. absurd (omega arith) }))

pub follows_on : (f s : List ℕ) (cells : ℕ) → FollowsOn f s cells
follows_on f s cells e h es =
    let b = ends f s cells e h es in
    let r = row f s (new f s cells h) es in
    record {
      state = b.run ∙ ap (λ (y : Fed). Some y.state) (sym b.beside.here);
      written = b.beside.written ∙ ap (λ (y : Fed). h.written ++ y.wrote) (sym b.beside.here);
      waits = sym (ap (λ (y : Fed). y.feed) b.beside.here ∙ append-nil r.host.waits);
    }

-- what a row wrote, begun or not
pub wrote_is : (f s : List ℕ) (cells : ℕ) (h : Host) (es : List Event) →
    let r = row f s (new f s cells h) es in
    wrote h r ≡ (machine_after f s r.sum (row_units h es)).wrote
wrote_is f s cells h es = ap (drop (length h.written)) (all (begins f s cells) refl) ∙ drop_at h.written m.wrote (length h.written) refl
  where
    r : Row
    r = row f s (new f s cells h) es

    m : Fed
    m = machine_after f s r.sum (row_units h es)

    all : (b : Bool) → begins f s cells ≡ b → r.host.written ≡ h.written ++ m.wrote
    all true e = (follows_on f s cells e h es).written
    all false e =
        let n = never_begins_on f s cells e h es in
        n.written ∙ sym (append-nil h.written) ∙ ap (λ (k : ℕ). h.written ++ (machine_after f s k (row_units h es)).wrote) (sym n.sum)

-- not idle and not astray
moves : (b c : Bool) → b ≡ false → (not b && not c) ≡ false → (not b && c) ≡ true
moves true c e h = cc
moves false true e h = refl
moves false false e h = cc

pub keeps_level_on : (f s : List ℕ) → Admitted f s → (cells : ℕ) → KeepsLevelOn f s cells
keeps_level_on f s a cells e h es =
    record {
      level = λ j l. (keeps_level f s a j (row_units h es)).0;
      not_astray = λ j l. (keeps_level f s a j (row_units h es)).1;
      counted = λ j l. moves (idle f (machine_after f s j (row_units h es))) (is_some (executed f s (machine_after f s j (row_units h es))))
          ((ends f s cells e h es).beside.busy j l) (keeps_level f s a j (row_units h es)).1;
      state = (follows_on f s cells e h es).state;
    }

pub same_units_on : (f s : List ℕ) → Admitted f s → (cells : ℕ) → SameUnitsOn f s cells
same_units_on f s a cells e s' a' cells' e' h h' es es' n u =
    let r = row f s (new f s cells h) es in
    let r' = row f s' (new f s' cells' h') es' in
    let same : machine_after f s r.sum (row_units h es) ≡ machine_after f s' r'.sum (row_units h' es')
    = ap (λ (k : ℕ). machine_after f s k (row_units h es)) n ∙ ap (machine_after f s r'.sum) u ∙ same_fed f s s' a a' r'.sum (row_units h' es') in (
      (follows_on f s cells e h es).state ∙ ap (λ (y : Fed). Some y.state) same ∙ sym (follows_on f s' cells' e' h' es').state,
      wrote_is f s cells h es ∙ ap (λ (y : Fed). y.wrote) same ∙ sym (wrote_is f s' cells' h' es'),
    )

pub replays_on : (f s : List ℕ) → Admitted f s → (cells : ℕ) → ReplaysOn f s cells
replays_on f s a cells = record { follows = follows_on f s cells; same_units = same_units_on f s a cells; never_begins = never_begins_on f s cells }

-- the same of every admitted file
pub Follows-holds : Follows
Follows-holds f s a cells e h es = let r = follows_on f s cells e h es in (r.state, r.written, r.waits)

pub RowsKeepLevel-holds : RowsKeepLevel
RowsKeepLevel-holds f s a cells e h es =
    let r = keeps_level_on f s a cells e h es in
    ((λ j l. (r.level j l, r.not_astray j l)), r.counted, r.state)

pub NeverBegins-holds : NeverBegins
NeverBegins-holds f s cells e h es = let r = never_begins_on f s cells e h es in (r.state, r.sum, r.written, r.waits)

pub SameUnits-holds : SameUnits
SameUnits-holds f s s' a a' cells cells' e e' = same_units_on f s a cells e s' a' cells' e'
