-- A row on a label so far, and the laws of the row that it goes on with. Assumes nothing.
use Rattle.std.proofs.Common.{◌≡◌, ℕ, ◌+◌, ◌*◌, ◌≤◌, true, List, [], ◌∷◌, ◌++◌, drop, None, Option, sym, refl, ap, ◌∙◌, subst, add-zero, add_assoc, arith}
use Rattle.host.specs.declared.label.Label.{Label}
use Rattle.host.specs.Label.{label_capacity}
use Rattle.verifier.specs.Numbering.{Admitted}
use Rattle.machine.specs.declared.stop.Stop.{Stop}
use Rattle.machine.specs.Go.{Host, begins}
use Rattle.machine.specs.Rows as any
use Rattle.machine.specs.Rows.{slice, arrives, room_set, Row, apply_event, row, new, row_units, RowFollows, RowKeepsLevel, RowRests}
use Rattle.machine.proofs.Row.{keeps_level_on, follows_on, never_begins_on}
use Rattle.run.specs.declared.run.Run.{Run}
use Rattle.run.specs.Run.{file_of, sheet_of, size_of, Stays}
use Rattle.run.proofs.Runs.{admitted_run, stays_refl, stays_trans}
use Rattle.rows.specs.declared.event.Event.{Event}
use Rattle.rows.specs.Carried.{at, effect, effects, stop_after, last_stop, stop_or, count_of, effects_on, Carried, Carries, Comes, Lawful, GoesOn}

-- events after events
row_append : (f s : List ℕ) (r : Row) (es ds : List any.Event) → row f s r (es ++ ds) ≡ row f s (row f s r es) ds
row_append f s r [] ds = refl
row_append f s r (e ∷ es) ds = row_append f s (apply_event f s r e) es ds

last_stop_append : (f s : List ℕ) (b : Option Stop) (r : Row) (es ds : List any.Event) →
    last_stop f s b r (es ++ ds) ≡ last_stop f s (last_stop f s b r es) (row f s r es) ds
last_stop_append f s b r [] ds = refl
last_stop_append f s b r (e ∷ es) ds = last_stop_append f s (stop_after f s b r e) (apply_event f s r e) es ds

-- what was counted before a row does not matter to it
abbrev plus : ℕ → Row → Row
plus n r = record { cells = r.cells; run = r.run; host = r.host; sum = n + r.sum }

row_plus : (f s : List ℕ) (n : ℕ) (r : Row) (es : List any.Event) → row f s (plus n r) es ≡ plus n (row f s r es)
row_plus f s n r [] = refl
row_plus f s n r (slice k ∷ es) =
    ap (λ (m : ℕ). row f s (let g = apply_event f s r (slice k) in let r : Row = record { cells = g.cells; run = g.run; host = g.host; sum = m } in r) es)
    (add_assoc n r.sum _) ∙ row_plus f s n (apply_event f s r (slice k)) es
row_plus f s n r (arrives u ∷ es) = row_plus f s n (apply_event f s r (arrives u)) es
row_plus f s n r (room_set m ∷ es) = row_plus f s n (apply_event f s r (room_set m)) es

-- of events that are carried out from r0 and l0 on, those from i on are left: the row has come to r and l, counted n, and stopped last so
pub record Going (r0 : Run) (l0 : Label) (es : List Event) (i : ℕ) (r : Run) (l : Label) (last : Option Stop) (n : ℕ) : Type 0 where
  pub row : row (file_of r0) (sheet_of r0) (at r l n) (effects (file_of r0) (sheet_of r0) (label_capacity l0) (at r l n) (drop i es)) ≡
      row (file_of r0) (sheet_of r0) (at r0 l0 0) (effects_on r0 l0 es)
  pub stop : last_stop (file_of r0) (sheet_of r0) last (at r l n) (effects (file_of r0) (sheet_of r0) (label_capacity l0) (at r l n) (drop i es)) ≡
      last_stop (file_of r0) (sheet_of r0) None (at r0 l0 0) (effects_on r0 l0 es)
  pub stays : Stays r0 r
  pub capacity : label_capacity l ≡ label_capacity l0
  pub few : n ≤ i * 4294967295

pub going_start : (r : Run) (l : Label) (es : List Event) → Going r l es 0 r l None 0
going_start r l es =
    record { row = refl; stop = refl; stays = stays_refl r; capacity = refl; few = omega arith }

module _ (r0 : Run) (l0 : Label) (es : List Event) (i : ℕ) (r : Run) (l : Label) (last : Option Stop) (n : ℕ) (g : Going r0 l0 es i r l last n) where
  abbrev f : List ℕ
  f = file_of r0

  abbrev s : List ℕ
  s = sheet_of r0

  -- none is left
  pub going_ends : drop i es ≡ [] → Carries r0 l0 es r l (last, n)
  going_ends e =
      record {
        row = sym g.row ∙ ap (λ (ds : List Event). row f s (at r l n) (effects f s (label_capacity l0) (at r l n) ds)) e;
        stop = sym g.stop ∙ ap (λ (ds : List Event). last_stop f s last (at r l n) (effects f s (label_capacity l0) (at r l n) ds)) e;
        stays = g.stays;
        capacity = g.capacity;
      }

  -- one more
  going_on : (e : Event) → drop i es ≡ e ∷ drop (i + 1) es → (r' : Run) (l' : Label) (answer : Option (Stop × ℕ)) → Carried r l e r' l' answer →
      count_of answer ≤ 4294967295 → Going r0 l0 es (i + 1) r' l' (stop_or last answer) (n + count_of answer)
  going_on e d r' l' answer c k =
      record {
        row =
            sym (
            ap (λ (ds : List Event). row f s x (effects f s (label_capacity l0) x ds)) d ∙ row_append f s x one (effects f s (label_capacity l0) (row f s x one) (drop (i + 1) es)) ∙
            ap (λ (y : Row). row f s y (effects f s (label_capacity l0) y (drop (i + 1) es))) next
            ) ∙ g.row;
        stop =
            sym (
            ap (λ (ds : List Event). last_stop f s last x (effects f s (label_capacity l0) x ds)) d ∙ last_stop_append f s last x one (effects f s (label_capacity l0) (row f s x one) (drop (i + 1) es)) ∙
            ap (λ (b : Option Stop). last_stop f s b (row f s x one) (effects f s (label_capacity l0) (row f s x one) (drop (i + 1) es))) stops ∙
            ap (λ (y : Row). last_stop f s (stop_or last answer) y (effects f s (label_capacity l0) y (drop (i + 1) es))) next
            ) ∙ g.stop;
        stays = stays_trans _ _ _ g.stays c.stays;
        capacity = c.capacity ∙ g.capacity;
        few = more i n (count_of answer) g.few k;
      }
    where
      x : Row
      x = at r l n

      one : List any.Event
      one = effect (label_capacity l0) x e

      more : (i n k : ℕ) → n ≤ i * 4294967295 → k ≤ 4294967295 → n + k ≤ (i + 1) * 4294967295
      more i n k p q = omega arith

      moved : (P : List ℕ → List ℕ → ℕ → Type 0) → P (file_of r) (sheet_of r) (label_capacity l) → P f s (label_capacity l0)
      moved P p =
          subst (λ (k : ℕ). P f s k) g.capacity
          (subst (λ (t : List ℕ). P f t (label_capacity l)) g.stays.sheet (subst (λ (t : List ℕ). P t (sheet_of r) (label_capacity l)) g.stays.file p))

      next : row f s x one ≡ at r' l' (n + count_of answer)
      next = moved (λ f s k. row f s x (effect k x e) ≡ at r' l' (n + count_of answer)) (c.row n)

      stops : last_stop f s last x one ≡ stop_or last answer
      stops = moved (λ f s k. last_stop f s last x (effect k x e) ≡ stop_or last answer) (c.stop last n)

  -- the same, of a stop and a sum that are equal to those
  pub going_with : (e : Event) → drop i es ≡ e ∷ drop (i + 1) es → (r' : Run) (l' : Label) (answer : Option (Stop × ℕ)) → Carried r l e r' l' answer →
      count_of answer ≤ 4294967295 → (last' : Option Stop) (n' : ℕ) → last' ≡ stop_or last answer → n' ≡ n + count_of answer → Going r0 l0 es (i + 1) r' l' last' n'
  going_with e d r' l' answer c k last' n' p q =
      subst (λ (b : Option Stop). Going r0 l0 es (i + 1) r' l' b n') (sym p)
      (subst (λ (m : ℕ). Going r0 l0 es (i + 1) r' l' (stop_or last answer) m) (sym q) (going_on e d r' l' answer c k))

-- where a row of a new run has come to: its laws
lawful : (r : Run) (l : Label) (h : Host) (es : List any.Event) (n : ℕ) → Comes r l h es n → Lawful r l h es n
lawful r l h es n q =
    record {
      levels = λ e. subst (λ (y : Row). RowKeepsLevel f s (row_units h es) y) q (keeps_level_on f s (admitted e) (size_of r) e h es);
      follows = λ e. subst (λ (y : Row). RowFollows f s (row_units h es) h y) q (follows_on f s (size_of r) e h es);
      rests = λ e. subst (λ (y : Row). RowRests (row_units h es) h y) q (never_begins_on f s (size_of r) e h es);
    }
  where
    f : List ℕ
    f = file_of r

    s : List ℕ
    s = sheet_of r

    admitted : begins f s (size_of r) ≡ true → Admitted f s
    admitted e = admitted_run r _ (ap (λ (y : Row). y.run) (sym q) ∙ (follows_on f s (size_of r) e h es).state)

-- events carried out make the row longer
pub goes_on : (r : Run) (l : Label) (es : List Event) (r' : Run) (l' : Label) (answer : Option Stop × ℕ) → Carries r l es r' l' answer →
    GoesOn r l es r' l' answer.1
goes_on r l es r' l' answer c h before n q = (comes, lawful r' l' h (before ++ done) (n + answer.1) comes)
  where
    f : List ℕ
    f = file_of r

    s : List ℕ
    s = sheet_of r

    done : List any.Event
    done = effects_on r l es

    here : row f s (new f s (size_of r) h) (before ++ done) ≡ at r' l' (n + answer.1)
    here =
        row_append f s (new f s (size_of r) h) before done ∙ ap (λ (y : Row). row f s y done) (q ∙ ap (at r l) (sym (add-zero n))) ∙
        row_plus f s n (at r l 0) done ∙ ap (plus n) c.row

    comes : Comes r' l' h (before ++ done) (n + answer.1)
    comes =
        subst (λ (k : ℕ). row (file_of r') (sheet_of r') (new (file_of r') (sheet_of r') k h) (before ++ done) ≡ at r' l' (n + answer.1)) (sym c.stays.size)
        (subst (λ (t : List ℕ). row (file_of r') t (new (file_of r') t (size_of r) h) (before ++ done) ≡ at r' l' (n + answer.1)) (sym c.stays.sheet)
        (subst (λ (t : List ℕ). row t s (new t s (size_of r) h) (before ++ done) ≡ at r' l' (n + answer.1)) (sym c.stays.file) here))
