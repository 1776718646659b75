-- Rows on a label: the events as they take effect, and what a row of them leaves and answers. Assumes nothing.
use Rattle.std.specs.Prelude.{◌≡◌, ℕ, ◌+◌, true, false, cond, List, [], ◌∷◌, ◌++◌, length, Some, None, Option, nat_lt}
use Rattle.host.specs.declared.label.Label.{Label}
use Rattle.host.specs.Label.{label_waiting, label_written, label_space, label_capacity}
use Rattle.machine.specs.declared.stop.Stop.{Stop}
use Rattle.machine.specs.Go.{Host, outcome, begins}
use Rattle.machine.specs.Rows as any
use Rattle.machine.specs.Rows.{slice, arrives, room_set, Row, apply_event, row, new, row_units, RowFollows, RowKeepsLevel, RowRests}
use Rattle.run.specs.declared.run.Run.{Run}
use Rattle.run.specs.Run.{file_of, sheet_of, size_of, seen, Stays}
use Rattle.run.specs.Step.{host_of}
use Rattle.rows.specs.declared.event.Event.{Event}
use Rattle.rows.specs.declared.event.Event.TheVariants.{Go, Key}

-- a label by value
abbrev pub label_host : Label → Host
label_host l = host_of (label_waiting l) (label_written l) (label_space l)

-- a row that has come to this run and this label, and whose counts add up to n
abbrev pub at : Run → Label → ℕ → Row
at r l n = record { cells = size_of r; run = seen r; host = label_host l; sum = n }

-- an event as it takes effect in a row, at a line of this capacity: a unit that is keyed on a full line does not arrive
abbrev pub effect : ℕ → Row → Event → List any.Event
effect capacity r (Go fuel) = slice fuel ∷ []
effect capacity r (Key unit) = cond (nat_lt (length r.host.waits) capacity) (arrives unit ∷ []) []

-- events, one after the other
abbrev pub effects : List ℕ → List ℕ → ℕ → Row → List Event → List any.Event
effects f s capacity r [] = []
effects f s capacity r (e ∷ es) = effect capacity r e ++ effects f s capacity (row f s r (effect capacity r e)) es

-- why the last go stopped; where there is none, as before
abbrev pub stop_after : List ℕ → List ℕ → Option Stop → Row → any.Event → Option Stop
stop_after f s before r (slice n) = Some (outcome f s r.cells n r.run r.host).stop
stop_after f s before r (arrives u) = before
stop_after f s before r (room_set m) = before

abbrev pub last_stop : List ℕ → List ℕ → Option Stop → Row → List any.Event → Option Stop
last_stop f s before r [] = before
last_stop f s before r (e ∷ es) = last_stop f s (stop_after f s before r e) (apply_event f s r e) es

-- the stop and the count of one event: a key has none
abbrev pub stop_or : Option Stop → Option (Stop × ℕ) → Option Stop
stop_or before None = before
stop_or before (Some answer) = Some answer.0

abbrev pub count_of : Option (Stop × ℕ) → ℕ
count_of None = 0
count_of (Some answer) = answer.1

-- the events on a run and a label, as they take effect
abbrev pub effects_on : Run → Label → List Event → List any.Event
effects_on r l es = effects (file_of r) (sheet_of r) (label_capacity l) (at r l 0) es

-- one event was carried out, in a row whose counts add up to any n
pub record Carried (r : Run) (l : Label) (e : Event) (r' : Run) (l' : Label) (answer : Option (Stop × ℕ)) : Type 0 where
  pub row : (n : ℕ) → row (file_of r) (sheet_of r) (at r l n) (effect (label_capacity l) (at r l n) e) ≡ at r' l' (n + count_of answer)
  pub stop : (before : Option Stop) (n : ℕ) → last_stop (file_of r) (sheet_of r) before (at r l n) (effect (label_capacity l) (at r l n) e) ≡ stop_or before answer
  pub stays : Stays r r'
  pub capacity : label_capacity l' ≡ label_capacity l

-- a row of events was carried out: where it is, and what it answered
pub record Carries (r : Run) (l : Label) (es : List Event) (r' : Run) (l' : Label) (answer : Option Stop × ℕ) : Type 0 where
  pub row : row (file_of r) (sheet_of r) (at r l 0) (effects_on r l es) ≡ at r' l' answer.1
  pub stop : last_stop (file_of r) (sheet_of r) None (at r l 0) (effects_on r l es) ≡ answer.0
  pub stays : Stays r r'
  pub capacity : label_capacity l' ≡ label_capacity l

-- the run and the label are where a row is that began on the host h as a new run, had the events es and counted n
abbrev pub Comes : Run → Label → Host → List any.Event → ℕ → Type 0
Comes r l h es n = row (file_of r) (sheet_of r) (new (file_of r) (sheet_of r) (size_of r) h) es ≡ at r l n

-- the laws of that row
pub record Lawful (r : Run) (l : Label) (h : Host) (es : List any.Event) (n : ℕ) : Type 0 where
  pub levels : begins (file_of r) (sheet_of r) (size_of r) ≡ true → RowKeepsLevel (file_of r) (sheet_of r) (row_units h es) (at r l n)
  pub follows : begins (file_of r) (sheet_of r) (size_of r) ≡ true → RowFollows (file_of r) (sheet_of r) (row_units h es) h (at r l n)
  pub rests : begins (file_of r) (sheet_of r) (size_of r) ≡ false → RowRests (row_units h es) h (at r l n)

-- whatever row led to the run and the label, with these events it is a longer one of the same run, and its laws hold
abbrev pub GoesOn : Run → Label → List Event → Run → Label → ℕ → Type 0
GoesOn r l es r' l' sum = (h : Host) (before : List any.Event) (n : ℕ) → Comes r l h before n →
    Comes r' l' h (before ++ effects_on r l es) (n + sum) × Lawful r' l' h (before ++ effects_on r l es) (n + sum)
