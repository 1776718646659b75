-- Rows: any succession of go calls on one new run, with what happens to its host between them. Assumes nothing.
use Rattle.std.specs.Prelude.{◌≡◌, ℕ, ◌+◌, ◌<◌, ◌≤◌, true, false, List, [], ◌∷◌, ◌++◌, length, drop, Some, None, Option, ◌≢◌}
use Rattle.format.specs.Layout.{byte, parameters}
use Rattle.bytecode.specs.Places.{is_place}
use Rattle.verifier.specs.Numbering.{number, Admitted}
use Rattle.machine.specs.declared.stop.Stop.TheVariants.{NoUnit}
use Rattle.machine.specs.Machine.{Frame, State, machine_after, astray, advances}
use Rattle.machine.specs.Go.{Host, outcome, begins, start}

-- what happens in a row: a go with its fuel, a unit that arrives, another room
pub data Event : Type 0 where
  slice : ℕ → Event
  arrives : ℕ → Event
  room_set : ℕ → Event

-- the cells, the run on them, its host, and the sum of the counts so far
pub record Row : Type 0 where
  pub cells : ℕ
  pub run : Option State
  pub host : Host
  pub sum : ℕ

-- a host at which units arrive, and one with another room
abbrev pub with_units : Host → List ℕ → Host
with_units h us = record { waits = h.waits ++ us; written = h.written; space = h.space }

abbrev pub with_room : Host → ℕ → Host
with_room h m = record { waits = h.waits; written = h.written; space = m }

abbrev pub apply_event : List ℕ → List ℕ → Row → Event → Row
apply_event f s r (slice n) =
    let g = outcome f s r.cells n r.run r.host in
    record { cells = r.cells; run = g.run; host = g.host; sum = r.sum + g.counted }
apply_event f s r (arrives u) = record { cells = r.cells; run = r.run; host = with_units r.host (u ∷ []); sum = r.sum }
apply_event f s r (room_set m) = record { cells = r.cells; run = r.run; host = with_room r.host m; sum = r.sum }

abbrev pub row : List ℕ → List ℕ → Row → List Event → Row
row f s r [] = r
row f s r (e ∷ es) = row f s (apply_event f s r e) es

abbrev pub new : List ℕ → List ℕ → ℕ → Host → Row
new f s cells h = record { cells = cells; run = start f s cells; host = h; sum = 0 }

abbrev pub arrivals : List Event → List ℕ
arrivals [] = []
arrivals (slice n ∷ es) = arrivals es
arrivals (arrives u ∷ es) = u ∷ arrivals es
arrivals (room_set m ∷ es) = arrivals es

-- a row's list of units: those that wait at its start, then those that arrive
abbrev pub row_units : Host → List Event → List ℕ
row_units h es = h.waits ++ arrivals es

-- what a row wrote
abbrev pub wrote : Host → Row → List ℕ
wrote h r = drop (length h.written) r.host.written

-- at p, a place of the frame's method, stands a call of method k
abbrev pub Calls : List ℕ → Frame → ℕ → ℕ → Type 0
Calls f c p k = (is_place f c.method p ≡ true) × (byte f p ≡ 0xB6) × (byte f (p + 1) ≡ k)

-- each frame that waits: its call of the method above, at p, stands two bytes before the return place of the frame above,
-- and its operands and the parameters taken from them are together as many as the number there
abbrev pub Waits : List ℕ → List ℕ → Frame → List Frame → Type 0
Waits f s above [] = Unit {0}
Waits f s above (c ∷ cs) =
    ((p : ℕ) × (above.return_place ≡ p + 2) × Calls f c p above.method × (length c.operands + parameters f above.method ≡ number s p)) ×
    Waits f s c cs

-- the running frame stands at a place of its method, and holds as many operands as the sheet's number for that place
abbrev pub Level : List ℕ → List ℕ → State → Type 0
Level f s st =
    (is_place f st.running.method st.place ≡ true) ×
    (length st.running.operands ≡ number s st.place) ×
    Waits f s st.running st.waiting

-- the plain machine keeps the sheet's numbers and is not astray, after any number of instructions, fed any units
abbrev pub KeepsLevel : Type 0
KeepsLevel = (f s : List ℕ) → Admitted f s → (n : ℕ) (us : List ℕ) →
    Level f s (machine_after f s n us).state × (astray f s (machine_after f s n us) ≡ false)

-- a row of an admitted file whose main frame fits is where the plain machine is after as many instructions as its counts
-- add up to, fed the row's units; it wrote what that wrote, and what waits is what that is still to be fed
abbrev pub Follows : Type 0
Follows = (f s : List ℕ) → Admitted f s → (cells : ℕ) → begins f s cells ≡ true → (h : Host) (es : List Event) →
    let r = row f s (new f s cells h) es in
    let m = machine_after f s r.sum (row_units h es) in
    (r.run ≡ Some m.state) × (r.host.written ≡ h.written ++ m.wrote) × (r.host.waits ≡ m.feed)

-- in such a row the sheet's numbers are kept at the start and after each instruction done, inside a go too, and the machine
-- is never astray; each instruction counted is one that the plain machine does; and the row ends where the last leaves it
abbrev pub RowsKeepLevel : Type 0
RowsKeepLevel = (f s : List ℕ) → Admitted f s → (cells : ℕ) → begins f s cells ≡ true → (h : Host) (es : List Event) →
    let r = row f s (new f s cells h) es in
    ((j : ℕ) → j ≤ r.sum → Level f s (machine_after f s j (row_units h es)).state × (astray f s (machine_after f s j (row_units h es)) ≡ false)) ×
    ((j : ℕ) → j < r.sum → advances f s (machine_after f s j (row_units h es)) ≡ true) ×
    (r.run ≡ Some (machine_after f s r.sum (row_units h es)).state)

-- a row whose main frame does not fit has no state, counts nothing, writes nothing and takes nothing
abbrev pub NeverBegins : Type 0
NeverBegins = (f s : List ℕ) (cells : ℕ) → begins f s cells ≡ false → (h : Host) (es : List Event) →
    let r = row f s (new f s cells h) es in
    (r.run ≡ None) × (r.sum ≡ 0) × (r.host.written ≡ h.written) × (r.host.waits ≡ row_units h es)

-- two rows of one file, each with an admitted sheet of its own on which main's frame fits: equal sums and equal units give
-- equal states and equal written units
abbrev pub SameUnits : Type 0
SameUnits = (f s s' : List ℕ) → Admitted f s → Admitted f s' →
    (cells cells' : ℕ) → begins f s cells ≡ true → begins f s' cells' ≡ true →
    (h h' : Host) (es es' : List Event) →
    let r = row f s (new f s cells h) es in
    let r' = row f s' (new f s' cells' h') es' in
    r.sum ≡ r'.sum → row_units h es ≡ row_units h' es' →
    (r.run ≡ r'.run) × (wrote h r ≡ wrote h' r')

-- the row r is where the plain machine is after as many instructions as its counts add up to, fed the row's units us; from the
-- host h on it wrote what that wrote, and what waits is what that is still to be fed
pub record RowFollows (f s us : List ℕ) (h : Host) (r : Row) : Type 0 where
  pub state : r.run ≡ Some (machine_after f s r.sum us).state
  pub written : r.host.written ≡ h.written ++ (machine_after f s r.sum us).wrote
  pub waits : r.host.waits ≡ (machine_after f s r.sum us).feed

-- in the row r, fed the units us, the sheet's numbers are kept at the start and after each instruction done, inside a go too, and the
-- machine is never astray; each instruction counted is one that the plain machine does; and the row ends where the last leaves it
pub record RowKeepsLevel (f s us : List ℕ) (r : Row) : Type 0 where
  pub level : (j : ℕ) → j ≤ r.sum → Level f s (machine_after f s j us).state
  pub not_astray : (j : ℕ) → j ≤ r.sum → astray f s (machine_after f s j us) ≡ false
  pub counted : (j : ℕ) → j < r.sum → advances f s (machine_after f s j us) ≡ true
  pub state : r.run ≡ Some (machine_after f s r.sum us).state

-- the row r, of a run that never began, has no state, counts nothing, writes nothing and takes none of its units us
pub record RowRests (us : List ℕ) (h : Host) (r : Row) : Type 0 where
  pub state : r.run ≡ None
  pub sum : r.sum ≡ 0
  pub written : r.host.written ≡ h.written
  pub waits : r.host.waits ≡ us

-- Of every row on the file f with the sheet s on this many cells:

-- the levels, where main's frame fits
abbrev pub KeepsLevelOn : List ℕ → List ℕ → ℕ → Type 0
KeepsLevelOn f s cells = begins f s cells ≡ true → (h : Host) (es : List Event) →
    RowKeepsLevel f s (row_units h es) (row f s (new f s cells h) es)

-- beside the plain machine, where main's frame fits
abbrev pub FollowsOn : List ℕ → List ℕ → ℕ → Type 0
FollowsOn f s cells = begins f s cells ≡ true → (h : Host) (es : List Event) →
    RowFollows f s (row_units h es) h (row f s (new f s cells h) es)

-- beside a row on an admitted sheet and on cells of its own, where main's frame fits on both: equal sums and equal units give
-- equal states and equal written units
abbrev pub SameUnitsOn : List ℕ → List ℕ → ℕ → Type 0
SameUnitsOn f s cells = begins f s cells ≡ true → (s' : List ℕ) → Admitted f s' → (cells' : ℕ) → begins f s' cells' ≡ true →
    (h h' : Host) (es es' : List Event) →
    let r = row f s (new f s cells h) es in
    let r' = row f s' (new f s' cells' h') es' in
    r.sum ≡ r'.sum → row_units h es ≡ row_units h' es' →
    (r.run ≡ r'.run) × (wrote h r ≡ wrote h' r')

-- where main's frame does not fit
abbrev pub NeverBeginsOn : List ℕ → List ℕ → ℕ → Type 0
NeverBeginsOn f s cells = begins f s cells ≡ false → (h : Host) (es : List Event) →
    RowRests (row_units h es) h (row f s (new f s cells h) es)

-- what a row did follows from its units and from its counts' sum
pub record ReplaysOn (f s : List ℕ) (cells : ℕ) : Type 0 where
  pub follows : FollowsOn f s cells
  pub same_units : SameUnitsOn f s cells
  pub never_begins : NeverBeginsOn f s cells

-- two rows of one file, each with an admitted sheet of its own, begun or not, on any cells: where one's units begin the other's and
-- its sum is no larger, its written units begin the other's
abbrev pub FirstUnits : Type 0
FirstUnits = (f s s' : List ℕ) → Admitted f s → Admitted f s' → (cells cells' : ℕ) (h h' : Host) (es es' : List Event) →
    let r = row f s (new f s cells h) es in
    let r' = row f s' (new f s' cells' h') es' in
    r.sum ≤ r'.sum → (us : List ℕ) → row_units h' es' ≡ row_units h es ++ us →
    (vs : List ℕ) × (wrote h' r' ≡ wrote h r ++ vs)

-- one go or two with the same fuel in all: the same run, host and count; and the same stop, unless the second had no fuel
abbrev pub Regroups : Type 0
Regroups = (f s : List ℕ) (cells p q : ℕ) (run : Option State) (h : Host) →
    let g = outcome f s cells p run h in
    let g' = outcome f s cells q g.run g.host in
    let w = outcome f s cells (p + q) run h in
    (w.run ≡ g'.run) × (w.host ≡ g'.host) × (w.counted ≡ g.counted + g'.counted) × (1 ≤ q → w.stop ≡ g'.stop)

-- units that arrive after a go may as well arrive before it, unless it stopped for want of them
abbrev pub EarlyUnits : Type 0
EarlyUnits = (f s : List ℕ) (cells fuel : ℕ) (run : Option State) (h : Host) (us : List ℕ) →
    let g = outcome f s cells fuel run h in
    (g.stop ≢ NoUnit) →
    outcome f s cells fuel run (with_units h us) ≡ record { run = g.run; host = with_units g.host us; stop = g.stop; counted = g.counted }
