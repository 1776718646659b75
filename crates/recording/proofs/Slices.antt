-- Gos with some fuels: what holds after the first of them.
use Rattle.std.proofs.Common.{◌≡◌, ℕ, ◌+◌, ◌<◌, ◌≤◌, List, ◌∷◌, length, get_or, drop, Option, sym, refl, ap, ◌∙◌, subst, drop_of_length-le}
use Rattle.std.proofs.lemmas.List.{drop_more}
use Rattle.machine.specs.declared.stop.Stop.{Stop}
use Rattle.machine.specs.Machine.{State}
use Rattle.machine.specs.Go.{Host, Outcome, outcome, start}
use Rattle.machine.specs.Rows.{Event, slice, Row, row, new}
use Rattle.run.specs.declared.run.Run.{Run}
use Rattle.run.proofs.Runs.{stays_refl, stays_trans}
use Rattle.run.specs.Run.{file_of, sheet_of, size_of, seen, Goes, Stays}
use Rattle.recording.specs.Recording.{slices, row_of, Makes}

-- a go by the machine's definition, on a file, a sheet and cells that are the same
at_home : (f f' s s' : List ℕ) (c c' fuel : ℕ) (run : Option State) (h : Host) (o : Outcome) → f' ≡ f → s' ≡ s → c' ≡ c →
    outcome f' s' c' fuel run h ≡ o → outcome f s c fuel run h ≡ o
at_home f f' s s' c c' fuel run h o ef es ec e =
    let p = subst (λ (x : List ℕ). outcome x s' c' fuel run h ≡ o) ef e in
    let q = subst (λ (x : List ℕ). outcome f x c' fuel run h ≡ o) es p in
    subst (λ (x : ℕ). outcome f s x fuel run h ≡ o) ec q

-- the first go of a row
first_go : (f s : List ℕ) (cells fuel : ℕ) (run : Option State) (h : Host) (o : Outcome) → outcome f s cells fuel run h ≡ o →
    (sum : ℕ) (es : List Event) →
    row f s (record { cells = cells; run = run; host = h; sum = sum }) (slice fuel ∷ es) ≡
    row f s (record { cells = cells; run = o.run; host = o.host; sum = sum + o.counted }) es
first_go f s cells fuel run h o e sum es =
    ap (λ (x : Outcome). row f s (record { cells = cells; run = x.run; host = x.host; sum = sum + x.counted }) es) e

-- after the first i of the gos
pub record Going (r : Run) (h : Host) (fuels : List ℕ) (i : ℕ) (r' : Run) (h' : Host) : Type 0 where
  pub rows : (sum : ℕ) → (sum' : ℕ) ×
      (row (file_of r) (sheet_of r) (row_of r h sum) (slices fuels) ≡
      row (file_of r) (sheet_of r) (record { cells = size_of r; run = seen r'; host = h'; sum = sum' }) (slices (drop i fuels)))
  pub stays : Stays r r'

pub going_first : (r : Run) (h : Host) (fuels : List ℕ) → Going r h fuels 0 r h
going_first r h fuels = record { rows = λ sum. (sum, refl); stays = stays_refl r }

pub going_on : (r : Run) (h : Host) (fuels : List ℕ) (i : ℕ) (r' : Run) (h' : Host) → Going r h fuels i r' h' → i < length fuels →
    (r'' : Run) (h'' : Host) (answer : Stop × ℕ) → Goes r' h' (get_or fuels i 0) r'' h'' answer → Stays r' r'' → Going r h fuels (i + 1) r'' h''
going_on r h fuels i r' h' g within r'' h'' answer e stays = record {
  rows = λ sum.
      let sum' = (g.rows sum).0 in
      let o : Outcome = record { run = seen r''; host = h''; stop = answer.0; counted = answer.1 } in
      let home = at_home (file_of r) (file_of r') (sheet_of r) (sheet_of r') (size_of r) (size_of r') (get_or fuels i 0) (seen r') h' o
      g.stays.file g.stays.sheet g.stays.size e in
      let x : Row = record { cells = size_of r; run = seen r'; host = h'; sum = sum' } in (
        sum' + answer.1,
        (g.rows sum).1
            ∙ ap (λ (fs : List ℕ). row (file_of r) (sheet_of r) x (slices fs)) (drop_more fuels i 0 within)
            ∙ first_go (file_of r) (sheet_of r) (size_of r) (get_or fuels i 0) (seen r') h' o home sum' (slices (drop (i + 1) fuels)),
      );
  stays = stays_trans r r' r'' g.stays stays;
}

-- after all of them
pub going_last : (r : Run) (h : Host) (fuels : List ℕ) (i : ℕ) (r' : Run) (h' : Host) → Going r h fuels i r' h' → length fuels ≤ i →
    Makes r h fuels r' h'
going_last r h fuels i r' h' g past sum =
    let x : Row = record { cells = size_of r; run = seen r'; host = h'; sum = (g.rows sum).0 } in
    let e = (g.rows sum).1 ∙ ap (λ (fs : List ℕ). row (file_of r) (sheet_of r) x (slices fs)) (drop_of_length-le fuels past) in
    (ap (λ (y : Row). y.run) e, ap (λ (y : Row). y.host) e)

-- a row of a new run: what it leaves of the host, where the run was started so and the gos on it were made so
pub row_written : (f s : List ℕ) (cells : ℕ) (h h₁ : Host) (fuels : List ℕ) (r r' : Run) (h' : Host) →
    seen r ≡ start f s cells → file_of r ≡ f → sheet_of r ≡ s → size_of r ≡ cells → h₁ ≡ h → Makes r h₁ fuels r' h' →
    (row f s (new f s cells h) (slices fuels)).host ≡ h'
row_written f s cells h h₁ fuels r r' h' e ef es ec eh m =
    sym (
    ap (λ (x : List ℕ). (row x (sheet_of r) (row_of r h₁ 0) (slices fuels)).host) ef
    ∙ ap (λ (x : List ℕ). (row f x (row_of r h₁ 0) (slices fuels)).host) es
    ∙ ap (λ (x : ℕ). (row f s (record { cells = x; run = seen r; host = h₁; sum = 0 }) (slices fuels)).host) ec
    ∙ ap (λ (x : Option State). (row f s (record { cells = cells; run = x; host = h₁; sum = 0 }) (slices fuels)).host) e
    ∙ ap (λ (x : Host). (row f s (record { cells = cells; run = start f s cells; host = x; sum = 0 }) (slices fuels)).host) eh)
    ∙ (m 0).1
