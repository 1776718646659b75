-- What the programs ejvm and record print of a file and its keys. Assumes nothing.
use Rattle.std.specs.Prelude.{◌≡◌, ℕ, cond, List, [], length, take, replicate, Some, None, codes, nat_lt}
use Rattle.verifier.specs.Numbering.{numbering, with_peaks, check_refusal}
use Rattle.host.specs.Recorder.{units_of, recorded}
use Rattle.machine.specs.declared.stop.Stop.{Stop}
use Rattle.machine.specs.Go.{Host, Outcome, start, outcome}
use Rattle.reports.specs.Words.{run_text, record_text, refusal_text}

-- at most the first 256 byte pairs are keys
abbrev pub key_units : List ℕ → List ℕ
key_units keys = units_of (take 512 keys)

-- a host on which these units wait, with nothing written and room for 96 units
abbrev pub new_host : List ℕ → Host
new_host units = record { waits = units; written = []; space = 96 }

-- one go of a new run of a file with a sheet, on so many cells, with this fuel
unfoldable pub go_once : List ℕ → List ℕ → ℕ → ℕ → Host → Outcome
go_once f s cells fuel h = outcome f s cells fuel (start f s cells) h

-- the programs lend 2,048 cells and a fuel of 10,000
abbrev pub first_go : List ℕ → List ℕ → Host → Outcome
first_go f s h = go_once f s 2048 10000 h

-- a go answered this stop and this count, and left these units written, as the outcome says
pub record Went (o : Outcome) (answer : Stop × ℕ) (units : List ℕ) : Type 0 where
  pub stop : answer.0 ≡ o.stop
  pub count : answer.1 ≡ o.counted
  pub written : units ≡ o.host.written

-- what is told of it on a label, and on a recorder whose 195 bytes were 0
abbrev pub shown_text : Outcome → List ℕ
shown_text o = run_text o.stop o.counted o.host.written

abbrev pub recorded_text : Outcome → List ℕ
recorded_text o = record_text o.stop o.counted (recorded (replicate 195 0) o.host.written)

-- a file of at most 8,192 bytes is checked, with memory enough: its refusal, or what is told of the first go with check's sheet
abbrev pub checked_text : (Outcome → List ℕ) → List ℕ → List ℕ → List ℕ
checked_text told f keys =
    elim (check_refusal f (length f) (length f)) [
      | Some x ↦ refusal_text x
      | None ↦ told (first_go f (with_peaks f (numbering f)) (new_host (key_units keys)))
    ]

abbrev pub program_text : (Outcome → List ℕ) → List ℕ → List ℕ → List ℕ
program_text told f keys = cond (nat_lt 8192 (length f)) (codes "large\n") (checked_text told f keys)

-- what ejvm prints, and what record prints
abbrev pub ejvm_text : List ℕ → List ℕ → List ℕ
ejvm_text f keys = program_text shown_text f keys

abbrev pub recording_text : List ℕ → List ℕ → List ℕ
recording_text f keys = program_text recorded_text f keys
