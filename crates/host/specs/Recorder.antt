-- What a recorder holds. Assumes nothing.
use Rattle.std.specs.Prelude.{◌≡◌, ℕ, ◌-◌, ◌*◌, ◌≤◌, List, length, take, drop, refl}
use Rattle.std.proofs.Common.{arith, ◌∙◌}
pub use Rattle.host.specs.Record.{bytes_of, units_of, room_in, recorded}
use Rattle.host.specs.declared.recorder.Recorder.{Recorder}

abbrev pub recorder_waiting : Recorder → List ℕ
recorder_waiting r = units_of r.keys.now

abbrev pub recorder_written : Recorder → List ℕ
recorder_written r = units_of (take (2 * r.count) (drop 3 r.memory.now))

abbrev pub recorder_space : Recorder → ℕ
recorder_space r = room_in (length r.memory.now) - r.count

-- a recorder that was opened on this memory: its memory is that one with the written units recorded on it
pub record Records (memory : List ℕ) (r : Recorder) : Type 0 where
  pub bytes : r.memory.now ≡ recorded memory (recorder_written r)
  pub counted : r.count ≡ length (recorder_written r)
  pub fits : r.count ≤ room_in (length memory)

-- a recorder stays on the memory that it is lent, and records there what it writes
pub record Kept (before after : Recorder) : Type 0 where
  pub lent : after.memory.ghost_name ≡ before.memory.ghost_name
  pub records : (memory : List ℕ) → Records memory before → Records memory after

abbrev pub RecorderKept : Recorder → Recorder → Type 0
RecorderKept before after = Kept before after

pub recorder_bounded : (r : Recorder) → recorder_space r ≤ 65535
recorder_bounded r = omega arith

pub recorder_kept_refl : (r : Recorder) → RecorderKept r r
recorder_kept_refl r = record { lent = refl; records = λ m h. h }

pub recorder_kept_trans : (a b c : Recorder) → RecorderKept a b → RecorderKept b c → RecorderKept a c
recorder_kept_trans a b c p q = record { lent = q.lent ∙ p.lent; records = λ m h. q.records m (p.records m h) }
