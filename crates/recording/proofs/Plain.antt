-- The units of a recorded run are those of the plain machine. Assumes nothing.
use Rattle.std.proofs.Common.{◌≡◌, ℕ, List, [], ◌∷◌, ◌++◌, refl, ap, ◌∙◌, append-nil}
use Rattle.host.specs.Recorder.{units_of}
use Rattle.machine.specs.Machine.{machine_after}
use Rattle.machine.specs.Rows.{arrivals, row_units}
use Rattle.machine.proofs.Row.{follows_on, never_begins_on}
use Rattle.recording.specs.Recording.{slices, opened, recorded_row, PlainUnits}

-- no unit arrives between the gos
nothing_arrives : (fuels : List ℕ) → arrivals (slices fuels) ≡ []
nothing_arrives [] = refl
nothing_arrives (fuel ∷ fuels) = nothing_arrives fuels

fed_keys : (memory keys fuels : List ℕ) → row_units (opened memory keys) (slices fuels) ≡ units_of keys
fed_keys memory keys fuels = ap (λ (us : List ℕ). units_of keys ++ us) (nothing_arrives fuels) ∙ append-nil (units_of keys)

pub plain_units : PlainUnits
plain_units f s a cells memory keys fuels = (
  λ begun. (follows_on f s cells begun (opened memory keys) (slices fuels)).written ∙
      ap (λ (us : List ℕ). (machine_after f s (recorded_row f s cells memory keys fuels).sum us).wrote) (fed_keys memory keys fuels),
  λ unbegun. (never_begins_on f s cells unbegun (opened memory keys) (slices fuels)).written,
)
