-- What a ring buffer holds, and what its calls do to that. Assumes nothing.
use Rattle.std.specs.Prelude.{◌≡◌, ℕ, ◌<◌, List, [], ◌∷◌, ◌++◌, length, take, drop, Some, None, Ok, Err, Option, Result}
use Rattle.ring.specs.declared.Ring.{Ring}

-- the slots from one on, and past the last from the first again, each once
unfoldable pub turned : {T : Type 0} → List T → ℕ → List T
turned slots first = take (length slots) (drop first slots ++ slots)

-- so many values from a slot on
abbrev pub from_slot : {T : Type 0} → List T → ℕ → ℕ → List T
from_slot slots first count = take count (turned slots first)

-- the values that wait, the first in first
abbrev pub items : {T : Type 0} → Ring T → List T
items r = from_slot r.slots.now r.head r.count

-- how many values can wait
abbrev pub capacity : {T : Type 0} → Ring T → ℕ
capacity r = length r.slots.now

-- a value added at the end; handed back, with nothing changed, exactly where the line is full
abbrev pub Pushed : {T : Type 0} → List T → ℕ → T → Result Unit T → List T → Type 0
Pushed before capacity value (Ok _) after = (length before < capacity) × (after ≡ before ++ value ∷ [])
Pushed before capacity value (Err back) after = (length before ≡ capacity) × (back ≡ value) × (after ≡ before)

-- the first value taken off; nothing exactly where none waits
abbrev pub Popped : {T : Type 0} → List T → Option T → List T → Type 0
Popped before None after = (before ≡ []) × (after ≡ [])
Popped before (Some value) after = before ≡ value ∷ after
