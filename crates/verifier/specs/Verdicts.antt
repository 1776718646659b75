-- What check and admit decide, in the subject's words: the places that a method's start reaches, the depths that the ways there give,
-- the numberings that keep the rule, and what check leaves in the sheet. Assumes nothing.
use Rattle.std.specs.Prelude.{◌≡◌, ℕ, ◌<◌, ◌≤◌, true, ◌⊎◌, ◌↔◌, List, length, Some, None, Option, ◌≢◌}
use mathlib.Core.List.{Memᴰ}
use Rattle.refusals.specs.Refusals.{number_of}
use Rattle.refusals.specs.declared.Rule.TheVariants.{NoNumbering}
use Rattle.refusals.specs.declared.Refusal.{Refusal}
use Rattle.format.specs.Layout.{methods, entry, code_address}
use Rattle.format.specs.Parts.{Accepted}
use Rattle.bytecode.specs.Places.{places, takes, successors}
use Rattle.bytecode.specs.Rules.{code_refusal}
use Rattle.verifier.specs.Numbering.{blank, number, numbered, depth_after, peak, Admitted, numbering, check_refusal, sheet_after}

-- p is a place of the file's method k
abbrev pub Place : List ℕ → ℕ → ℕ → Type 0
Place f k p = (k < methods f) × Memᴰ p (places f k)

-- method k's start is reached, and so is each successor of a reached place
pub data Reached (f : List ℕ) (k : ℕ) : ℕ → Type 0 where
  at_start : Reached f k (code_address f k)
  onward : {p q : ℕ} → Reached f k p → Memᴰ q (successors f p) → Reached f k q

-- some way from method k's start to p has depth d there: 0 at the start, and at each successor the result
pub data Counts (f : List ℕ) (k : ℕ) : ℕ → ℕ → Type 0 where
  none_at_start : Counts f k (code_address f k) 0
  result_onward : {p q d : ℕ} → Counts f k p d → Memᴰ q (successors f p) → Counts f k q (depth_after f p d)

-- d is the largest depth of method k
abbrev pub Largest : List ℕ → ℕ → ℕ → Type 0
Largest f k d = ((p : ℕ) × Counts f k p d) × ((p e : ℕ) → Counts f k p e → e ≤ d)

-- the numbers a keep the rule at every place of method k
pub record KeepsRule (f : List ℕ) (k : ℕ) (a : ℕ → ℕ) : Type 0 where
  pub starts : a (code_address f k) ≡ 0
  pub formed : (p : ℕ) → Memᴰ p (places f k) → (a p ≤ 255) ⊎ (a p ≡ blank)
  pub balances : (p : ℕ) → Memᴰ p (places f k) → a p ≤ 255 → (takes f p ≤ a p) × (depth_after f p (a p) ≤ 255)
  pub goes_on : (p : ℕ) → Memᴰ p (places f k) → a p ≤ 255 → (q : ℕ) → Memᴰ q (successors f p) → Memᴰ q (places f k) × (a q ≡ depth_after f p (a p))

abbrev pub NumberingOf : List ℕ → ℕ → Type 0
NumberingOf f k = (a : ℕ → ℕ) × KeepsRule f k a

-- check numbers exactly the places that are reached
abbrev pub NumbersReached : Type 0
NumbersReached = (f : List ℕ) (n m : ℕ) → check_refusal f n m ≡ None → (k p : ℕ) → Place f k p →
    (numbered (number (numbering f) p) ≡ true) ↔ Reached f k p

-- and with the depths of the ways there
abbrev pub NumbersCounted : Type 0
NumbersCounted = (f : List ℕ) (n m : ℕ) → check_refusal f n m ≡ None → (k p : ℕ) → Place f k p → (d : ℕ) →
    ((number (numbering f) p ≡ d) × (d ≤ 255)) ↔ Counts f k p d

-- every rule before 17 passes
abbrev pub EarlierPass : List ℕ → ℕ → ℕ → Type 0
EarlierPass f n m = Accepted f × (length f ≤ n) × (length f ≤ m) × (code_refusal f ≡ None)

abbrev pub Refused17At : List ℕ → ℕ → ℕ → ℕ → Type 0
Refused17At f n m p = check_refusal f n m ≡ Some (record { rule = NoNumbering; place = p })

abbrev pub Refused17 : List ℕ → ℕ → ℕ → Type 0
Refused17 f n m = (p : ℕ) × Refused17At f n m p

-- k is the first method, in table order, that has no numbering
abbrev pub FirstWithout : List ℕ → ℕ → Type 0
FirstWithout f k = (k < methods f) × (NumberingOf f k → ⊥) × ((j : ℕ) → j < k → NumberingOf f j)

-- check refuses by rule 17 at a method's start exactly for the first method without a numbering, and nowhere else
abbrev pub PlaceOfRefusal17 : Type 0
PlaceOfRefusal17 = (f : List ℕ) (n m : ℕ) → EarlierPass f n m →
    ((k : ℕ) → k < methods f → Refused17At f n m (code_address f k) ↔ FirstWithout f k) ×
    ((p : ℕ) → Refused17At f n m p ↔ ((k : ℕ) × (p ≡ code_address f k) × FirstWithout f k))

abbrev pub SixteenBits : List ℕ → Type 0
SixteenBits s = (p : ℕ) → p < length s → number s p < 65536

abbrev pub NoSheet : List ℕ → Type 0
NoSheet f = (s : List ℕ) → SixteenBits s → Admitted f s → ⊥

-- check refuses by rule 17 exactly when every earlier rule passes and no sheet of sixteen-bit entries would be admitted
abbrev pub ExactRefusal17 : Type 0
ExactRefusal17 = (f : List ℕ) (n m : ℕ) → Refused17 f n m ↔ (EarlierPass f n m × NoSheet f)

-- and then no list at all, of whatever entries
abbrev pub NoSheetWhatever : Type 0
NoSheetWhatever = (f : List ℕ) (n m : ℕ) → Refused17 f n m → (s : List ℕ) → Admitted f s → ⊥

-- what check accepts, admit accepts with check's sheet
abbrev pub CheckAdmits : Type 0
CheckAdmits = (f s : List ℕ) (m : ℕ) → check_refusal f (length s) m ≡ None → Admitted f (sheet_after f s m)

-- every sheet that is admitted has check's number at every place that has one
abbrev pub Agrees : Type 0
Agrees = (f s : List ℕ) → Admitted f s → (k p : ℕ) → Place f k p →
    numbered (number (numbering f) p) ≡ true → number s p ≡ number (numbering f) p

-- which is at every reached place
abbrev pub AgreesWithCheck : List ℕ → List ℕ → Type 0
AgreesWithCheck f s = (k p : ℕ) → k < methods f → Reached f k p → (numbered (number (numbering f) p) ≡ true) × (number s p ≡ number (numbering f) p)

abbrev pub AgreesWhereReached : Type 0
AgreesWhereReached = (f s : List ℕ) → Admitted f s → AgreesWithCheck f s

-- the sheet t after check, from the sheet s before: past the file it is as before
abbrev pub KeptPast : List ℕ → List ℕ → List ℕ → Type 0
KeptPast f s t = (length t ≡ length s) × ((p : ℕ) → length f ≤ p → number t p ≡ number s p)

-- on acceptance a place that is reached has its depth, a method's entry its peak, and every other entry of the file is blank
pub record Filled (f t : List ℕ) : Type 0 where
  pub numbers : (k p d : ℕ) → k < methods f → Counts f k p d → number t p ≡ d
  pub peaks : (k : ℕ) → k < methods f → (number t (entry k) ≡ peak f (numbering f) k) × Largest f k (number t (entry k))
  pub others : (p : ℕ) → p < length f → ((k : ℕ) → k < methods f → Reached f k p → ⊥) → ((k : ℕ) → k < methods f → p ≢ entry k) → number t p ≡ blank

abbrev pub Blanked : List ℕ → List ℕ → Type 0
Blanked f t = (p : ℕ) → p < length f → number t p ≡ blank

-- no place is a method's entry, so the three kinds exclude each other
abbrev pub Apart : List ℕ → Type 0
Apart f = (j k p : ℕ) → j < methods f → Place f k p → p ≢ entry j

abbrev pub SheetFacts : Type 0
SheetFacts = (f s : List ℕ) (m : ℕ) →
    (check_refusal f (length s) m ≡ None → Filled f (sheet_after f s m) × Apart f × KeptPast f s (sheet_after f s m)) ×
    ((x : Refusal) → check_refusal f (length s) m ≡ Some x → (13 ≤ number_of x.rule) × (number_of x.rule ≤ 17) → Blanked f (sheet_after f s m) × KeptPast f s (sheet_after f s m)) ×
    ((x : Refusal) → check_refusal f (length s) m ≡ Some x → number_of x.rule ≤ 12 → sheet_after f s m ≡ s) ×
    ((x : Refusal) → check_refusal f (length s) m ≡ Some x → number_of x.rule ≤ 17)

-- what holds of check for this file, from the sheet s and pending memory of m entries: its refusal, if any, is o, and it leaves the sheet t
pub record CheckLaws (f s : List ℕ) (m : ℕ) (o : Option Refusal) (t : List ℕ) : Type 0 where
  -- on acceptance exactly the reached places are numbered, with the depths of the ways there
  pub reached : o ≡ None → (k p : ℕ) → Place f k p → (numbered (number t p) ≡ true) ↔ Reached f k p
  pub counted : o ≡ None → (k p : ℕ) → Place f k p → (d : ℕ) → ((number t p ≡ d) × (d ≤ 255)) ↔ Counts f k p d
  -- and the sheet is admitted
  pub admitted : o ≡ None → Admitted f t
  -- what the sheet holds on acceptance, on a refusal of the code and on an earlier one; past the file it is as it was
  pub filled : o ≡ None → Filled f t
  pub blanked : (x : Refusal) → o ≡ Some x → 12 < number_of x.rule → Blanked f t
  pub kept : (x : Refusal) → o ≡ Some x → number_of x.rule ≤ 12 → t ≡ s
  pub past : KeptPast f s t
  -- 17 stands at the start of the first method that has no numbering
  pub first_without : EarlierPass f (length s) m → (k : ℕ) → k < methods f → (o ≡ Some (record { rule = NoNumbering; place = code_address f k })) ↔ FirstWithout f k
  -- 17 is answered exactly when every earlier rule passes and no sheet of sixteen-bit entries would be admitted; and then no list at all would
  pub exact : ((p : ℕ) × (o ≡ Some (record { rule = NoNumbering; place = p }))) ↔ (EarlierPass f (length s) m × NoSheet f)
  pub none_at_all : (p : ℕ) → o ≡ Some (record { rule = NoNumbering; place = p }) → (u : List ℕ) → Admitted f u → ⊥
