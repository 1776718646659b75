-- Worked cases of check and admit, computed in one statement. Assumes nothing.
use Rattle.std.specs.Prelude.{◌≡◌, ℕ, ◌+◌, List, [], ◌∷◌, ◌++◌, length, replicate, Some, None, Option, slice_index, slice_set}
use Rattle.refusals.specs.declared.Rule.TheVariants.{MemoryShort, BadTarget, NoNumbering, BadNumber, BadPeak}
use Rattle.refusals.specs.declared.Refusal.{Refusal}
use Rattle.verifier.specs.Numbering.{blank, check_refusal, admit_refusal, tally, sheet_after}

-- a file of one method, main, with this code
abbrev pub file : List ℕ → List ℕ
file code =
    0x65 ∷ 0x4A ∷ 0x56 ∷ 0x4D ∷ 0x10 ∷ 0x02 ∷ 0x00 ∷ 0x00 ∷ 0x00 ∷ (34 + length code) ∷ 0x01 ∷ 0x00 ∷ 0x00 ∷
    0x00 ∷ 0x00 ∷ 0x00 ∷ 0x17 ∷ 0x00 ∷ 0x00 ∷ 0x00 ∷ 0x00 ∷ 0x00 ∷ (23 + length code) ∷
    (code ++ (0x08 ∷ 0x00 ∷ length code ∷ 0x00 ∷ 0x6D ∷ 0x00 ∷ 0x61 ∷ 0x00 ∷ 0x69 ∷ 0x00 ∷ 0x6E ∷ 0x00 ∷ 0x41 ∷ []))

-- in, out, return
abbrev pub echo : List ℕ
echo = file (0xF0 ∷ 0xF1 ∷ 0xB1 ∷ [])

-- a pop from an empty stack; a push in an endless loop
abbrev pub pops_none : List ℕ
pops_none = file (0x57 ∷ 0xB1 ∷ [])

abbrev pub piles_up : List ℕ
piles_up = file (0x10 ∷ 0x00 ∷ 0x01 ∷ 0xA7 ∷ 0xFF ∷ 0xFD ∷ 0xB1 ∷ [])

-- a branch over a push: the ways meet at different depths
abbrev pub meets : List ℕ
meets = file (0xF0 ∷ 0x99 ∷ 0x00 ∷ 0x04 ∷ 0xF0 ∷ 0xB1 ∷ [])

-- a branch over an output: they meet at one depth
abbrev pub joins : List ℕ
joins = file (0xF0 ∷ 0x59 ∷ 0x99 ∷ 0x00 ∷ 0x05 ∷ 0x59 ∷ 0xF1 ∷ 0xF1 ∷ 0xB1 ∷ [])

-- control runs past the method's end
abbrev pub falls_out : List ℕ
falls_out = file (0xA7 ∷ 0x00 ∷ 0x04 ∷ 0xB1 ∷ 0xF0 ∷ 0x57 ∷ [])

-- a jump into an instruction
abbrev pub jumps_in : List ℕ
jumps_in = file (0xA7 ∷ 0x00 ∷ 0x01 ∷ 0xB1 ∷ [])

-- a pop that is never reached
abbrev pub dead_code : List ℕ
dead_code = file (0xB1 ∷ 0x57 ∷ [])

-- check's answer with as many entries as the file has bytes, and what it leaves of a sheet of sevens, two entries longer
abbrev pub checked : List ℕ → Option Refusal
checked f = check_refusal f (length f) (length f)

abbrev pub sheet : List ℕ → List ℕ
sheet f = sheet_after f (replicate (length f + 2) 7) (length f)

abbrev pub WorkedCases : Type 0
WorkedCases =
    (length echo ≡ 39) ×
    (checked echo ≡ None) ×
    (tally echo ≡ (3, 1)) ×
    (sheet echo ≡ slice_set (slice_set (slice_set (slice_set (replicate 39 blank ++ (7 ∷ 7 ∷ [])) 13 1) 23 0) 24 1) 25 0) ×
    (admit_refusal echo (sheet echo) ≡ None) ×
    (admit_refusal echo (slice_set (sheet echo) 24 2) ≡ Some (record { rule = BadNumber; place = 23 })) ×
    (admit_refusal echo (slice_set (sheet echo) 13 2) ≡ Some (record { rule = BadPeak; place = 13 })) ×
    (check_refusal echo 38 39 ≡ Some (record { rule = MemoryShort; place = 0 })) ×
    (check_refusal echo 39 38 ≡ Some (record { rule = MemoryShort; place = 0 })) ×
    (checked pops_none ≡ Some (record { rule = NoNumbering; place = 23 })) ×
    (checked piles_up ≡ Some (record { rule = NoNumbering; place = 23 })) ×
    (checked meets ≡ Some (record { rule = NoNumbering; place = 23 })) ×
    (sheet meets ≡ replicate 42 blank ++ (7 ∷ 7 ∷ [])) ×
    (checked joins ≡ None) ×
    (tally joins ≡ (7, 2)) ×
    (checked falls_out ≡ Some (record { rule = NoNumbering; place = 23 })) ×
    (checked jumps_in ≡ Some (record { rule = BadTarget; place = 23 })) ×
    (checked dead_code ≡ None) ×
    (tally dead_code ≡ (1, 0)) ×
    (slice_index (sheet dead_code) 24 ≡ blank) ×
    (admit_refusal dead_code (slice_set (sheet dead_code) 24 1) ≡ Some (record { rule = BadNumber; place = 24 }))
