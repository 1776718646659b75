-- Worked cases of checks, runs and what they write, computed in one statement. Assumes nothing.
use Rattle.std.specs.Prelude.{◌≡◌, ℕ, List, [], ◌∷◌, length, replicate, Some, None, Option, Result, slice_set}
use Rattle.std.specs.Option.{option_map}
use Rattle.std.specs.Result.{result_err}
use Rattle.refusals.specs.declared.Refusal.{Refusal}
use Rattle.refusals.specs.Refusals.{number_of}
use Rattle.verifier.specs.Numbering.{number, tally, admit_refusal, sheet_after}
use Rattle.verifier.specs.Cases as verdicts
use Rattle.verifier.specs.Cases.{file, echo, pops_none, piles_up, dead_code, checked}
use Rattle.host.specs.Host.{Added}
use Rattle.host.specs.Recorder.{room_in, recorded}
use Rattle.machine.specs.declared.stop.Stop.{Stop}
use Rattle.machine.specs.declared.stop.Stop.TheVariants.{Ended, Spent, NoUnit, NoRoom, StackFull}
use Rattle.machine.specs.declared.stop.End.TheVariants as ending
use Rattle.output.specs.Text.{text}
use Rattle.machine.specs.Machine.{main, machine_after}
use Rattle.machine.specs.Go.{start, outcome}
use Rattle.machine.specs.Cells.{cells_of}

-- the first program, byte by byte: in, out, return
abbrev pub first_file : List ℕ
first_file =
    0x65 ∷ 0x4A ∷ 0x56 ∷ 0x4D ∷ 0x10 ∷ 0x02 ∷ 0x00 ∷ 0x00 ∷ 0x00 ∷ 0x25 ∷ 0x01 ∷ 0x00 ∷ 0x00 ∷
    0x00 ∷ 0x00 ∷ 0x00 ∷ 0x17 ∷ 0x00 ∷ 0x00 ∷ 0x00 ∷ 0x00 ∷ 0x00 ∷ 0x1A ∷
    0xF0 ∷ 0xF1 ∷ 0xB1 ∷
    0x08 ∷ 0x00 ∷ 0x03 ∷ 0x00 ∷ 0x6D ∷ 0x00 ∷ 0x61 ∷ 0x00 ∷ 0x69 ∷ 0x00 ∷ 0x6E ∷ 0x00 ∷ 0x41 ∷ []

-- main calls itself without end
abbrev pub calls_itself : List ℕ
calls_itself = file (0xB6 ∷ 0x00 ∷ 0xB1 ∷ [])

-- an addition that wraps, a branch below 0, and a halt
abbrev pub halts : List ℕ
halts = file (0x10 ∷ 0x7F ∷ 0xFF ∷ 0x59 ∷ 0x60 ∷ 0x9B ∷ 0x00 ∷ 0x04 ∷ 0xB1 ∷ 0xFF ∷ [])

-- main returns 42
abbrev pub answers : List ℕ
answers = file (0x10 ∷ 0x00 ∷ 0x2A ∷ 0xAC ∷ [])

-- every other instruction: main keeps 5 in a local, calls method 1 with it and the constant 3, writes what that returns as a number,
-- and jumps over three instructions to an error
abbrev pub calls_method : List ℕ
calls_method =
    0x65 ∷ 0x4A ∷ 0x56 ∷ 0x4D ∷ 0x10 ∷ 0x02 ∷ 0x00 ∷ 0x00 ∷ 0x00 ∷ 0x6E ∷ 0x02 ∷ 0x01 ∷ 0x01 ∷
    -- main: a local; method 1: two parameters and a local
    0x00 ∷ 0x00 ∷ 0x00 ∷ 0x23 ∷ 0x00 ∷ 0x01 ∷ 0x00 ∷ 0x00 ∷ 0x00 ∷ 0x60 ∷
    0x00 ∷ 0x00 ∷ 0x00 ∷ 0x4C ∷ 0x02 ∷ 0x01 ∷ 0x00 ∷ 0x00 ∷ 0x00 ∷ 0x65 ∷
    -- the constant
    0x00 ∷ 0x03 ∷
    -- main's code: bipush 7, istore 0, iinc 0 -2; iload 0, ldc 0, invokevirtual 1; setout 1, out, nop, wide;
    -- bipush 0, ifeq, halt; bipush 1, dup, if_icmpeq, halt; goto, return; err 0
    0x10 ∷ 0x00 ∷ 0x07 ∷ 0x36 ∷ 0x00 ∷ 0x84 ∷ 0x00 ∷ 0xFF ∷ 0xFE ∷
    0x15 ∷ 0x00 ∷ 0x12 ∷ 0x00 ∷ 0xB6 ∷ 0x01 ∷
    0xFA ∷ 0x01 ∷ 0xF1 ∷ 0x00 ∷ 0xC4 ∷
    0x10 ∷ 0x00 ∷ 0x00 ∷ 0x99 ∷ 0x00 ∷ 0x04 ∷ 0xFF ∷
    0x10 ∷ 0x00 ∷ 0x01 ∷ 0x59 ∷ 0x9F ∷ 0x00 ∷ 0x04 ∷ 0xFF ∷
    0xA7 ∷ 0x00 ∷ 0x04 ∷ 0xB1 ∷
    0xF2 ∷ 0x00 ∷
    -- method 1's: iload 0, iload 1, isub, dup, pop; iload 2, ior; bipush 6, iand; bipush 9, swap, isub, ireturn
    0x15 ∷ 0x00 ∷ 0x15 ∷ 0x01 ∷ 0x64 ∷ 0x59 ∷ 0x57 ∷
    0x15 ∷ 0x02 ∷ 0x80 ∷
    0x10 ∷ 0x00 ∷ 0x06 ∷ 0x7E ∷
    0x10 ∷ 0x00 ∷ 0x09 ∷ 0x5F ∷ 0x64 ∷ 0xAC ∷
    -- debug blocks, the message, the program name
    0x02 ∷ 0x00 ∷ 0x29 ∷ 0x00 ∷ 0x6D ∷
    0x02 ∷ 0x00 ∷ 0x14 ∷ 0x00 ∷ 0x73 ∷
    0x00 ∷ 0x02 ∷ 0x00 ∷ 0x45 ∷
    0x00 ∷ 0x41 ∷ []

-- the sheet that check leaves
abbrev pub sheet : List ℕ → List ℕ
sheet f = sheet_after f (replicate (length f) 7) (length f)

-- stop, count and written units of the first go on a new run with check's sheet, where these units wait and this many can be put
abbrev pub first_go : List ℕ → ℕ → ℕ → List ℕ → ℕ → Stop × ℕ × List ℕ
first_go f cells fuel us room =
    let g = outcome f (sheet f) cells fuel (start f (sheet f) cells) (record { waits = us; written = []; space = room }) in
    (g.stop, g.counted, g.host.written)

-- the number of the broken rule and its place
abbrev pub refused_by : Option Refusal → Option (ℕ × ℕ)
refused_by r = option_map (λ (r : Refusal). (number_of r.rule, r.place)) r

-- a unit put on a host that has written these units and has no room, whatever a put may answer there: it is refused by rule 21, and
-- nothing changes
abbrev pub PutRefused : List ℕ → ℕ → Type 0
PutRefused written unit = (answer : Result Unit Refusal) (written' : List ℕ) (space' : ℕ) → Added written 0 unit answer written' space' →
    (refused_by (result_err answer) ≡ Some (21, 0)) × (written' ≡ written) × (space' ≡ 0)

abbrev pub WorkedCases : Type 0
WorkedCases =
    -- check and admit
    verdicts.WorkedCases ×
    (echo ≡ first_file) ×
    -- the first program: what check answers, and the entries that it leaves
    (length first_file ≡ 39) ×
    (refused_by (checked first_file) ≡ None) ×
    (tally first_file ≡ (3, 1)) ×
    (number (sheet first_file) 23 ≡ 0) ×
    (number (sheet first_file) 24 ≡ 1) ×
    (number (sheet first_file) 25 ≡ 0) ×
    (number (sheet first_file) 13 ≡ 1) ×
    (refused_by (admit_refusal first_file (sheet first_file)) ≡ None) ×
    -- it runs on 4 cells; on 3 it never begins, and is stack full
    (start first_file (sheet first_file) 4 ≡ Some (main first_file)) ×
    (cells_of (main first_file) ≡ 0 ∷ 65535 ∷ 65535 ∷ []) ×
    (first_go first_file 4 10 (0x41 ∷ []) 96 ≡ (Ended ending.Plain, 3, 0x41 ∷ [])) ×
    (start first_file (sheet first_file) 3 ≡ None) ×
    (first_go first_file 3 1 [] 96 ≡ (StackFull, 0, [])) ×
    -- nothing waits; no fuel; too little fuel; no room
    (first_go first_file 4 10 [] 96 ≡ (NoUnit, 0, [])) ×
    (first_go first_file 4 0 [] 96 ≡ (Spent, 0, [])) ×
    (first_go first_file 4 2 (0x41 ∷ []) 96 ≡ (Spent, 2, 0x41 ∷ [])) ×
    (first_go first_file 4 10 (0x41 ∷ []) 0 ≡ (NoRoom, 1, [])) ×
    -- a pop from an empty stack, and a push in an endless loop: no numbering of main keeps the sheet's rule
    (refused_by (checked pops_none) ≡ Some (17, 23)) ×
    (refused_by (checked piles_up) ≡ Some (17, 23)) ×
    -- a pop that is never reached passes, and a number for it does not
    (refused_by (checked dead_code) ≡ None) ×
    (refused_by (admit_refusal dead_code (sheet dead_code)) ≡ None) ×
    (refused_by (admit_refusal dead_code (slice_set (sheet dead_code) 24 1)) ≡ Some (18, 24)) ×
    -- calls without end
    (first_go calls_itself 10 100 [] 96 ≡ (StackFull, 2, [])) ×
    -- 32,767 doubled is below 0
    (first_go halts 5 100 [] 96 ≡ (Ended ending.Halt, 5, [])) ×
    (first_go answers 4 100 [] 96 ≡ (Ended (ending.Value 42), 2, [])) ×
    -- in the called method the parameters stand in the order of pushing, then a local, and the caller's base is 0
    (cells_of (machine_after calls_method (sheet calls_method) 6 []).state ≡
    0 ∷ 65535 ∷ 65535 ∷ 5 ∷ 1 ∷ 50 ∷ 0 ∷ 5 ∷ 3 ∷ 0 ∷ []) ×
    (first_go calls_method 12 100 [] 96 ≡ (Ended (ending.Error 0), 30, 0x37 ∷ [])) ×
    (first_go calls_method 11 100 [] 96 ≡ (StackFull, 5, [])) ×
    -- numbers as they are: -5, -32,768, 0; levels: 3,505 is written as 350, and -5 as 0
    (text 1 65531 ≡ 0x2D ∷ 0x35 ∷ []) ×
    (text 1 32768 ≡ 0x2D ∷ 0x33 ∷ 0x32 ∷ 0x37 ∷ 0x36 ∷ 0x38 ∷ []) ×
    (text 1 0 ≡ 0x30 ∷ []) ×
    (text 2 3505 ≡ 0x33 ∷ 0x35 ∷ 0x30 ∷ []) ×
    (text 2 65531 ≡ 0x30 ∷ []) ×
    -- a recorder of 7 bytes has room for two units; a third is refused
    (room_in 7 ≡ 2) ×
    (recorded (replicate 7 0) (65 ∷ 66 ∷ []) ≡ 0x01 ∷ 0x00 ∷ 0x04 ∷ 0x00 ∷ 0x41 ∷ 0x00 ∷ 0x42 ∷ []) ×
    PutRefused (65 ∷ 66 ∷ []) 67
