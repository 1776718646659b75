-- The sheet of a file: how deep the operand stack is at each place. The rule that a sheet keeps, the numbering that check makes,
-- and what check and admit answer. Assumes nothing.
use Rattle.std.specs.Prelude.{◌≡◌, ℕ, ◌+◌, ◌-◌, max, Bool, cond, not, ◌&&◌, ◌||◌, List, ◌++◌, length, drop, set, replicate, Some, None, fold, count_by, Option, ◌==◌, nat_le, nat_lt, slice_index_or, slice_set}
use Rattle.std.specs.Option.{option_map}
use Rattle.refusals.specs.Refusals.{number_of}
use Rattle.refusals.specs.declared.Rule.TheVariants.{MemoryShort, NoNumbering, BadNumber, BadPeak}
use Rattle.refusals.specs.declared.Refusal.{Refusal}
use Rattle.format.specs.Search.{first, any, all, upto, ◌else◌, when}
use Rattle.format.specs.Layout.{methods, entry, code_address}
use Rattle.format.specs.Rules.{refused, layout_refusal}
use Rattle.bytecode.specs.Places.{Point, points, points_from, places, is_place, takes, leaves, successors}
use Rattle.bytecode.specs.Rules.{code_refusal}

-- the entry of a place without a number
abbrev pub blank : ℕ
blank = 65535

-- what the sheet s says of p: the depth of the operand stack there, or blank
abbrev pub number : List ℕ → ℕ → ℕ
number s p = slice_index_or s p blank

abbrev pub numbered : ℕ → Bool
numbered d = nat_le d 255

-- the depth after the instruction at p, where it is d before
abbrev pub depth_after : List ℕ → ℕ → ℕ → ℕ
depth_after f p d = (d - takes f p) + leaves f p

-- at depth d the instruction at p finds the values that it takes, and leaves no more than a number can say
abbrev pub balanced : List ℕ → ℕ → ℕ → Bool
balanced f p d = nat_le (takes f p) d && numbered (depth_after f p d)

-- the place x with the number d keeps the rule: it is balanced, and its successors are places of the method with its result
abbrev pub keeps : List ℕ → List ℕ → Point → ℕ → Bool
keeps f s x d =
    balanced f x.place d &&
    all (λ q. is_place f x.method q && number s q == depth_after f x.place d) (successors f x.place)

abbrev pub is_start : List ℕ → Point → Bool
is_start f x = x.place == code_address f x.method

-- the place x breaks the rule: it is a start without 0, numbered and does not keep it, or neither numbered nor blank
abbrev pub breaks : List ℕ → List ℕ → Point → Bool
breaks f s x =
    let d = number s x.place in
    is_start f x && not (d == 0) || cond (numbered d) (not (keeps f s x d)) (not (d == blank))

-- some place of method k breaks the rule
abbrev pub method_breaks : List ℕ → List ℕ → ℕ → Bool
method_breaks f s k = any (λ p. breaks f s (record { method = k; place = p })) (places f k)

-- the larger of m and the number of p, if it has one
abbrev pub larger : List ℕ → ℕ → ℕ → ℕ
larger s m p = cond (numbered (number s p)) (max m (number s p)) m

-- the largest number of method k's places
abbrev pub peak : List ℕ → List ℕ → ℕ → ℕ
peak f s k = fold (larger s) 0 (places f k)

abbrev pub bad_peak : List ℕ → List ℕ → ℕ → Bool
bad_peak f s k = not (number s (entry k) == peak f s k)

-- what admit answers to a file and a sheet
abbrev pub admit_refusal : List ℕ → List ℕ → Option Refusal
admit_refusal f s =
    layout_refusal f else
    refused MemoryShort (when (nat_lt (length s) (length f)) 0) else
    code_refusal f else
    refused BadNumber (option_map (λ (x : Point). x.place) (first (breaks f s) (points f))) else
    refused BadPeak (option_map entry (first (bad_peak f s) (upto (methods f))))

abbrev pub Admitted : List ℕ → List ℕ → Type 0
Admitted f s = admit_refusal f s ≡ None

-- q gets the number d, if it is a place of method k and still blank
abbrev pub give : List ℕ → ℕ → ℕ → List ℕ → ℕ → List ℕ
give f k d s q = cond (is_place f k q && number s q == blank) (slice_set s q d) s

-- a numbered place that is balanced gives its result to its successors
abbrev pub give_on : List ℕ → List ℕ → Point → List ℕ
give_on f s x =
    let d = number s x.place in
    cond (numbered d && balanced f x.place d) (fold (give f x.method (depth_after f x.place d)) s (successors f x.place)) s

abbrev pub pass : List ℕ → List ℕ → List ℕ
pass f s = fold (give_on f) s (points f)

abbrev pub blanks : List ℕ → List ℕ
blanks f = replicate (length f) blank

-- every start has 0, all else is blank
abbrev pub starts : List ℕ → List ℕ
starts f = fold (λ s k. set s (code_address f k) 0) (blanks f) (upto (methods f))

-- every place that its method's start reaches, with the number that a way there gives it: as many passes as there are places
unfoldable pub numbering : List ℕ → List ℕ
numbering f = fold (λ s _. pass f s) (starts f) (points f)

-- the numbering breaks the rule in method k
abbrev pub unnumberable : List ℕ → ℕ → Bool
unnumberable f k = method_breaks f (numbering f) k

-- what check answers to a file whose layout passes, where there is memory enough
abbrev pub code_or_numbering_refusal : List ℕ → Option Refusal
code_or_numbering_refusal f = code_refusal f else refused NoNumbering (option_map (code_address f) (first (unnumberable f) (upto (methods f))))

-- what check answers to a file, a sheet of n entries and pending memory of m
abbrev pub check_refusal : List ℕ → ℕ → ℕ → Option Refusal
check_refusal f n m =
    layout_refusal f else
    refused MemoryShort (when (nat_lt n (length f) || nat_lt m (length f)) 0) else
    code_or_numbering_refusal f

-- of the methods below n in the sheet s: how many places are numbered, and the largest peak
abbrev pub count_to : List ℕ → List ℕ → ℕ → ℕ
count_to f s n = count_by (λ (x : Point). numbered (number s x.place)) (points_from f (upto n))

abbrev pub largest_to : List ℕ → List ℕ → ℕ → ℕ
largest_to f s n = fold (λ m k. max m (peak f s k)) 0 (upto n)

-- the good answer
abbrev pub tally : List ℕ → ℕ × ℕ
tally f = (count_to f (numbering f) (methods f), largest_to f (numbering f) (methods f))

-- the sheet s with the peaks of the methods below n at their entries
abbrev pub peaks_to : List ℕ → List ℕ → ℕ → List ℕ
peaks_to f s n = fold (λ t k. set t (entry k) (peak f s k)) s (upto n)

abbrev pub with_peaks : List ℕ → List ℕ → List ℕ
with_peaks f s = peaks_to f s (methods f)

-- the sheet that check leaves of s when it answers o: what belongs to the file is numbered, or blank where the code is refused;
-- an earlier refusal leaves all as it was
abbrev pub sheet_left : List ℕ → List ℕ → Option Refusal → List ℕ
sheet_left f s None = with_peaks f (numbering f) ++ drop (length f) s
sheet_left f s (Some x) = cond (nat_le (number_of x.rule) 12) s (blanks f ++ drop (length f) s)

abbrev pub sheet_after : List ℕ → List ℕ → ℕ → List ℕ
sheet_after f s m = sheet_left f s (check_refusal f (length s) m)
