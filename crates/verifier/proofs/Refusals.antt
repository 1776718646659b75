-- Which rules each part of an answer names, and what a later refusal says of the earlier rules. Assumes nothing.
use Rattle.std.proofs.Common.{◌≡◌, ℕ, ◌<◌, ◌≤◌, false, not, ◌||◌, eqb, ltb, ◌⊎◌, List, length, Some, None, Option, sym, refl, ap, ◌∙◌, inl, inr, arith, lit≤}
use Rattle.std.specs.Option.{option_map}
use Rattle.std.proofs.lemmas.Bool.{or_from, or_parts, not-false, not_from_true, eqb-true, eq-eqb, le-ltb, ltb-false}
use Rattle.refusals.specs.Refusals.{number_of}
use Rattle.refusals.specs.declared.Rule.{Rule}
use Rattle.refusals.specs.declared.Rule.TheVariants.{FileTooLong, HeaderCut, WrongMagic, WrongVersion, NoMethod, TablesCut, BadVariables, BadCode, BadDebugBlock, BadMessage, BadProgramName, MemoryShort, BadInstruction, BadIndex, BadTarget, MixedReturns, NoNumbering, BadNumber, BadPeak}
use Rattle.refusals.specs.declared.Refusal.{Refusal}
use Rattle.format.specs.Search.{upto, first, ◌else◌, when}
use Rattle.format.specs.Layout.{byte, methods, messages, entry, tables_end, code_address, message_due}
use Rattle.format.specs.Rules.{refused, wrong_magic, bad_variables, bad_code, bad_debug_block, bad_message, bad_program_name, layout_refusal}
use Rattle.format.specs.Parts.{Accepted}
use Rattle.format.proofs.Finds.{In, some_none, else_none, none_else, else_some, else_skip, when_none, none_when, mapped_none, none_mapped, first_none, none_first, none_below, below_none}
use Rattle.bytecode.specs.Places.{Point, points}
use Rattle.bytecode.specs.Rules.{bad_instruction, bad_index, bad_target, mixed_returns, code_refusal}
use Rattle.verifier.specs.Numbering.{number, breaks, peak, bad_peak, unnumberable, Admitted, check_refusal}
use Rattle.verifier.specs.Verdicts.{EarlierPass, Refused17At}

pub refused_none : (r : Rule) (o : Option ℕ) → refused r o ≡ None → o ≡ None
refused_none r o e = mapped_none (λ p. record { rule = r; place = p }) o e

pub none_refused : (r : Rule) (o : Option ℕ) → o ≡ None → refused r o ≡ None
none_refused r o e = none_mapped (λ p. record { rule = r; place = p }) o e

refused_rule : (r : Rule) (o : Option ℕ) (x : Refusal) → refused r o ≡ Some x → x.rule ≡ r
refused_rule r None x e = absurd (some_none (sym e))
refused_rule r (Some p) x e = let h : x ≡ record { rule = r; place = p } = cc in ap (λ (y : Refusal). y.rule) h

-- an answer names a rule up to n
abbrev UpTo : ℕ → Option Refusal → Type 0
UpTo n o = (x : Refusal) → o ≡ Some x → number_of x.rule ≤ n

up_to_else : (n : ℕ) (a b : Option Refusal) → UpTo n a → UpTo n b → UpTo n (a else b)
up_to_else n a b h k x e = go (else_some a b x e)
  where
    go : (a ≡ Some x) ⊎ ((a ≡ None) × (b ≡ Some x)) → number_of x.rule ≤ n
    go (inl p) = h x p
    go (inr p) = k x p.1

up_to : (n : ℕ) (r : Rule) (o : Option ℕ) → number_of r ≤ n → UpTo n (refused r o)
up_to n r o h x e = let q = ap number_of (refused_rule r o x e) in omega arith

pub layout_up_to : (f : List ℕ) → UpTo 11 (layout_refusal f)
layout_up_to f =
    up_to_else 11 _ _ (up_to 11 FileTooLong (when (ltb 65535 (length f)) 0) (lit≤ tt))
    (up_to_else 11 _ _ (up_to 11 HeaderCut (when (ltb (length f) 13) (length f)) (lit≤ tt))
    (up_to_else 11 _ _ (up_to 11 WrongMagic (when (wrong_magic f) 0) (lit≤ tt))
    (up_to_else 11 _ _ (up_to 11 WrongVersion (when (not (eqb (byte f 4) 0x10)) 4) (lit≤ tt))
    (up_to_else 11 _ _ (up_to 11 NoMethod (when (eqb (methods f) 0) 10) (lit≤ tt))
    (up_to_else 11 _ _ (up_to 11 TablesCut (when (ltb (length f) (tables_end f)) (length f)) (lit≤ tt))
    (up_to_else 11 _ _ (up_to 11 BadVariables (option_map entry (first (bad_variables f) (upto (methods f)))) (lit≤ tt))
    (up_to_else 11 _ _ (up_to 11 BadCode (option_map entry (first (bad_code f) (upto (methods f)))) (lit≤ tt))
    (up_to_else 11 _ _ (up_to 11 BadDebugBlock (option_map entry (first (bad_debug_block f) (upto (methods f)))) (lit≤ tt))
    (up_to_else 11 _ _ (up_to 11 BadMessage (option_map (message_due f) (first (bad_message f) (upto (messages f)))) (lit≤ tt))
    (up_to 11 BadProgramName (when (bad_program_name f) 5) (lit≤ tt)))))))))))

abbrev place_of : Point → ℕ
place_of x = x.place

code_up_to : (f : List ℕ) → UpTo 16 (code_refusal f)
code_up_to f =
    up_to_else 16 _ _ (up_to 16 BadInstruction (option_map place_of (first (bad_instruction f) (points f))) (lit≤ tt))
    (up_to_else 16 _ _ (up_to 16 BadIndex (option_map place_of (first (bad_index f) (points f))) (lit≤ tt))
    (up_to_else 16 _ _ (up_to 16 BadTarget (option_map place_of (first (bad_target f) (points f))) (lit≤ tt))
    (up_to 16 MixedReturns (option_map (code_address f) (first (mixed_returns f) (upto (methods f)))) (lit≤ tt))))

-- an answer of a higher number comes from a later rule
later : (n : ℕ) (a b : Option Refusal) (x : Refusal) → UpTo n a → n < number_of x.rule → (a else b) ≡ Some x → (a ≡ None) × (b ≡ Some x)
later n a b x h l e = go (else_some a b x e)
  where
    go : (a ≡ Some x) ⊎ ((a ≡ None) × (b ≡ Some x)) → (a ≡ None) × (b ≡ Some x)
    go (inl p) = let k = h x p in absurd (omega arith)
    go (inr p) = p

-- the answers of check from the memory on
abbrev short : List ℕ → ℕ → ℕ → Option ℕ
short f n m = when (ltb n (length f) || ltb m (length f)) 0

abbrev pub numberless : List ℕ → Option ℕ
numberless f = first (unnumberable f) (upto (methods f))

abbrev pub last_rule : List ℕ → Option ℕ → Option Refusal
last_rule f o = refused NoNumbering (option_map (code_address f) o)

short_none : (f : List ℕ) (n m : ℕ) → refused MemoryShort (short f n m) ≡ None → (length f ≤ n) × (length f ≤ m)
short_none f n m e =
    let b = or_parts (ltb n (length f)) (ltb m (length f)) (when_none (ltb n (length f) || ltb m (length f)) 0 (refused_none MemoryShort (short f n m) e)) in
    (ltb-false n (length f) b.0, ltb-false m (length f) b.1)

none_short : (f : List ℕ) (n m : ℕ) → length f ≤ n → length f ≤ m → refused MemoryShort (short f n m) ≡ None
none_short f n m a b =
    none_refused MemoryShort (short f n m) (none_when (ltb n (length f) || ltb m (length f)) 0 (or_from (ltb n (length f)) (ltb m (length f)) (le-ltb n (length f) a) (le-ltb m (length f) b)))

pub check_up_to : (f : List ℕ) (n m : ℕ) → UpTo 17 (check_refusal f n m)
check_up_to f n m =
    up_to_else 17 (layout_refusal f) _ (λ x e. let l = layout_up_to f x e in omega arith)
    (up_to_else 17 _ _ (up_to 17 MemoryShort (short f n m) (lit≤ tt))
    (up_to_else 17 (code_refusal f) _ (λ x e. let l = code_up_to f x e in omega arith)
    (up_to 17 NoNumbering (option_map (code_address f) (numberless f)) (lit≤ tt))))

-- a refusal past 12 passes the layout and the memory
pub past_12 : (f : List ℕ) (n m : ℕ) (x : Refusal) → 12 < number_of x.rule → check_refusal f n m ≡ Some x →
    Accepted f × (length f ≤ n) × (length f ≤ m) × ((code_refusal f else last_rule f (numberless f)) ≡ Some x)
past_12 f n m x l e =
    let r = later 11 (layout_refusal f) _ x (layout_up_to f) (omega arith) e in
    let q = later 12 (refused MemoryShort (short f n m)) _ x (up_to 12 MemoryShort (short f n m) (lit≤ tt)) l r.1 in
    let b = short_none f n m q.0 in
    (r.0, b.0, b.1, q.1)

-- 17 passes every earlier rule, and where these pass only 17 is left
pub at_17_earlier : (f : List ℕ) (n m p : ℕ) → Refused17At f n m p → EarlierPass f n m
at_17_earlier f n m p e =
    let x : Refusal = record { rule = NoNumbering; place = p } in
    let r = past_12 f n m x (lit≤ tt) e in
    (r.0, r.1, r.2, (later 16 (code_refusal f) _ x (code_up_to f) (lit≤ tt) r.3).0)

pub earlier_17 : (f : List ℕ) (n m : ℕ) → EarlierPass f n m → check_refusal f n m ≡ last_rule f (numberless f)
earlier_17 f n m p = else_skip (layout_refusal f) _ p.0 ∙ else_skip (refused MemoryShort (short f n m)) _ (none_short f n m p.1 p.2) ∙ else_skip (code_refusal f) _ p.3

pub last_rule_some : (f : List ℕ) (p : ℕ) (o : Option ℕ) → last_rule f o ≡ Some (record { rule = NoNumbering; place = p }) → (k : ℕ) × (o ≡ Some k) × (p ≡ code_address f k)
last_rule_some f p None e = absurd (some_none (sym e))
last_rule_some f p (Some k) e =
    let r : ◌≡◌ {A = Refusal} (record { rule = NoNumbering; place = p }) (record { rule = NoNumbering; place = code_address f k }) = cc in
    (k, refl, ap (λ (x : Refusal). x.place) r)

-- what check accepts
pub accepted_parts : (f : List ℕ) (n m : ℕ) → check_refusal f n m ≡ None → EarlierPass f n m × ((k : ℕ) → k < methods f → unnumberable f k ≡ false)
accepted_parts f n m e =
    let a = else_none (layout_refusal f) _ e in
    let b = else_none (refused MemoryShort (short f n m)) _ a.1 in
    let c = else_none (code_refusal f) _ b.1 in
    let d = short_none f n m b.0 in
    ((a.0, d.0, d.1, c.0), none_below (unnumberable f) (methods f) (mapped_none (code_address f) (numberless f) (refused_none NoNumbering (option_map (code_address f) (numberless f)) c.1)))

-- what admit accepts
pub record Admits (f s : List ℕ) : Type 0 where
  pub accepted : Accepted f
  pub long : length f ≤ length s
  pub code : code_refusal f ≡ None
  pub kept : (x : Point) → In x (points f) → breaks f s x ≡ false
  pub peaks : (k : ℕ) → k < methods f → number s (entry k) ≡ peak f s k

pub admits : (f s : List ℕ) → Admitted f s → Admits f s
admits f s e =
    let a = else_none (layout_refusal f) _ e in
    let b = else_none (refused MemoryShort (when (ltb (length s) (length f)) 0)) _ a.1 in
    let c = else_none (code_refusal f) _ b.1 in
    let d = else_none (refused BadNumber (option_map place_of (first (breaks f s) (points f)))) _ c.1 in
    record {
      accepted = a.0;
      long = ltb-false (length s) (length f) (when_none (ltb (length s) (length f)) 0 (refused_none MemoryShort (when (ltb (length s) (length f)) 0) b.0));
      code = c.0;
      kept = first_none (breaks f s) (points f) (mapped_none place_of (first (breaks f s) (points f)) (refused_none BadNumber (option_map place_of (first (breaks f s) (points f))) d.0));
      peaks = λ k l. eqb-true (number s (entry k)) (peak f s k) (not-false (eqb (number s (entry k)) (peak f s k))
          (none_below (bad_peak f s) (methods f) (mapped_none entry (first (bad_peak f s) (upto (methods f))) (refused_none BadPeak (option_map entry (first (bad_peak f s) (upto (methods f)))) d.1)) k l));
    }

pub from_admits : (f s : List ℕ) → Admits f s → Admitted f s
from_admits f s h =
    none_else (layout_refusal f) _ h.accepted
    (none_else _ _ (none_refused MemoryShort (when (ltb (length s) (length f)) 0) (none_when (ltb (length s) (length f)) 0 (le-ltb (length s) (length f) h.long)))
    (none_else (code_refusal f) _ h.code
    (none_else _ _ (none_refused BadNumber (option_map place_of (first (breaks f s) (points f))) (none_mapped place_of (first (breaks f s) (points f)) (none_first (breaks f s) (points f) h.kept)))
    (none_refused BadPeak (option_map entry (first (bad_peak f s) (upto (methods f)))) (none_mapped entry (first (bad_peak f s) (upto (methods f))) (below_none (bad_peak f s) (methods f)
    (λ k l. not_from_true (eqb (number s (entry k)) (peak f s k)) (eq-eqb (number s (entry k)) (peak f s k) (h.peaks k l)))))))))
