-- What each rule of the layout gives of an accepted file. Assumes nothing.
use Rattle.std.proofs.Common.{◌≡◌, ℕ, ◌<◌, Bool, false, not, eqb, ltb, List, length, None}
use Rattle.std.specs.Option.{option_map}
use Rattle.refusals.specs.declared.Rule.{Rule}
use Rattle.refusals.specs.declared.Rule.TheVariants.{FileTooLong, HeaderCut, WrongMagic, WrongVersion, NoMethod, TablesCut, BadVariables, BadCode, BadDebugBlock, BadMessage, BadProgramName}
use Rattle.format.specs.Search.{first, upto, when}
use Rattle.format.specs.Layout.{byte, methods, messages, entry, tables_end, message_due}
use Rattle.format.specs.Rules.{refused, wrong_magic, bad_variables, bad_code, bad_debug_block, bad_message, bad_program_name}
use Rattle.format.specs.Parts.{Accepted}
use Rattle.format.proofs.Finds.{else_none, none_else, mapped_none, none_mapped, when_none, none_when, none_below, below_none}

-- each rule by itself: what it asks of the whole file
pub record Kept (f : List ℕ) : Type 0 where
  pub short : ltb 65535 (length f) ≡ false
  pub header : ltb (length f) 13 ≡ false
  pub magic : wrong_magic f ≡ false
  pub version : not (eqb (byte f 4) 0x10) ≡ false
  pub some : eqb (methods f) 0 ≡ false
  pub tables : ltb (length f) (tables_end f) ≡ false
  pub variables : (k : ℕ) → k < methods f → bad_variables f k ≡ false
  pub code : (k : ℕ) → k < methods f → bad_code f k ≡ false
  pub debug : (k : ℕ) → k < methods f → bad_debug_block f k ≡ false
  pub message : (k : ℕ) → k < messages f → bad_message f k ≡ false
  pub name : bad_program_name f ≡ false

-- a rule that does not refuse
once : (r : Rule) (b : Bool) (p : ℕ) → refused r (when b p) ≡ None → b ≡ false
once r b p e = when_none b p (mapped_none (λ p. record { rule = r; place = p }) (when b p) e)

each : (r : Rule) (place : ℕ → ℕ) (t : ℕ → Bool) (n : ℕ) → refused r (option_map place (first t (upto n))) ≡ None → (k : ℕ) → k < n → t k ≡ false
each r place t n e = none_below t n (mapped_none place (first t (upto n)) (mapped_none (λ p. record { rule = r; place = p }) (option_map place (first t (upto n))) e))

unbroken : (r : Rule) (b : Bool) (p : ℕ) → b ≡ false → refused r (when b p) ≡ None
unbroken r b p e = none_mapped (λ p. record { rule = r; place = p }) (when b p) (none_when b p e)

unbroken_each : (r : Rule) (place : ℕ → ℕ) (t : ℕ → Bool) (n : ℕ) → ((k : ℕ) → k < n → t k ≡ false) → refused r (option_map place (first t (upto n))) ≡ None
unbroken_each r place t n h = none_mapped (λ p. record { rule = r; place = p }) (option_map place (first t (upto n))) (none_mapped place (first t (upto n)) (below_none t n h))

-- an accepted file keeps each rule
pub kept : (f : List ℕ) → Accepted f → Kept f
kept f h =
    let a = else_none (refused FileTooLong (when (ltb 65535 (length f)) 0)) _ h in
    let b = else_none (refused HeaderCut (when (ltb (length f) 13) (length f))) _ a.1 in
    let c = else_none (refused WrongMagic (when (wrong_magic f) 0)) _ b.1 in
    let d = else_none (refused WrongVersion (when (not (eqb (byte f 4) 0x10)) 4)) _ c.1 in
    let e = else_none (refused NoMethod (when (eqb (methods f) 0) 10)) _ d.1 in
    let g = else_none (refused TablesCut (when (ltb (length f) (tables_end f)) (length f))) _ e.1 in
    let i = else_none (refused BadVariables (option_map entry (first (bad_variables f) (upto (methods f))))) _ g.1 in
    let j = else_none (refused BadCode (option_map entry (first (bad_code f) (upto (methods f))))) _ i.1 in
    let k = else_none (refused BadDebugBlock (option_map entry (first (bad_debug_block f) (upto (methods f))))) _ j.1 in
    let l = else_none (refused BadMessage (option_map (message_due f) (first (bad_message f) (upto (messages f))))) _ k.1 in
    record {
      short = once FileTooLong (ltb 65535 (length f)) 0 a.0;
      header = once HeaderCut (ltb (length f) 13) (length f) b.0;
      magic = once WrongMagic (wrong_magic f) 0 c.0;
      version = once WrongVersion (not (eqb (byte f 4) 0x10)) 4 d.0;
      some = once NoMethod (eqb (methods f) 0) 10 e.0;
      tables = once TablesCut (ltb (length f) (tables_end f)) (length f) g.0;
      variables = each BadVariables entry (bad_variables f) (methods f) i.0;
      code = each BadCode entry (bad_code f) (methods f) j.0;
      debug = each BadDebugBlock entry (bad_debug_block f) (methods f) k.0;
      message = each BadMessage (message_due f) (bad_message f) (messages f) l.0;
      name = once BadProgramName (bad_program_name f) 5 l.1;
    }

-- a file that keeps each rule is accepted
pub accepted : (f : List ℕ) → Kept f → Accepted f
accepted f k =
    none_else _ _ (unbroken FileTooLong (ltb 65535 (length f)) 0 k.short)
    (none_else _ _ (unbroken HeaderCut (ltb (length f) 13) (length f) k.header)
    (none_else _ _ (unbroken WrongMagic (wrong_magic f) 0 k.magic)
    (none_else _ _ (unbroken WrongVersion (not (eqb (byte f 4) 0x10)) 4 k.version)
    (none_else _ _ (unbroken NoMethod (eqb (methods f) 0) 10 k.some)
    (none_else _ _ (unbroken TablesCut (ltb (length f) (tables_end f)) (length f) k.tables)
    (none_else _ _ (unbroken_each BadVariables entry (bad_variables f) (methods f) k.variables)
    (none_else _ _ (unbroken_each BadCode entry (bad_code f) (methods f) k.code)
    (none_else _ _ (unbroken_each BadDebugBlock entry (bad_debug_block f) (methods f) k.debug)
    (none_else _ _ (unbroken_each BadMessage (message_due f) (bad_message f) (messages f) k.message)
    (unbroken BadProgramName (bad_program_name f) 5 k.name))))))))))
