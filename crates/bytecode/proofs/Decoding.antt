-- What a decoded instruction says of its bytes, row by row of the table. Assumes nothing.
use Rattle.std.proofs.Common.{◌≡◌, ℕ, ◌+◌, ◌-◌, ◌≤◌, Bool, true, false, cond, not, ◌&&◌, eqb, leb, List, [], ◌∷◌, length, take, drop, is_some, IfSome, Some, None, Option, sym, refl, ap, ◌∙◌, subst, arith, MatchOption}
use Rattle.std.specs.Option.{option_map}
use Rattle.std.proofs.lemmas.List.{take_rest, get_or-drop, length-drop}
use Rattle.std.proofs.lemmas.Bool.{eqb-true, leb-true}
use Rattle.std.proofs.lemmas.Bool.Decides.{nat_tests}
use Rattle.std.proofs.lemmas.Option.{MatchOption-at_some}
use Rattle.format.specs.Layout.{byte, be16}
use Rattle.format.proofs.Finds.{some_none}
use Rattle.bytecode.specs.declared.instruction.Instruction.{Instruction}
use Rattle.bytecode.specs.Opcodes.{Row, rows, find, length_of, decode}
use Rattle.bytecode.specs.Encoding.{opcode_of, Arguments, Encodes}

-- the bytes after n are those after the instruction, if it has n
pub rest_is : (bs : List ℕ) (n : ℕ) → length_of (byte bs 0) ≡ n → take (length bs - n) (drop n bs) ≡ drop (length_of (byte bs 0)) bs
rest_is bs n e = rw e (take_rest bs n)

-- the instruction has the opcode, and its arguments stand in the bytes
abbrev Has : List ℕ → ℕ → Instruction → Type 0
Has bs c i = (opcode_of i ≡ c) × Arguments (byte bs 1) (be16 bs 1) (be16 bs 2) i

-- a row has at most four bytes, and reads an instruction of its opcode just if it has bytes
abbrev Reads : List ℕ → Row → Type 0
Reads bs r = (leb r.length 4 ≡ true) × (is_some (r.read bs) ≡ not (eqb r.length 0)) × IfSome (r.read bs) (Has bs r.opcode)

abbrev Each : List ℕ → List Row → Type 0
Each bs [] = Unit {0}
Each bs (r ∷ rs) = Reads bs r × Each bs rs

all_rows : (bs : List ℕ) → Each bs rows
all_rows bs = search

-- so of the row that is found
found : (bs : List ℕ) (c : ℕ) (rs : List Row) → Each bs rs → Reads bs (find c rs)
found bs c [] h = (refl, refl, tt)
found bs c (r ∷ rs) h = go (eqb r.opcode c) (found bs c rs h.1)
  where
    go : (b : Bool) → Reads bs (find c rs) → Reads bs (cond b r (find c rs))
    go true ih = h.0
    go false ih = ih

found_opcode : (c : ℕ) (rs : List Row) → (find c rs).opcode ≡ c
found_opcode c [] = refl
found_opcode c (r ∷ rs) = go (eqb r.opcode c) refl (found_opcode c rs)
  where
    go : (b : Bool) → eqb r.opcode c ≡ b → (find c rs).opcode ≡ c → (cond b r (find c rs)).opcode ≡ c
    go true q ih = eqb-true r.opcode c q
    go false q ih = ih

-- no instruction has more than four bytes
pub length-short : (c : ℕ) → length_of c ≤ 4
length-short c = leb-true (length_of c) 4 (found [] c rows (all_rows [])).0

-- the opcode is listed, and the instruction's bytes are there
abbrev pub listed : List ℕ → Bool
listed bs = not (eqb (length_of (byte bs 0)) 0) && leb (length_of (byte bs 0)) (length bs)

-- there is an instruction just if its opcode is listed and its bytes are there
pub decode_there : (bs : List ℕ) → is_some (decode bs) ≡ listed bs
decode_there bs = go (not (eqb (length_of (byte bs 0)) 0)) (leb (length_of (byte bs 0)) (length bs)) (found bs (byte bs 0) rows (all_rows bs)).1
  where
    go : (a b : Bool) → is_some ((find (byte bs 0) rows).read bs) ≡ a → is_some (cond (a && b) ((find (byte bs 0) rows).read bs) None) ≡ a && b
    go true true e = e
    go true false e = refl
    go false b e = refl

-- an instruction has the opcode and the arguments of the bytes that it is read from
pub encodes : (bs : List ℕ) (i : Instruction) → decode bs ≡ Some i → Has bs (byte bs 0) i
encodes bs i e = go (listed bs) e
  where
    go : (b : Bool) → cond b ((find (byte bs 0) rows).read bs) None ≡ Some i → Has bs (byte bs 0) i
    go true e' =
        let t = MatchOption-at_some (Unit {0}) (Has bs (find (byte bs 0) rows).opcode) i e' (found bs (byte bs 0) rows (all_rows bs)).2 in
        (t.0 ∙ found_opcode (byte bs 0) rows, t.1)
    go false e' = absurd (some_none (sym e'))

-- the same at a place of a file
module _ (f : List ℕ) (p : ℕ) where
  pub byte_at : (j : ℕ) → byte (drop p f) j ≡ byte f (p + j)
  byte_at j = get_or-drop p f j 0

  pub first_byte : byte (drop p f) 0 ≡ byte f p
  first_byte = byte_at 0 ∙ ap (byte f) (omega arith)

  pub number_at : (j : ℕ) → be16 (drop p f) j ≡ be16 f (p + j)
  number_at j = let e : p + (j + 1) ≡ p + j + 1 = omega arith in rw (byte_at j, byte_at (j + 1), e)

  pub encodes_at : (i : Instruction) → decode (drop p f) ≡ Some i → Encodes f p i
  encodes_at i e = record { opcode = h.0 ∙ first_byte; arguments = moved (byte_at 1) (number_at 1) (number_at 2) h.1 }
    where
      h : Has (drop p f) (byte (drop p f) 0) i
      h = encodes (drop p f) i e

      moved : {a a' b b' c c' : ℕ} → a ≡ a' → b ≡ b' → c ≡ c' → Arguments a b c i → Arguments a' b' c' i
      moved {a} {a'} {b} {b'} {c} {c'} p q r h = subst (λ x. Arguments x b' c' i) p (subst (λ x. Arguments a x c' i) q (subst (λ x. Arguments a b x i) r h))

  -- at a place with four bytes there is an instruction, unless its opcode is not listed
  pub unlisted_at : p + 4 ≤ length f → decode (drop p f) ≡ None → length_of (byte f p) ≡ 0
  unlisted_at h e =
      let t : listed (drop p f) ≡ false = sym (decode_there (drop p f)) ∙ ap is_some e in
      let n : length (drop p f) ≡ length f - p = length-drop p f in
      sym (ap length_of first_byte) ∙ unlisted (length_of (byte (drop p f) 0)) (length (drop p f)) (length-short (byte (drop p f) 0)) (omega arith) t
    where
      unlisted : (n m : ℕ) → n ≤ 4 → 4 ≤ m → not (eqb n 0) && leb n m ≡ false → n ≡ 0
      unlisted n m s l e = grind (arith, nat_tests)

-- the same of an answer that the code gives
pub says_at : {X : Type 0} (f : List ℕ) (p : ℕ) (see : X → Instruction) (o : Option X) → p + 4 ≤ length f → option_map see o ≡ decode (drop p f) →
    MatchOption o (length_of (byte f p) ≡ 0) (λ x. Encodes f p (see x))
says_at f p see (Some x) l e = encodes_at f p (see x) (sym e)
says_at f p see None l e = unlisted_at f p l (sym e)
