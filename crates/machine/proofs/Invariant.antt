-- What holds of the plain machine between two instructions, and that each instruction keeps it. Assumes nothing.
use Rattle.std.proofs.Common.{◌≡◌, ℕ, suc, ◌+◌, ◌-◌, ◌<◌, ◌≤◌, Bool, true, false, cond, not, ◌&&◌, ◌||◌, eqb, ltb, leb, List, [], ◌∷◌, ◌++◌, length, drop, set, Some, None, Option, sym, refl, ap, ◌∙◌, subst, arith, length-append, length-drop, length-set, length-take}
use mathlib.Core.List.{Memᴰ}
use lib.ListN.{length-replicate, length-reverse}
use Rattle.std.proofs.lemmas.Bool.{eq-eqb, leb-false, ltb-false, both_ways, lt-ltb, le-leb, and_parts, and_from, or_parts, not-true}
use Rattle.format.specs.Layout.{byte, be16, methods, constants, messages, parameters, locals, code_address}
use Rattle.format.specs.Parts.{Accepted}
use Rattle.format.proofs.Finds.{some_any}
use Rattle.bytecode.specs.declared.instruction.Instruction.{Instruction}
use Rattle.bytecode.specs.declared.instruction.Instruction.TheVariants.{Nop, Wide, Bipush, Ldc, Iload, Istore, Pop, Dup, Swap, Iadd, Isub, Iand, Ior, Iinc, Ifeq, Iflt, IfIcmpeq, Goto, Ireturn, Return, Invokevirtual, In, Out, Err, Setout, Halt}
use Rattle.bytecode.specs.Opcodes.{decode, length_of, target}
use Rattle.bytecode.specs.Encoding.{Encodes}
use Rattle.bytecode.specs.Places.{places, code_end, is, holds, takes, leaves, next, successors, jump_target}
use Rattle.bytecode.proofs.Decoding.{encodes_at, unlisted_at}
use Rattle.bytecode.proofs.Coded.{place_room}
use Rattle.verifier.specs.Numbering.{number, depth_after, Admitted}
use Rattle.verifier.proofs.Places.{in_is_place}
use Rattle.verifier.proofs.Refusals.{admits}
use Rattle.verifier.proofs.Verified.{Verified, verified}
use Rattle.machine.specs.declared.stop.End.{End}
use Rattle.machine.specs.declared.stop.End.TheVariants as ending
use Rattle.output.specs.Text.{negative}
use Rattle.machine.specs.Machine.{Frame, State, Fed, none_left, execute, return_to, call, take_unit, awaits_input}
use Rattle.machine.proofs.Opcodes.{takes_as, leaves_as, successors_as, takes_is, leaves_is, successors_are, next_is}

-- an admitted file with its sheet
pub record Good (f s : List ℕ) : Type 0 where
  pub accepted : Accepted f
  pub facts : Verified f s

pub good_from : (f s : List ℕ) → Admitted f s → Good f s
good_from f s a = record { accepted = (admits f s a).accepted; facts = verified f s a }

-- frame c waits for a frame of method m that goes back to b: its call stands at the site
pub record Called (f s : List ℕ) (m b : ℕ) (c : Frame) : Type 0 where
  pub site : ℕ
  pub return_place : b ≡ site + 2
  pub below : c.method < methods f
  pub stands : Memᴰ site (places f c.method)
  pub few : number s site ≤ 255
  pub calls : 0xB6 ≡ byte f site
  pub callee : byte f (site + 1) ≡ m
  pub wide : length c.variables ≡ parameters f c.method + locals f c.method
  pub level : length c.operands + parameters f m ≡ number s site

abbrev pub Stack : List ℕ → List ℕ → ℕ → ℕ → List Frame → Type 0
Stack f s m b [] = Unit {0}
Stack f s m b (c ∷ cs) = Called f s m b c × Stack f s c.method c.return_place cs

-- a frame of method m with v variables and w operands runs at p above the frames ws, and goes back to b
pub record Runs (f s : List ℕ) (m b v w : ℕ) (ws : List Frame) (p : ℕ) : Type 0 where
  pub below : m < methods f
  pub stands : Memᴰ p (places f m)
  pub few : number s p ≤ 255
  pub level : w ≡ number s p
  pub wide : v ≡ parameters f m + locals f m
  pub stack : Stack f s m b ws

abbrev pub Sure : List ℕ → List ℕ → State → Type 0
Sure f s x = Runs f s x.running.method x.running.return_place (length x.running.variables) (length x.running.operands) x.waiting x.place

-- an instruction that does not go astray, and what holds after it
abbrev pub Made : List ℕ → List ℕ → Option Fed → Type 0
Made f s None = ⊥
Made f s (Some y) = Sure f s y.state

pub made_some : (f s : List ℕ) (o : Option Fed) → Made f s o → (y : Fed) × (o ≡ Some y) × Sure f s y.state
made_some f s None h = absurd h
made_some f s (Some y) h = (y, refl, h)

made_if : (f s : List ℕ) (b : Bool) (o : Option Fed) → b ≡ true → Made f s o → Made f s (cond b o None)
made_if f s b o e h = subst (λ b. Made f s (cond b o None)) (sym e) h

-- q is a place of method k with the number that the instruction at p leaves
abbrev Lands : List ℕ → List ℕ → ℕ → ℕ → ℕ → Type 0
Lands f s k p q = Memᴰ q (places f k) × (number s q ≡ depth_after f p (number s p))

-- the rule at a numbered place, part by part
module _ (f s : List ℕ) (good : Good f s) (k p : ℕ) (below : k < methods f) (stands : Memᴰ p (places f k)) (few : number s p ≤ 255) where
  bounds : (takes f p ≤ number s p) × (depth_after f p (number s p) ≤ 255)
  bounds = (good.facts.rule k below).balances p stands few

  lands : (q : ℕ) → Memᴰ q (successors f p) → Lands f s k p q
  lands q i = (good.facts.rule k below).goes_on p stands few q i

  one_way : (q : ℕ) → successors f p ≡ q ∷ [] → Lands f s k p q
  one_way q e = lands q (subst (λ qs. Memᴰ q qs) (sym e) (Memᴰ.head refl))

  two_ways : (q r : ℕ) → successors f p ≡ q ∷ r ∷ [] → Lands f s k p q × Lands f s k p r
  two_ways q r e = (
    lands q (subst (λ qs. Memᴰ q qs) (sym e) (Memᴰ.head refl)),
    lands r (subst (λ qs. Memᴰ r qs) (sym e) (Memᴰ.tail (Memᴰ.head refl))),
  )

  -- an instruction stands there
  pub reads : (o : Instruction) × (decode (drop p f) ≡ Some o)
  reads = go (decode (drop p f)) refl
    where
      go : (o : Option Instruction) → decode (drop p f) ≡ o → (i : Instruction) × (o ≡ Some i)
      go (Some i) e = (i, refl)
      go None e =
          let n = unlisted_at f p (place_room f k p good.accepted below (in_is_place f k p stands)) e in
          let w = not-true (eqb (length_of (byte f p)) 0) (and_parts (not (eqb (length_of (byte f p)) 0)) (leb (next f p) (code_end f k)) (good.facts.code.known k p below stands)).0 in
          absurd (both_ways (eqb (length_of (byte f p)) 0) w (eq-eqb (length_of (byte f p)) 0 n))

none_of_five : (a b c d e : Bool) → (a || b || c || d || e) ≡ false → (a ≡ false) × (b ≡ false) × (c ≡ false) × (d ≡ false) × (e ≡ false)
none_of_five a b c d e h =
    let h1 = or_parts (a || b || c || d) e h in
    let h2 = or_parts (a || b || c) d h1.0 in
    let h3 = or_parts (a || b) c h2.0 in
    let h4 = or_parts a b h3.0 in
    (h4.0, h4.1, h3.1, h2.1, h1.1)

module _ (f s : List ℕ) (good : Good f s) (x : Fed) (sure : Sure f s x.state) where
  abbrev p : ℕ
  p = x.state.place

  abbrev m : ℕ
  m = x.state.running.method

  abbrev vs : List ℕ
  vs = x.state.running.variables

  -- the running frame at another place of its method, with v variables and w operands
  abbrev At : ℕ → ℕ → ℕ → Type 0
  At v w q = Runs f s m x.state.running.return_place v w x.state.waiting q

  here : (takes f p ≤ number s p) × (depth_after f p (number s p) ≤ 255)
  here = bounds f s good m p sure.below sure.stands sure.few

  arrives : (v w q : ℕ) → Lands f s m p q → v ≡ length vs → w ≡ depth_after f p (number s p) → At v w q
  arrives v w q l ev ew =
      let n = l.1 in
      record { below = sure.below; stands = l.0; few = omega (arith, here.1); level = ew ∙ sym n; wide = ev ∙ sure.wide; stack = sure.stack }

  pub enough : (c : ℕ) → c ≡ byte f p → takes_as f p c ≤ number s p
  enough c e = subst (λ t. t ≤ number s p) (takes_is f p c e) here.0

  results : (c t l w : ℕ) → c ≡ byte f p → takes_as f p c ≡ t → leaves_as f p c ≡ l → w ≡ (number s p - t) + l → w ≡ depth_after f p (number s p)
  results c t l w e et el h =
      let a : takes f p ≡ t = takes_is f p c e ∙ et in
      let b : leaves f p ≡ l = leaves_is f p c e ∙ el in
      cc

  onward_with : (v c t l : ℕ) → c ≡ byte f p → v ≡ length vs → successors_as f p c ≡ next f p ∷ [] → takes_as f p c ≡ t → leaves_as f p c ≡ l →
      (w : ℕ) → w ≡ (number s p - t) + l → At v w (next f p)
  onward_with v c t l e ev es et el w h =
      arrives v w (next f p) (one_way f s good m p sure.below sure.stands sure.few (next f p) (successors_are f p c e ∙ es)) ev (results c t l w e et el h)

  onward : (c t l : ℕ) → c ≡ byte f p → successors_as f p c ≡ next f p ∷ [] → takes_as f p c ≡ t → leaves_as f p c ≡ l →
      (w : ℕ) → w ≡ (number s p - t) + l → At (length vs) w (next f p)
  onward c t l e es et el w h = onward_with (length vs) c t l e refl es et el w h

  -- a jump by the distance o
  forked : (c t o : ℕ) → c ≡ byte f p → be16 f (p + 1) ≡ o → successors_as f p c ≡ jump_target f p ∷ next f p ∷ [] → takes_as f p c ≡ t → leaves_as f p c ≡ 0 →
      (w : ℕ) → w ≡ (number s p - t) + 0 → (b : Bool) → At (length vs) w (cond b (target p o) (next f p))
  forked c t o e q es et el w h = go
    where
      ways : Lands f s m p (target p o) × Lands f s m p (next f p)
      ways =
          two_ways f s good m p sure.below sure.stands sure.few (target p o) (next f p)
          (successors_are f p c e ∙ es ∙ ap (λ (d : ℕ). target p d ∷ next f p ∷ []) q)

      go : (b : Bool) → At (length vs) w (cond b (target p o) (next f p))
      go true = arrives (length vs) w (target p o) ways.0 refl (results c t 0 w e et el h)
      go false = arrives (length vs) w (next f p) ways.1 refl (results c t 0 w e et el h)

  -- the index of the instruction lies inside its table
  pub indexed : (c i : ℕ) → c ≡ byte f p → byte f (p + 1) ≡ i →
      ((is c (0x15 ∷ 0x36 ∷ 0x84 ∷ []) && leb (parameters f m + locals f m) i) ≡ false) ×
      ((eqb c 0x12 && leb (constants f) i) ≡ false) ×
      ((eqb c 0xB6 && leb (methods f) i) ≡ false) ×
      ((eqb c 0xF2 && leb (messages f) i) ≡ false) ×
      ((eqb c 0xFA && ltb 2 i) ≡ false)
  indexed c i e q =
      none_of_five _ _ _ _ _
      (subst (λ i. ((is c (0x15 ∷ 0x36 ∷ 0x84 ∷ []) && leb (parameters f m + locals f m) i) || (eqb c 0x12 && leb (constants f) i) || (eqb c 0xB6 && leb (methods f) i) || (eqb c 0xF2 && leb (messages f) i) || (eqb c 0xFA && ltb 2 i)) ≡ false) q
      (subst (λ c. ((is c (0x15 ∷ 0x36 ∷ 0x84 ∷ []) && leb (parameters f m + locals f m) (byte f (p + 1))) || (eqb c 0x12 && leb (constants f) (byte f (p + 1))) || (eqb c 0xB6 && leb (methods f) (byte f (p + 1))) || (eqb c 0xF2 && leb (messages f) (byte f (p + 1))) || (eqb c 0xFA && ltb 2 (byte f (p + 1)))) ≡ false)
      (sym e) (good.facts.code.indexed m p sure.below sure.stands)))

  -- a variable's index lies among the frame's variables
  pub varied : (c i : ℕ) → c ≡ byte f p → byte f (p + 1) ≡ i → is c (0x15 ∷ 0x36 ∷ 0x84 ∷ []) ≡ true → ltb i (length vs) ≡ true
  varied c i e q h =
      let n : leb (parameters f m + locals f m) i ≡ false = subst (λ b. (b && leb (parameters f m + locals f m) i) ≡ false) h (indexed c i e q).0 in
      let l = leb-false (parameters f m + locals f m) i n in
      let r = sure.wide in
      lt-ltb i (length vs) (omega arith)

  abbrev Does : Instruction → List ℕ → Type 0
  Does o w = Made f s (execute f x o w)

  -- a return to the frame that waits, with as many values as the method returns; where none waits, the run ends
  returned : (rs : List ℕ) (n : End) → length rs ≡ cond (holds f m 0xAC) 1 0 →
      (ws : List Frame) → Stack f s m x.state.running.return_place ws → Made f s (return_to f x n rs ws)
  returned rs n h [] st = sure
  returned rs n h (c ∷ cs) st =
      let k = st.0 in
      let q : ℕ = k.site in
      let b = (bounds f s good c.method q k.below k.stands k.few).1 in
      let l : Lands f s c.method q (q + 2) =
      one_way f s good c.method q k.below k.stands k.few (q + 2) (successors_are f q 0xB6 k.calls ∙ ap (λ q. q ∷ []) (next_is f q 0xB6 k.calls)) in
      let lt : takes f q ≡ parameters f m = takes_is f q 0xB6 k.calls ∙ ap (parameters f) k.callee in
      let lv : leaves f q ≡ length rs = leaves_is f q 0xB6 k.calls ∙ ap (λ (j : ℕ). cond (holds f j 0xAC) 1 0) k.callee ∙ sym h in
      let n = l.1 in
      let w : length (rs ++ c.operands) ≡ number s (q + 2) = omega (arith, length-append rs c.operands, k.level) in
      subst (λ to. Runs f s c.method c.return_place (length c.variables) (length (rs ++ c.operands)) cs to) (sym k.return_place)
      (record { below = k.below; stands = l.0; few = omega arith; level = w; wide = k.wide; stack = st.1 })

  -- a method with one kind of return
  no_value : (b c : Bool) → cond b c (not c) ≡ false → c ≡ true → b ≡ false
  no_value true c e h = absurd (both_ways c e h)
  no_value false c e h = refl

  held : (c : ℕ) → c ≡ byte f p → holds f m c ≡ true
  held c e = some_any (λ q. eqb (byte f q) c) (places f m) p sure.stands (eq-eqb (byte f p) c (sym e))

  -- a call: the caller waits with the parameters taken, and the method called begins with no operands
  called : (i : ℕ) → 0xB6 ≡ byte f p → byte f (p + 1) ≡ i → (w : List ℕ) → length w ≡ number s p → i < methods f → parameters f i ≤ length w → Made f s (call f x i w)
  called i e q w h below enough =
      let z : number s (code_address f i) ≡ 0 = (good.facts.rule i below).starts in
      record {
        below = below;
        stands = good.facts.opens i below;
        few = omega arith;
        level = sym z;
        wide = simp (length-append, length-reverse, length-take, length-replicate) (omega arith);
        stack = (
          record {
            site = p;
            return_place = next_is f p 0xB6 e;
            below = sure.below;
            stands = sure.stands;
            few = sure.few;
            calls = e;
            callee = q;
            wide = sure.wide;
            level = simp length-drop (omega arith);
          },
          sure.stack,
        );
      }

  invoked : (i : ℕ) → 0xB6 ≡ byte f p → byte f (p + 1) ≡ i → (w : List ℕ) → length w ≡ number s p → Does (Invokevirtual i) w
  invoked i e q w h =
      let below : i < methods f = leb-false (methods f) i (indexed 0xB6 i e q).2 in
      let k : parameters f i ≤ number s p = subst (λ (j : ℕ). parameters f j ≤ number s p) q (enough 0xB6 e) in
      let room : parameters f i ≤ length w = omega arith in
      made_if f s (ltb i (methods f) && leb (parameters f i) (length w)) _
      (and_from (ltb i (methods f)) (leb (parameters f i) (length w)) (lt-ltb i (methods f) below) (le-leb (parameters f i) (length w) room))
      (called i e q w h below room)

  taken : (us w : List ℕ) → length w ≡ number s p → 0xF0 ≡ byte f p → (none_left us && eqb (byte f p) 0xF0) ≡ false → Made f s (take_unit f x w us)
  taken [] w h e n = absurd (both_ways (eqb (byte f p) 0xF0) n (eq-eqb (byte f p) 0xF0 (sym e)))
  taken (u ∷ us) w h e n = onward 0xF0 0 1 e refl refl refl (suc (length w)) (omega arith)

  -- the instruction that stands at the place can be done
  pub does : awaits_input f x ≡ false → (o : Instruction) → Encodes f p o → (w : List ℕ) → length w ≡ number s p → Does o w
  does n Nop c w h = onward 0x00 0 0 c.opcode refl refl refl (length w) (omega arith)
  does n Wide c w h = onward 0xC4 0 0 c.opcode refl refl refl (length w) (omega arith)
  does n (Bipush k) c w h = onward 0x10 0 1 c.opcode refl refl refl (suc (length w)) (omega arith)
  does n (Ldc i) c w h =
      made_if f s (ltb i (constants f)) _ (lt-ltb i (constants f) (leb-false (constants f) i (indexed 0x12 i c.opcode c.arguments).1))
      (onward 0x12 0 1 c.opcode refl refl refl (suc (length w)) (omega arith))
  does n (Iload i) c w h =
      made_if f s (ltb i (length vs)) _ (varied 0x15 i c.opcode c.arguments refl) (onward 0x15 0 1 c.opcode refl refl refl (suc (length w)) (omega arith))
  does n (Istore i) c [] h = let k : 1 ≤ number s p = enough 0x36 c.opcode in absurd (omega arith)
  does n (Istore i) c (v ∷ w) h =
      made_if f s (ltb i (length vs)) _ (varied 0x36 i c.opcode c.arguments refl)
      (onward_with (length (set vs i v)) 0x36 1 0 c.opcode (length-set vs i v) refl refl refl (length w) (omega arith))
  does n Pop c [] h = let k : 1 ≤ number s p = enough 0x57 c.opcode in absurd (omega arith)
  does n Pop c (v ∷ w) h = onward 0x57 1 0 c.opcode refl refl refl (length w) (omega arith)
  does n Dup c [] h = let k : 1 ≤ number s p = enough 0x59 c.opcode in absurd (omega arith)
  does n Dup c (v ∷ w) h = onward 0x59 1 2 c.opcode refl refl refl (suc (suc (length w))) (omega arith)
  does n Swap c [] h = let k : 2 ≤ number s p = enough 0x5F c.opcode in absurd (omega arith)
  does n Swap c (v ∷ []) h = let k : 2 ≤ number s p = enough 0x5F c.opcode in absurd (omega arith)
  does n Swap c (v ∷ u ∷ w) h = onward 0x5F 2 2 c.opcode refl refl refl (suc (suc (length w))) (omega arith)
  does n Iadd c [] h = let k : 2 ≤ number s p = enough 0x60 c.opcode in absurd (omega arith)
  does n Iadd c (v ∷ []) h = let k : 2 ≤ number s p = enough 0x60 c.opcode in absurd (omega arith)
  does n Iadd c (v ∷ u ∷ w) h = onward 0x60 2 1 c.opcode refl refl refl (suc (length w)) (omega arith)
  does n Isub c [] h = let k : 2 ≤ number s p = enough 0x64 c.opcode in absurd (omega arith)
  does n Isub c (v ∷ []) h = let k : 2 ≤ number s p = enough 0x64 c.opcode in absurd (omega arith)
  does n Isub c (v ∷ u ∷ w) h = onward 0x64 2 1 c.opcode refl refl refl (suc (length w)) (omega arith)
  does n Iand c [] h = let k : 2 ≤ number s p = enough 0x7E c.opcode in absurd (omega arith)
  does n Iand c (v ∷ []) h = let k : 2 ≤ number s p = enough 0x7E c.opcode in absurd (omega arith)
  does n Iand c (v ∷ u ∷ w) h = onward 0x7E 2 1 c.opcode refl refl refl (suc (length w)) (omega arith)
  does n Ior c [] h = let k : 2 ≤ number s p = enough 0x80 c.opcode in absurd (omega arith)
  does n Ior c (v ∷ []) h = let k : 2 ≤ number s p = enough 0x80 c.opcode in absurd (omega arith)
  does n Ior c (v ∷ u ∷ w) h = onward 0x80 2 1 c.opcode refl refl refl (suc (length w)) (omega arith)
  does n (Iinc i k) c w h =
      made_if f s (ltb i (length vs)) _ (varied 0x84 i c.opcode c.arguments.0 refl)
      (onward_with _ 0x84 0 0 c.opcode (length-set vs i _) refl refl refl (length w) (omega arith))
  does n (Ifeq o) c [] h = let k : 1 ≤ number s p = enough 0x99 c.opcode in absurd (omega arith)
  does n (Ifeq o) c (v ∷ w) h = forked 0x99 1 o c.opcode c.arguments refl refl refl (length w) (omega arith) (eqb v 0)
  does n (Iflt o) c [] h = let k : 1 ≤ number s p = enough 0x9B c.opcode in absurd (omega arith)
  does n (Iflt o) c (v ∷ w) h = forked 0x9B 1 o c.opcode c.arguments refl refl refl (length w) (omega arith) (negative v)
  does n (IfIcmpeq o) c [] h = let k : 2 ≤ number s p = enough 0x9F c.opcode in absurd (omega arith)
  does n (IfIcmpeq o) c (v ∷ []) h = let k : 2 ≤ number s p = enough 0x9F c.opcode in absurd (omega arith)
  does n (IfIcmpeq o) c (v ∷ u ∷ w) h = forked 0x9F 2 o c.opcode c.arguments refl refl refl (length w) (omega arith) (eqb u v)
  does n (Goto o) c w h =
      arrives (length vs) (length w) (target p o)
      (one_way f s good m p sure.below sure.stands sure.few (target p o) (successors_are f p 0xA7 c.opcode ∙ ap (λ (d : ℕ). target p d ∷ []) c.arguments))
      refl (results 0xA7 0 0 (length w) c.opcode refl refl (omega arith))
  does n Ireturn c [] h = let k : 1 ≤ number s p = enough 0xAC c.opcode in absurd (omega arith)
  does n Ireturn c (v ∷ w) h =
      returned (v ∷ []) (ending.Value v) (sym (ap (λ (b : Bool). cond b 1 0) (held 0xAC c.opcode))) x.state.waiting sure.stack
  does n Return c w h =
      returned [] ending.Plain (sym (ap (λ (b : Bool). cond b 1 0) (no_value (holds f m 0xAC) (holds f m 0xB1) (good.facts.code.returns m sure.below) (held 0xB1 c.opcode)))) x.state.waiting sure.stack
  does n (Invokevirtual i) c w h = invoked i c.opcode c.arguments w h
  does n In c w h = taken x.feed w h c.opcode n
  does n Out c [] h = let k : 1 ≤ number s p = enough 0xF1 c.opcode in absurd (omega arith)
  does n Out c (v ∷ w) h = onward 0xF1 1 0 c.opcode refl refl refl (length w) (omega arith)
  does n (Err i) c w h = made_if f s (ltb i (messages f)) _ (lt-ltb i (messages f) (leb-false (messages f) i (indexed 0xF2 i c.opcode c.arguments).3)) sure
  -- it goes on with the operands of the frame itself
  does n (Setout i) c w h =
      let q = ltb-false 2 i (indexed 0xFA i c.opcode c.arguments).4 in
      let l = sure.level in
      made_if f s (ltb i 3) _ (lt-ltb i 3 (omega arith)) (onward 0xFA 0 0 c.opcode refl refl refl (length x.state.running.operands) (omega arith))
  does n Halt c w h = sure

  -- which instruction stands at the place, and that it can be done
  pub can : awaits_input f x ≡ false → (o : Instruction) × (decode (drop p f) ≡ Some o) × Does o x.state.running.operands
  can n =
      let r = reads f s good m p sure.below sure.stands sure.few in
      (r.0, r.1, does n r.0 (encodes_at f p r.0 r.1) x.state.running.operands sure.level)
