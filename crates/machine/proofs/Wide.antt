-- More units at the end of the feed and units in front of what was written: no instruction but an IN that waits for a unit sees them.
-- Assumes nothing.
use Rattle.std.proofs.Common.{◌≡◌, ℕ, zero, suc, ◌+◌, ◌<◌, Bool, true, false, cond, ◌&&◌, ◌||◌, eqb, ltb, leb, List, [], ◌∷◌, ◌++◌, length, get_or, drop, is_some, Some, None, Option, unwrap_or, sym, refl, ap, ◌∙◌, append_assoc, suc-le-suc, zero-le, suc-add, zero-add}
use Rattle.std.specs.Option.{option_map}
use Rattle.std.proofs.lemmas.Bool.{eq-eqb, both_ways}
use Rattle.format.specs.Layout.{byte, be16, constants, constant_address, methods, messages, parameters}
use Rattle.bytecode.specs.declared.instruction.Instruction.{Instruction}
use Rattle.bytecode.specs.declared.instruction.Instruction.TheVariants.{Nop, Wide, Bipush, Ldc, Iload, Istore, Pop, Dup, Swap, Iadd, Isub, Iand, Ior, Iinc, Ifeq, Iflt, IfIcmpeq, Goto, Ireturn, Return, Invokevirtual, In, Out, Err, Setout, Halt}
use Rattle.bytecode.specs.Opcodes.{decode}
use Rattle.bytecode.specs.Places.{is_place, next}
use Rattle.bytecode.proofs.Decoding.{encodes_at}
use Rattle.machine.specs.declared.stop.End.{End}
use Rattle.machine.specs.declared.stop.End.TheVariants as ending
use Rattle.output.specs.Text.{text}
use Rattle.machine.specs.Machine.{Frame, Fed, fed, with_operands, continue_at, wrap, proceed, store, set_mode, end, return_to, call, take_unit, execute, execute_if, awaits_input, idle, within_peak, executed, step, after}

abbrev pub wide : List ℕ → List ℕ → Fed → Fed
wide ws us x = fed x.state (x.feed ++ us) (ws ++ x.wrote)

-- a test under which both sides go on
either : (W : Fed → Fed) (b : Bool) (y : Option Fed) → cond b (option_map W y) None ≡ option_map W (cond b y None)
either W true y = refl
either W false y = refl

-- a return, to main's end or to the frame that waits
returned : (f ws us : List ℕ) (x : Fed) (e : End) (vs : List ℕ) (q : List Frame) →
    return_to f (wide ws us x) e vs q ≡ option_map (wide ws us) (return_to f x e vs q)
returned f ws us x e vs [] = refl
returned f ws us x e vs (c ∷ cs) = refl

took : (f ws us : List ℕ) (x : Fed) (w fd : List ℕ) → (fd ≡ [] → ⊥) →
    take_unit f (wide ws us x) w (fd ++ us) ≡ option_map (wide ws us) (take_unit f x w fd)
took f ws us x w [] h = absurd (h refl)
took f ws us x w (u ∷ fd) h = refl

pub execute_wide : (f ws us : List ℕ) (x : Fed) (o : Instruction) (w : List ℕ) → (o ≡ In → x.feed ≡ [] → ⊥) →
    execute f (wide ws us x) o w ≡ option_map (wide ws us) (execute f x o w)
execute_wide f ws us x Nop w h = refl
execute_wide f ws us x Wide w h = refl
execute_wide f ws us x (Bipush k) w h = refl
execute_wide f ws us x (Ldc i) w h = either (wide ws us) (ltb i (constants f)) (proceed f x (be16 f (constant_address f i) ∷ w))
execute_wide f ws us x (Iload i) w h = either (wide ws us) (ltb i (length x.state.running.variables)) (proceed f x (get_or x.state.running.variables i 0 ∷ w))
execute_wide f ws us x (Istore i) [] h = refl
execute_wide f ws us x (Istore i) (v ∷ w) h = either (wide ws us) (ltb i (length x.state.running.variables)) (store f x i v w)
execute_wide f ws us x Pop [] h = refl
execute_wide f ws us x Pop (v ∷ w) h = refl
execute_wide f ws us x Dup [] h = refl
execute_wide f ws us x Dup (v ∷ w) h = refl
execute_wide f ws us x Swap [] h = refl
execute_wide f ws us x Swap (v ∷ []) h = refl
execute_wide f ws us x Swap (v ∷ u ∷ w) h = refl
execute_wide f ws us x Iadd [] h = refl
execute_wide f ws us x Iadd (v ∷ []) h = refl
execute_wide f ws us x Iadd (v ∷ u ∷ w) h = refl
execute_wide f ws us x Isub [] h = refl
execute_wide f ws us x Isub (v ∷ []) h = refl
execute_wide f ws us x Isub (v ∷ u ∷ w) h = refl
execute_wide f ws us x Iand [] h = refl
execute_wide f ws us x Iand (v ∷ []) h = refl
execute_wide f ws us x Iand (v ∷ u ∷ w) h = refl
execute_wide f ws us x Ior [] h = refl
execute_wide f ws us x Ior (v ∷ []) h = refl
execute_wide f ws us x Ior (v ∷ u ∷ w) h = refl
execute_wide f ws us x (Iinc i k) w h = either (wide ws us) (ltb i (length x.state.running.variables)) (store f x i (wrap (get_or x.state.running.variables i 0 + k)) w)
execute_wide f ws us x (Ifeq d) [] h = refl
execute_wide f ws us x (Ifeq d) (v ∷ w) h = refl
execute_wide f ws us x (Iflt d) [] h = refl
execute_wide f ws us x (Iflt d) (v ∷ w) h = refl
execute_wide f ws us x (IfIcmpeq d) [] h = refl
execute_wide f ws us x (IfIcmpeq d) (v ∷ []) h = refl
execute_wide f ws us x (IfIcmpeq d) (v ∷ u ∷ w) h = refl
execute_wide f ws us x (Goto d) w h = refl
execute_wide f ws us x Ireturn [] h = refl
execute_wide f ws us x Ireturn (v ∷ w) h = returned f ws us x (ending.Value v) (v ∷ []) x.state.waiting
execute_wide f ws us x Return w h = returned f ws us x ending.Plain [] x.state.waiting
execute_wide f ws us x (Invokevirtual i) w h = either (wide ws us) (ltb i (methods f) && leb (parameters f i) (length w)) (call f x i w)
execute_wide f ws us x In w h = took f ws us x w x.feed (h refl)
execute_wide f ws us x Out [] h = refl
execute_wide f ws us x Out (v ∷ w) h = ap (λ (t : List ℕ). Some (fed (continue_at x.state (with_operands x.state.running w) (next f x.state.place)) (x.feed ++ us) t)) (append_assoc ws x.wrote (text x.state.mode v))
execute_wide f ws us x (Err i) w h = either (wide ws us) (ltb i (messages f)) (end f x (ending.Error i))
execute_wide f ws us x (Setout i) w h = either (wide ws us) (ltb i 3) (set_mode f x i)
execute_wide f ws us x Halt w h = refl

-- the opcodes of IN and OUT
pub in_opcode : (f : List ℕ) (p : ℕ) → decode (drop p f) ≡ Some In → eqb (byte f p) 0xF0 ≡ true
in_opcode f p e = eq-eqb (byte f p) 0xF0 (sym (encodes_at f p In e).opcode)

pub out_opcode : (f : List ℕ) (p : ℕ) → decode (drop p f) ≡ Some Out → eqb (byte f p) 0xF1 ≡ true
out_opcode f p e = eq-eqb (byte f p) 0xF1 (sym (encodes_at f p Out e).opcode)

peak_wide : (s ws us : List ℕ) (y : Option Fed) → within_peak s (option_map (wide ws us) y) ≡ option_map (wide ws us) (within_peak s y)
peak_wide s ws us None = refl
peak_wide s ws us (Some y) = either (wide ws us) _ (Some y)

read_wide : (f s ws us : List ℕ) (x : Fed) (o : Option Instruction) → (o ≡ Some In → x.feed ≡ [] → ⊥) →
    execute_if f s (wide ws us x) o ≡ option_map (wide ws us) (execute_if f s x o)
read_wide f s ws us x None h = refl
read_wide f s ws us x (Some o) h =
    ap (within_peak s) (execute_wide f ws us x o x.state.running.operands (λ e. h (ap {B = Option Instruction} Some e))) ∙
    peak_wide s ws us (execute f x o x.state.running.operands)

awaits_input_at : (f : List ℕ) (x : Fed) → x.feed ≡ [] → awaits_input f x ≡ eqb (byte f x.state.place) 0xF0
awaits_input_at f x e = ap (λ (fd : List ℕ). awaits_input f (fed x.state fd x.wrote)) e

pub awaits_input_wide : (f ws us : List ℕ) (x : Fed) → awaits_input f x ≡ false → awaits_input f (wide ws us x) ≡ false
awaits_input_wide f ws us x h = go x.feed us h
  where
    go : (fd us : List ℕ) → awaits_input f (fed x.state fd x.wrote) ≡ false → awaits_input f (fed x.state (fd ++ us) (ws ++ x.wrote)) ≡ false
    go [] [] h = h
    go [] (v ∷ vs) h = refl
    go (u ∷ fd) us h = refl

pub executed_wide : (f s ws us : List ℕ) (x : Fed) → awaits_input f x ≡ false → executed f s (wide ws us x) ≡ option_map (wide ws us) (executed f s x)
executed_wide f s ws us x h = go (is_place f x.state.running.method x.state.place)
  where
    fine : decode (drop x.state.place f) ≡ Some In → x.feed ≡ [] → ⊥
    fine e n = both_ways (awaits_input f x) h (awaits_input_at f x n ∙ in_opcode f x.state.place e)

    go : (b : Bool) →
        cond b (execute_if f s (wide ws us x) (decode (drop x.state.place f))) None ≡
        option_map (wide ws us) (cond b (execute_if f s x (decode (drop x.state.place f))) None)
    go false = refl
    go true = read_wide f s ws us x (decode (drop x.state.place f)) fine

onward_wide : (ws us : List ℕ) (x : Fed) (o : Option Fed) → unwrap_or (option_map (wide ws us) o) (wide ws us x) ≡ wide ws us (unwrap_or o x)
onward_wide ws us x None = refl
onward_wide ws us x (Some y) = refl

pub step_wide : (f s ws us : List ℕ) (x : Fed) → awaits_input f x ≡ false → step f s (wide ws us x) ≡ wide ws us (step f s x)
step_wide f s ws us x h = go (idle f (wide ws us x)) (idle f x) (ap (λ (b : Bool). is_some x.state.ended || b) (awaits_input_wide f ws us x h ∙ sym h))
  where
    go : (b c : Bool) → b ≡ c →
        cond b (wide ws us x) (unwrap_or (executed f s (wide ws us x)) (wide ws us x)) ≡ wide ws us (cond c x (unwrap_or (executed f s x) x))
    go true true e = refl
    go true false e = cc
    go false true e = cc
    go false false e = ap (λ (o : Option Fed). unwrap_or o (wide ws us x)) (executed_wide f s ws us x h) ∙ onward_wide ws us x (executed f s x)

pub after_add : (f s : List ℕ) (m n : ℕ) (x : Fed) → after f s (m + n) x ≡ after f s n (after f s m x)
after_add f s zero n x = rw zero-add
after_add f s (suc m) n x = ap (λ (k : ℕ). after f s k x) (suc-add m n) ∙ after_add f s m n (step f s x)

pub after_wide : (f s ws us : List ℕ) (n : ℕ) (x : Fed) → ((j : ℕ) → j < n → awaits_input f (after f s j x) ≡ false) →
    after f s n (wide ws us x) ≡ wide ws us (after f s n x)
after_wide f s ws us zero x h = refl
after_wide f s ws us (suc n) x h =
    ap (after f s n) (step_wide f s ws us x (h zero (suc-le-suc zero-le))) ∙
    after_wide f s ws us n (step f s x) (λ j l. h (suc j) (suc-le-suc l))

pub after_last : (f s : List ℕ) (n : ℕ) (x : Fed) → after f s (suc n) x ≡ step f s (after f s n x)
after_last f s zero x = refl
after_last f s (suc n) x = after_last f s n (step f s x)
