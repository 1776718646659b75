-- What an instruction writes: nothing, or the text of OUT after what was written before. Assumes nothing.
use Rattle.std.proofs.Common.{◌≡◌, ℕ, zero, suc, ◌+◌, Bool, true, false, cond, ◌&&◌, eqb, ltb, leb, List, [], ◌∷◌, ◌++◌, length, get_or, drop, Some, None, Option, unwrap_or, sym, refl, ap, ◌∙◌, subst, append_assoc, append-nil}
use Rattle.format.specs.Layout.{byte, be16, constants, constant_address, methods, messages, parameters}
use Rattle.bytecode.specs.declared.instruction.Instruction.{Instruction}
use Rattle.bytecode.specs.declared.instruction.Instruction.TheVariants.{Nop, Wide, Bipush, Ldc, Iload, Istore, Pop, Dup, Swap, Iadd, Isub, Iand, Ior, Iinc, Ifeq, Iflt, IfIcmpeq, Goto, Ireturn, Return, Invokevirtual, In, Out, Err, Setout, Halt}
use Rattle.bytecode.specs.Opcodes.{decode}
use Rattle.bytecode.specs.Places.{is_place}
use Rattle.machine.specs.declared.stop.End.{End}
use Rattle.machine.specs.declared.stop.End.TheVariants as ending
use Rattle.output.specs.Text.{text}
use Rattle.machine.specs.Machine.{Frame, Fed, wrap, proceed, store, set_mode, end, return_to, call, take_unit, execute, execute_if, idle, within_peak, executed, step, after}
use Rattle.machine.specs.Go.{next_text}
use Rattle.machine.proofs.Wide.{out_opcode}

-- the units written, where an instruction was done, have this property
abbrev Every : (List ℕ → Type 0) → Option Fed → Type 0
Every P None = Unit {0}
Every P (Some y) = P y.wrote

under : (P : List ℕ → Type 0) (b : Bool) (y : Option Fed) → Every P y → Every P (cond b y None)
under P true y k = k
under P false y k = tt

returned : (f : List ℕ) (x : Fed) (P : List ℕ → Type 0) → P x.wrote → (e : End) (vs : List ℕ) (q : List Frame) → Every P (return_to f x e vs q)
returned f x P k e vs [] = k
returned f x P k e vs (c ∷ cs) = k

took : (f : List ℕ) (x : Fed) (P : List ℕ → Type 0) → P x.wrote → (w fd : List ℕ) → Every P (take_unit f x w fd)
took f x P k w [] = tt
took f x P k w (u ∷ fd) = k

execute_writes : (f : List ℕ) (x : Fed) (P : List ℕ → Type 0) → P x.wrote → (o : Instruction) (w : List ℕ) →
    (o ≡ Out → P (x.wrote ++ text x.state.mode (get_or w 0 0))) → Every P (execute f x o w)
execute_writes f x P k0 Nop w h = k0
execute_writes f x P k0 Wide w h = k0
execute_writes f x P k0 (Bipush k) w h = k0
execute_writes f x P k0 (Ldc i) w h = under P (ltb i (constants f)) (proceed f x (be16 f (constant_address f i) ∷ w)) k0
execute_writes f x P k0 (Iload i) w h = under P (ltb i (length x.state.running.variables)) (proceed f x (get_or x.state.running.variables i 0 ∷ w)) k0
execute_writes f x P k0 (Istore i) [] h = tt
execute_writes f x P k0 (Istore i) (v ∷ w) h = under P (ltb i (length x.state.running.variables)) (store f x i v w) k0
execute_writes f x P k0 Pop [] h = tt
execute_writes f x P k0 Pop (v ∷ w) h = k0
execute_writes f x P k0 Dup [] h = tt
execute_writes f x P k0 Dup (v ∷ w) h = k0
execute_writes f x P k0 Swap [] h = tt
execute_writes f x P k0 Swap (v ∷ []) h = tt
execute_writes f x P k0 Swap (v ∷ u ∷ w) h = k0
execute_writes f x P k0 Iadd [] h = tt
execute_writes f x P k0 Iadd (v ∷ []) h = tt
execute_writes f x P k0 Iadd (v ∷ u ∷ w) h = k0
execute_writes f x P k0 Isub [] h = tt
execute_writes f x P k0 Isub (v ∷ []) h = tt
execute_writes f x P k0 Isub (v ∷ u ∷ w) h = k0
execute_writes f x P k0 Iand [] h = tt
execute_writes f x P k0 Iand (v ∷ []) h = tt
execute_writes f x P k0 Iand (v ∷ u ∷ w) h = k0
execute_writes f x P k0 Ior [] h = tt
execute_writes f x P k0 Ior (v ∷ []) h = tt
execute_writes f x P k0 Ior (v ∷ u ∷ w) h = k0
execute_writes f x P k0 (Iinc i k) w h = under P (ltb i (length x.state.running.variables)) (store f x i (wrap (get_or x.state.running.variables i 0 + k)) w) k0
execute_writes f x P k0 (Ifeq d) [] h = tt
execute_writes f x P k0 (Ifeq d) (v ∷ w) h = k0
execute_writes f x P k0 (Iflt d) [] h = tt
execute_writes f x P k0 (Iflt d) (v ∷ w) h = k0
execute_writes f x P k0 (IfIcmpeq d) [] h = tt
execute_writes f x P k0 (IfIcmpeq d) (v ∷ []) h = tt
execute_writes f x P k0 (IfIcmpeq d) (v ∷ u ∷ w) h = k0
execute_writes f x P k0 (Goto d) w h = k0
execute_writes f x P k0 Ireturn [] h = tt
execute_writes f x P k0 Ireturn (v ∷ w) h = returned f x P k0 (ending.Value v) (v ∷ []) x.state.waiting
execute_writes f x P k0 Return w h = returned f x P k0 ending.Plain [] x.state.waiting
execute_writes f x P k0 (Invokevirtual i) w h = under P (ltb i (methods f) && leb (parameters f i) (length w)) (call f x i w) k0
execute_writes f x P k0 In w h = took f x P k0 w x.feed
execute_writes f x P k0 Out [] h = tt
execute_writes f x P k0 Out (v ∷ w) h = h refl
execute_writes f x P k0 (Err i) w h = under P (ltb i (messages f)) (end f x (ending.Error i)) k0
execute_writes f x P k0 (Setout i) w h = under P (ltb i 3) (set_mode f x i) k0
execute_writes f x P k0 Halt w h = k0

peak_writes : (s : List ℕ) (P : List ℕ → Type 0) (y : Option Fed) → Every P y → Every P (within_peak s y)
peak_writes s P None k = tt
peak_writes s P (Some y) k = under P _ (Some y) k

read_writes : (f s : List ℕ) (x : Fed) (P : List ℕ → Type 0) → P x.wrote → (o : Option Instruction) →
    (o ≡ Some Out → P (x.wrote ++ text x.state.mode (get_or x.state.running.operands 0 0))) → Every P (execute_if f s x o)
read_writes f s x P k None h = tt
read_writes f s x P k (Some o) h =
    peak_writes s P (execute f x o x.state.running.operands) (execute_writes f x P k o x.state.running.operands (λ e. h (ap {B = Option Instruction} Some e)))

executed_writes : (f s : List ℕ) (x : Fed) (P : List ℕ → Type 0) → P x.wrote → P (x.wrote ++ next_text f x.state) → Every P (executed f s x)
executed_writes f s x P k l = go (is_place f x.state.running.method x.state.place)
  where
    t : List ℕ
    t = text x.state.mode (get_or x.state.running.operands 0 0)

    is_text : eqb (byte f x.state.place) 0xF1 ≡ true → next_text f x.state ≡ t
    is_text e = ap (λ (b : Bool). cond b t []) e

    go : (b : Bool) → Every P (cond b (execute_if f s x (decode (drop x.state.place f))) None)
    go false = tt
    go true = read_writes f s x P k (decode (drop x.state.place f))
        (λ e. subst (λ (u : List ℕ). P (x.wrote ++ u)) (is_text (out_opcode f x.state.place e)) l)

pub step_writes : (f s : List ℕ) (x : Fed) (P : List ℕ → Type 0) → P x.wrote → P (x.wrote ++ next_text f x.state) → P (step f s x).wrote
step_writes f s x P k l = go (idle f x)
  where
    some : (o : Option Fed) → Every P o → P (unwrap_or o x).wrote
    some None e = k
    some (Some y) e = e

    go : (b : Bool) → P (cond b x (unwrap_or (executed f s x) x)).wrote
    go true = k
    go false = some (executed f s x) (executed_writes f s x P k l)

-- what was written stays in front
pub after_grows : (f s : List ℕ) (n : ℕ) (x : Fed) → (v : List ℕ) × ((after f s n x).wrote ≡ x.wrote ++ v)
after_grows f s zero x = ([], sym (append-nil x.wrote))
after_grows f s (suc n) x =
    let a = step_writes f s x (λ t. (v : List ℕ) × (t ≡ x.wrote ++ v)) ([], sym (append-nil x.wrote)) (next_text f x.state, refl) in
    let b = after_grows f s n (step f s x) in
    (a.0 ++ b.0, b.1 ∙ ap (λ (t : List ℕ). t ++ b.0) a.1 ∙ append_assoc x.wrote a.0 b.0)
