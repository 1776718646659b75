-- What is known of each place that a walk over a method gives. Assumes nothing.
use Rattle.std.proofs.Common.{◌≡◌, ℕ, zero, suc, ◌+◌, ◌<◌, ◌≤◌, List, [], ◌∷◌, length, get_or, fold, refl, sym, ap, ◌∙◌, subst, arith}
use mathlib.Core.List.Memᴰ
use Rattle.std.specs.Iterator.{YieldsFirst, CallableAtEachTurn}
use Rattle.std.proofs.lemmas.Iterator.{YieldsList}
use Rattle.std.proofs.lemmas.Iterator.Consumers.{YieldsList-from_first}
use Rattle.std.proofs.lemmas.Iterator.Adapters.{serves_from_places}
use Rattle.format.specs.Layout.{methods}
use Rattle.format.specs.Parts.{Accepted}
use Rattle.format.proofs.Finds.{In}
use Rattle.bytecode.specs.declared.walk.Places.{Places}
use Rattle.bytecode.specs.Places.{places, code_end}
use Rattle.bytecode.specs.Walk.{left}
use Rattle.bytecode.proofs.Walks.{decoded_inside}
use Rattle.bytecode.proofs.Accepted.{code_room, file_short}

at_in : (xs : List ℕ) (k x : ℕ) → k < length xs → x ≡ get_or xs k x → In x xs
at_in [] k x l e = absurd (omega arith)
at_in (y ∷ ys) zero x l e = Memᴰ.head e
at_in (y ∷ ys) (suc k) x l e = Memᴰ.tail (at_in ys k x (omega arith) e)

-- a walk gives the places that are left
pub gives : (w : Places) {xs : List ℕ} → left w ≡ xs → YieldsList (YieldsFirst left) (λ x. x) w xs
gives w e = YieldsList-from_first (λ x. x) left _ e

-- a closure that changes nothing may be called at each place, where it may be called at any place of the list
pub at_each_place : {F : Type 0} {R : F → ℕ → F → Type 0} {Q : F → ℕ → Type 0} {f : F} (w : Places) {xs : List ℕ} → left w ≡ xs →
    ((x : ℕ) (q : F) → R f x q → q ≡ f) → ((x : ℕ) → In x xs → Q f x) → CallableAtEachTurn (YieldsFirst left) R Q w f
at_each_place w e same h = serves_from_places (gives w e) same (λ x k l v. h x (at_in _ k x l v))

-- a place of a method lies in its code, and four bytes of the file stand there
pub place_fits : (f : List ℕ) (k p : ℕ) → Accepted f → k < methods f → In p (places f k) → (p < code_end f k) × (p + 4 ≤ length f) × (p < 65536)
place_fits f k p a l m =
    let i = decoded_inside f (code_end f k) _ _ p m in
    let r = code_room f k a l in
    let s = file_short f a in
    omega arith

-- at a turn of a loop: the place that is given is one of those that were left, and so are those that are left then
pub given : {xs ys : List ℕ} {p : ℕ} → xs ≡ p ∷ ys → In p xs
given e = subst (In _) (sym e) (Memᴰ.head refl)

pub still : {xs ys : List ℕ} {p : ℕ} → xs ≡ p ∷ ys → (q : ℕ) → In q ys → In q xs
still e q m = subst (In q) (sym e) (Memᴰ.tail m)

-- a fold over the places that are left, as a loop goes
pub folded : {B : Type 0} (g : B → ℕ → B) {xs ys : List ℕ} {p : ℕ} {b c r : B} → xs ≡ p ∷ ys → fold g b xs ≡ r → c ≡ g b p → fold g c ys ≡ r
folded g {ys = ys} e h s = ap (λ z. fold g z ys) s ∙ ap (fold g _) (sym e) ∙ h
