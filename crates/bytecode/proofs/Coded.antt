-- What each rule of the code gives of a file that keeps them all. Assumes nothing.
use Rattle.std.proofs.Common.{◌≡◌, ℕ, ◌+◌, ◌<◌, ◌≤◌, Bool, true, false, eqb, List, length, None, arith}
use Rattle.std.specs.Option.{option_map}
use Rattle.std.proofs.lemmas.Bool.{eqb-true}
use Rattle.std.proofs.lemmas.Bool.Decides.{nat_tests}
use Rattle.refusals.specs.declared.Rule.{Rule}
use Rattle.refusals.specs.declared.Rule.TheVariants.{BadInstruction, BadIndex, BadTarget, MixedReturns}
use Rattle.format.specs.Layout.{byte, methods, code_address}
use Rattle.format.specs.Search.{first, upto}
use Rattle.format.specs.Rules.{refused}
use Rattle.format.specs.Parts.{Accepted}
use Rattle.format.proofs.Finds.{In, first_none, any_some, else_none, mapped_none, none_below}
use Rattle.bytecode.specs.Places.{Point, points, places, code_end, is_place}
use Rattle.bytecode.specs.Rules.{bad_instruction, bad_index, bad_target, mixed_returns, code_refusal}
use Rattle.bytecode.proofs.Walks.{decoded_inside}
use Rattle.bytecode.proofs.Accepted.{code_room}

-- each rule by itself: what it asks of the whole file
pub record Coded (f : List ℕ) : Type 0 where
  pub whole : (x : Point) → In x (points f) → bad_instruction f x ≡ false
  pub index : (x : Point) → In x (points f) → bad_index f x ≡ false
  pub target : (x : Point) → In x (points f) → bad_target f x ≡ false
  pub returns : (k : ℕ) → k < methods f → mixed_returns f k ≡ false

each : (r : Rule) (t : Point → Bool) (xs : List Point) → refused r (option_map (λ (x : Point). x.place) (first t xs)) ≡ None → (x : Point) → In x xs → t x ≡ false
each r t xs e =
    first_none t xs
    (mapped_none (λ (x : Point). x.place) (first t xs) (mapped_none (λ p. record { rule = r; place = p }) (option_map (λ (x : Point). x.place) (first t xs)) e))

pub coded : (f : List ℕ) → code_refusal f ≡ None → Coded f
coded f h =
    let a = else_none (refused BadInstruction (option_map (λ (x : Point). x.place) (first (bad_instruction f) (points f)))) _ h in
    let b = else_none (refused BadIndex (option_map (λ (x : Point). x.place) (first (bad_index f) (points f)))) _ a.1 in
    let c = else_none (refused BadTarget (option_map (λ (x : Point). x.place) (first (bad_target f) (points f)))) _ b.1 in
    record {
      whole = each BadInstruction (bad_instruction f) (points f) a.0;
      index = each BadIndex (bad_index f) (points f) b.0;
      target = each BadTarget (bad_target f) (points f) c.0;
      returns =
          none_below (mixed_returns f) (methods f)
          (mapped_none (code_address f) (first (mixed_returns f) (upto (methods f))) (mapped_none (λ p. record { rule = MixedReturns; place = p }) (option_map (code_address f) (first (mixed_returns f) (upto (methods f)))) c.1));
    }

-- a call whose index is inside its table calls a method that there is
pub calls_method : (f : List ℕ) (x : Point) → bad_index f x ≡ false → byte f x.place ≡ 0xB6 → byte f (x.place + 1) < methods f
calls_method f x h e = grind (arith, nat_tests)

-- a place lies in its method's code
pub place_inside : (f : List ℕ) (k p : ℕ) → is_place f k p ≡ true → (code_address f k ≤ p) × (p < code_end f k)
place_inside f k p h =
    let s = any_some (eqb p) (places f k) h in
    let e = eqb-true p s.0 s.2 in
    let i = decoded_inside f (code_end f k) (code_address f k) _ s.0 s.1 in
    omega arith

-- and four bytes of the file stand there
pub place_room : (f : List ℕ) (k p : ℕ) → Accepted f → k < methods f → is_place f k p ≡ true → p + 4 ≤ length f
place_room f k p a l h = let r = code_room f k a l in let i = place_inside f k p h in omega arith
