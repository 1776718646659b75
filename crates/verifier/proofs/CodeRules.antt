-- What a code that breaks no rule gives at each place. Assumes nothing.
use Rattle.std.proofs.Common.{◌≡◌, ℕ, ◌<◌, Bool, true, false, not, ltb, ◌⊎◌, List, None, inl, inr}
use Rattle.std.specs.Option.{option_map}
use Rattle.std.proofs.lemmas.Bool.{not-false, and_cases, both_ways}
use Rattle.refusals.specs.declared.Rule.{Rule}
use Rattle.refusals.specs.declared.Rule.TheVariants.{BadInstruction, BadIndex, BadTarget, MixedReturns}
use Rattle.format.specs.Search.{first, upto}
use Rattle.format.specs.Layout.{byte, methods, code_address}
use Rattle.format.specs.Rules.{refused}
use Rattle.format.proofs.Finds.{In, else_none, mapped_none, first_none, none_below}
use Rattle.bytecode.specs.Places.{Point, points, places, code_end, whole, next, is_jump, is_place, jump_target}
use Rattle.bytecode.specs.Rules.{bad_instruction, bad_index, bad_target, mixed_returns, code_refusal}
use Rattle.verifier.proofs.Places.{point, in_points, next_place}

pub record CodeKept (f : List ℕ) : Type 0 where
  pub known : (k p : ℕ) → k < methods f → In p (places f k) → whole f (code_end f k) p ≡ true
  pub indexed : (k p : ℕ) → k < methods f → In p (places f k) → bad_index f (point k p) ≡ false
  pub target : (k p : ℕ) → k < methods f → In p (places f k) → is_jump (byte f p) ≡ true → is_place f k (jump_target f p) ≡ true
  pub next_in : (k p : ℕ) → k < methods f → In p (places f k) → is_place f k (next f p) ≡ ltb (next f p) (code_end f k)
  pub returns : (k : ℕ) → k < methods f → mixed_returns f k ≡ false

pub code_kept : (f : List ℕ) → code_refusal f ≡ None → CodeKept f
code_kept f e =
    let a = else_none (refused BadInstruction (option_map (λ (x : Point). x.place) (first (bad_instruction f) (points f)))) _ e in
    let b = else_none (refused BadIndex (option_map (λ (x : Point). x.place) (first (bad_index f) (points f)))) _ a.1 in
    let c = else_none (refused BadTarget (option_map (λ (x : Point). x.place) (first (bad_target f) (points f)))) _ b.1 in
    let known : (k p : ℕ) → k < methods f → In p (places f k) → whole f (code_end f k) p ≡ true = λ k p l m. not-false (whole f (code_end f k) p) (at BadInstruction (bad_instruction f) a.0 k p l m) in
    record {
      known = known;
      indexed = at BadIndex (bad_index f) b.0;
      target = λ k p l m j. there k p j (and_cases (is_jump (byte f p)) (not (is_place f k (jump_target f p))) (at BadTarget (bad_target f) c.0 k p l m));
      next_in = λ k p l m. next_place f k p m (known k p l m);
      returns = none_below (mixed_returns f) (methods f) (mapped_none (code_address f) (first (mixed_returns f) (upto (methods f))) (mapped_none (λ p. record { rule = MixedReturns; place = p }) (option_map (code_address f) (first (mixed_returns f) (upto (methods f)))) c.1));
    }
  where
    at : (r : Rule) (t : Point → Bool) → refused r (option_map (λ (x : Point). x.place) (first t (points f))) ≡ None → (k p : ℕ) → k < methods f → In p (places f k) → t (point k p) ≡ false
    at r t e k p l m = first_none t (points f) (mapped_none (λ (x : Point). x.place) (first t (points f)) (mapped_none (λ p. record { rule = r; place = p }) (option_map (λ (x : Point). x.place) (first t (points f))) e)) (point k p) (in_points f k p l m)

    there : (k p : ℕ) → is_jump (byte f p) ≡ true → (is_jump (byte f p) ≡ false) ⊎ (not (is_place f k (jump_target f p)) ≡ false) → is_place f k (jump_target f p) ≡ true
    there k p j (inl n) = absurd (both_ways (is_jump (byte f p)) n j)
    there k p j (inr y) = not-false (is_place f k (jump_target f p)) y
