-- Fewer units and fewer instructions: what is written begins what is written with more. Assumes nothing.
use Rattle.std.proofs.Common.{◌≡◌, ℕ, zero, suc, ◌≤◌, Bool, true, false, cond, List, [], ◌++◌, is_some, unwrap_or, sym, refl, ap, ◌∙◌, arith}
use Rattle.std.proofs.lemmas.Bool.{or_right}
use Rattle.machine.specs.Machine.{Fed, fed, main, awaits_input, idle, executed, step, after, machine_after}
use Rattle.machine.specs.Rows.{row, row_units, new, FirstUnits}
use Rattle.machine.proofs.Wide.{wide, step_wide}
use Rattle.machine.proofs.Writes.{after_grows}
use Rattle.machine.proofs.SameMachine.{same_fed}
use Rattle.machine.proofs.Row.{wrote_is}

step_idle : (f s : List ℕ) (x : Fed) → idle f x ≡ true → step f s x ≡ x
step_idle f s x e = go (idle f x) e
  where
    go : (b : Bool) → b ≡ true → ◌≡◌ {A = Fed} (cond b x (unwrap_or (executed f s x) x)) x
    go true e = refl
    go false e = cc

pub after_idle : (f s : List ℕ) (n : ℕ) (x : Fed) → idle f x ≡ true → after f s n x ≡ x
after_idle f s zero x e = refl
after_idle f s (suc n) x e = ap (after f s n) (step_idle f s x e) ∙ after_idle f s n x e

pub begins_more : (f s us : List ℕ) (n m : ℕ) (x : Fed) → n ≤ m → (v : List ℕ) × ((after f s m (wide [] us x)).wrote ≡ (after f s n x).wrote ++ v)
begins_more f s us zero m x l = after_grows f s m (wide [] us x)
begins_more f s us (suc n) zero x l = absurd (omega arith)
begins_more f s us (suc n) (suc m) x l = go (awaits_input f x) refl (begins_more f s us n m (step f s x) (omega arith))
  where
    go : (b : Bool) → awaits_input f x ≡ b → (v : List ℕ) × ((after f s m (wide [] us (step f s x))).wrote ≡ (after f s n (step f s x)).wrote ++ v) →
        (v : List ℕ) × ((after f s (suc m) (wide [] us x)).wrote ≡ (after f s (suc n) x).wrote ++ v)
    go true e ih =
        let g = after_grows f s (suc m) (wide [] us x) in
        (g.0, g.1 ∙ ap (λ (y : Fed). y.wrote ++ g.0) (sym (after_idle f s (suc n) x (or_right (is_some x.state.ended) (awaits_input f x) e))))
    go false e ih = (ih.0, ap (λ (y : Fed). (after f s m y).wrote) (step_wide f s [] us x e) ∙ ih.1)

pub FirstUnits-holds : FirstUnits
FirstUnits-holds f s s' a a' cells cells' h h' es es' l us u =
    let r = row f s (new f s cells h) es in
    let r' = row f s' (new f s' cells' h') es' in
    let b = begins_more f s us r.sum r'.sum (fed (main f) (row_units h es) []) l in (
      b.0,
      wrote_is f s' cells' h' es' ∙ ap (λ (y : Fed). y.wrote) (same_fed f s' s a' a r'.sum (row_units h' es')) ∙
          ap (λ (t : List ℕ). (machine_after f s r'.sum t).wrote) u ∙ b.1 ∙ ap (λ (t : List ℕ). t ++ b.0) (sym (wrote_is f s cells h es)),
    )
