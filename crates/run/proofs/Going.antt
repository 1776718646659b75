-- A go so far: where it stands beside the plain machine, and where it ends. Assumes nothing.
use Rattle.std.proofs.Common.{◌≡◌, ℕ, ◌+◌, ◌-◌, ◌<◌, ◌≤◌, Bool, false, eqb, List, [], ◌++◌, length, is_some, Some, None, Option, unwrap_or, sym, refl, ap, ◌∙◌, subst, inl, inr, append_assoc, append-nil, add-zero, add-one, arith, length-append}
use Rattle.std.specs.Option.{option_map}
use Rattle.std.proofs.lemmas.Bool.{eq-eqb, ne_eqb, cases_lt}
use Rattle.format.specs.Search.{◌else◌, when}
use Rattle.machine.specs.declared.stop.Stop.{Stop}
use Rattle.machine.specs.declared.stop.Stop.TheVariants.{Ended, Spent}
use Rattle.machine.specs.declared.stop.End.{End}
use Rattle.machine.specs.Machine.{State, Fed, fed, step, after}
use Rattle.machine.specs.Go.{Host, Outcome, next_text, hindrance, stop_at, count, outcome_begun}
use Rattle.machine.proofs.Wide.{after_last}
use Rattle.machine.proofs.Counts.{count_is}
use Rattle.machine.proofs.Regroup.{hindrance_wide}
use Rattle.run.specs.declared.interpreter.Interpreter.{Interpreter}
use Rattle.run.specs.Standing.{program, numbers, cells, state_of}
use Rattle.run.specs.Step.{hindered, Advanced}

-- a go on the file f with the sheet s and n cells that began at the state st with the host h0, and has done j instructions:
-- the interpreter m and the host h are where the plain machine is, and nothing stopped it before
pub record Going (f s : List ℕ) (n fuel : ℕ) (st : State) (h0 : Host) (j : ℕ) (m : Interpreter) (h : Host) : Type 0 where
  pub file : program m ≡ f
  pub sheet : numbers m ≡ s
  pub size : cells m ≡ n
  pub state : (after f s j (fed st h0.waits [])).state ≡ state_of m
  pub waits : (after f s j (fed st h0.waits [])).feed ≡ h.waits
  pub written : h.written ≡ h0.written ++ (after f s j (fed st h0.waits [])).wrote
  pub room : h0.space ≡ h.space + length (after f s j (fed st h0.waits [])).wrote
  pub free : (i : ℕ) → i < j → is_some (stop_at f s n h0.space fuel i (after f s i (fed st h0.waits []))) ≡ false
  pub within : j ≤ fuel

pub going_start : (m : Interpreter) (h : Host) (fuel : ℕ) → Going (program m) (numbers m) (cells m) fuel (state_of m) h 0 m h
going_start m h fuel =
    record {
      file = refl;
      sheet = refl;
      size = refl;
      state = refl;
      waits = refl;
      written = sym (append-nil h.written);
      room = sym (add-zero h.space);
      free = λ i l. absurd (omega arith);
      within = omega arith;
    }

same_outcome : {t t' : State} {a a' b b' : List ℕ} {k k' j : ℕ} {c c' : Stop} → t ≡ t' → a ≡ a' → b ≡ b' → k ≡ k' → c ≡ c' →
    ◌≡◌ {A = Outcome} (record { run = Some t; host = record { waits = a; written = b; space = k }; stop = c; counted = j })
    (record { run = Some t'; host = record { waits = a'; written = b'; space = k' }; stop = c'; counted = j })
same_outcome p q r s u = cc

-- what stops a go that has come to m and h
abbrev pub reason : ℕ → ℕ → Interpreter → Host → Option Stop
reason fuel j m h = option_map Ended m.ended else when (eqb j fuel) Spent else hindered m h

module _ (f s : List ℕ) (n fuel : ℕ) (st : State) (h0 : Host) (j : ℕ) (m : Interpreter) (h : Host) (g : Going f s n fuel st h0 j m h) where
  abbrev x : Fed
  x = after f s j (fed st h0.waits [])

  x_is : x ≡ fed (state_of m) h.waits x.wrote
  x_is = ap (λ (t : State). fed t x.feed x.wrote) g.state ∙ ap (λ (us : List ℕ). fed (state_of m) us x.wrote) g.waits

  hindrance_is : hindrance f s n h0.space x ≡ hindered m h
  hindrance_is =
      ap (hindrance f s n h0.space) (x_is ∙ ap (λ (us : List ℕ). fed (state_of m) us x.wrote) (sym (append-nil h.waits)) ∙ ap (fed (state_of m) (h.waits ++ [])) (sym (append-nil x.wrote))) ∙
      hindrance_wide f s x.wrote n h0.space (fed (state_of m) h.waits []) (let r = g.room in omega arith) ∙
      ap (λ (k : ℕ). hindrance f s n k (fed (state_of m) h.waits [])) (let r = g.room in omega arith) ∙
      moved g.file g.sheet g.size
    where
      moved : {f f' s s' : List ℕ} {n n' : ℕ} → f' ≡ f → s' ≡ s → n' ≡ n → hindrance f s n h.space (fed (state_of m) h.waits []) ≡ hindrance f' s' n' h.space (fed (state_of m) h.waits [])
      moved {f} {f'} {s} {s'} {n} {n'} a b c =
          ap (λ (g : List ℕ). hindrance g s n h.space (fed (state_of m) h.waits [])) (sym a) ∙
          ap (λ (t : List ℕ). hindrance f' t n h.space (fed (state_of m) h.waits [])) (sym b) ∙
          ap (λ (k : ℕ). hindrance f' s' k h.space (fed (state_of m) h.waits [])) (sym c)

  stop_is : stop_at f s n h0.space fuel j x ≡ reason fuel j m h
  stop_is =
      ap (λ (t : State). option_map Ended t.ended else when (eqb j fuel) Spent else hindrance f s n h0.space x) g.state ∙
      ap (λ (o : Option Stop). option_map Ended m.ended else when (eqb j fuel) Spent else o) hindrance_is

  -- it ends here
  pub going_ends : (stop : Stop) → reason fuel j m h ≡ Some stop → outcome_begun f s n fuel st h0 ≡ record { run = Some (state_of m); host = h; stop = stop; counted = j }
  going_ends stop e =
      ap (λ (k : ℕ). at k) counts ∙
      same_outcome g.state g.waits (sym g.written) (less h0.space h.space (length x.wrote) g.room) (ap (λ (o : Option Stop). unwrap_or o Spent) here)
    where
      here : stop_at f s n h0.space fuel j x ≡ Some stop
      here = stop_is ∙ e

      counts : count f s n h0.space fuel (fed st h0.waits []) ≡ j
      counts = count_is f s n h0.space fuel (fed st h0.waits []) j g.free (ap is_some here)

      less : (a b w : ℕ) → a ≡ b + w → a - w ≡ b
      less a b w e = omega arith

      at : ℕ → Outcome
      at k =
          let y = after f s k (fed st h0.waits []) in
          record {
            run = Some y.state;
            host = record { waits = y.feed; written = h0.written ++ y.wrote; space = h0.space - length y.wrote };
            stop = unwrap_or (stop_at f s n h0.space fuel k y) Spent;
            counted = k;
          }

  -- the same, of an interpreter and a host that nothing was done to
  pub going_halts : (stop : Stop) → reason fuel j m h ≡ Some stop → (m' : Interpreter) (h' : Host) → m' ≡ m → h' ≡ h →
      outcome_begun f s n fuel st h0 ≡ record { run = Some (state_of m'); host = h'; stop = stop; counted = j }
  going_halts stop e m' h' p q =
      going_ends stop e ∙
      ap (λ (y : Interpreter). let o : Outcome = record { run = Some (state_of y); host = h; stop = stop; counted = j } in o) (sym p) ∙
      ap (λ (y : Host). let o : Outcome = record { run = Some (state_of m'); host = y; stop = stop; counted = j } in o) (sym q)

  -- it goes on
  pub going_on : reason fuel j m h ≡ None → (j ≡ fuel → ⊥) → (m' : Interpreter) (h' : Host) → Advanced m h m' h' → Going f s n fuel st h0 (j + 1) m' h'
  going_on e ne m' h' a =
      record {
        file = a.kept.frames.same_file ∙ g.file;
        sheet = a.kept.sheet ∙ g.sheet;
        size = a.kept.frames.same_size ∙ g.size;
        state = ap (λ (y : Fed). y.state) next;
        waits = ap (λ (y : Fed). y.feed) next;
        written =
            a.writes ∙ ap (λ (t : List ℕ). t ++ out) g.written ∙ append_assoc h0.written x.wrote out ∙
            ap (λ (t : List ℕ). h0.written ++ t) (ap (λ (t : List ℕ). x.wrote ++ t) out_is ∙ sym (ap (λ (y : Fed). y.wrote) next));
        room = room;
        free = free;
        within = let w = g.within in let z = le_ne j fuel w ne in z;
      }
    where
      out : List ℕ
      out = next_text (program m) (state_of m)

      out_is : out ≡ next_text f (state_of m)
      out_is = ap (λ (k : List ℕ). next_text k (state_of m)) g.file

      does : step f s (fed (state_of m) h.waits x.wrote) ≡ fed (state_of m') h'.waits (x.wrote ++ next_text f (state_of m))
      does =
          subst (λ (k : List ℕ). step k s (fed (state_of m) h.waits x.wrote) ≡ fed (state_of m') h'.waits (x.wrote ++ next_text k (state_of m))) g.file
          (subst (λ (t : List ℕ). step (program m) t (fed (state_of m) h.waits x.wrote) ≡ fed (state_of m') h'.waits (x.wrote ++ next_text (program m) (state_of m))) g.sheet (a.does x.wrote))

      next : after f s (j + 1) (fed st h0.waits []) ≡ fed (state_of m') h'.waits (x.wrote ++ next_text f (state_of m))
      next = ap (λ (k : ℕ). after f s k (fed st h0.waits [])) (add-one j) ∙ after_last f s j (fed st h0.waits []) ∙ ap (step f s) x_is ∙ does

      room : h0.space ≡ h'.space + length (after f s (j + 1) (fed st h0.waits [])).wrote
      room =
          sums h0.space h.space h'.space (length x.wrote) (length out) _ g.room a.takes_room
          (ap (λ (y : Fed). length y.wrote) next ∙ length-append x.wrote (next_text f (state_of m)) ∙ ap (λ (t : List ℕ). length x.wrote + length t) (sym out_is))
        where
          sums : (a b c w o t : ℕ) → a ≡ b + w → b ≡ c + o → t ≡ w + o → a ≡ c + t
          sums a b c w o t p q r = omega arith

      free : (i : ℕ) → i < j + 1 → is_some (stop_at f s n h0.space fuel i (after f s i (fed st h0.waits []))) ≡ false
      free i l =
          elim (cases_lt i j) [
            | inl p ↦ g.free i p
            | inr p ↦ (let q : j ≡ i = omega arith in
                subst (λ (k : ℕ). is_some (stop_at f s n h0.space fuel k (after f s k (fed st h0.waits []))) ≡ false) q (ap is_some (stop_is ∙ e)))
          ]

      le_ne : (j k : ℕ) → j ≤ k → (j ≡ k → ⊥) → j + 1 ≤ k
      le_ne j k l ne = elim (cases_lt j k) [ inl p ↦ omega arith | inr p ↦ absurd (ne (omega arith)) ]

-- the reasons, as a go finds them
pub ended_reason : (fuel j : ℕ) (m : Interpreter) (h : Host) (e : End) → m.ended ≡ Some e → reason fuel j m h ≡ Some (Ended e)
ended_reason fuel j m h e q = ap (λ (o : Option End). option_map Ended o else when (eqb j fuel) Spent else hindered m h) q

pub spent_reason : (fuel j : ℕ) (m : Interpreter) (h : Host) → m.ended ≡ None → j ≡ fuel → reason fuel j m h ≡ Some Spent
spent_reason fuel j m h q e =
    ap (λ (o : Option End). option_map Ended o else when (eqb j fuel) Spent else hindered m h) q ∙ ap (λ (b : Bool). when b Spent else hindered m h) (eq-eqb j fuel e)

pub other_reason : (fuel j : ℕ) (m : Interpreter) (h : Host) (o : Option Stop) → m.ended ≡ None → (j ≡ fuel → ⊥) → o ≡ hindered m h → reason fuel j m h ≡ o
other_reason fuel j m h o q e r =
    ap (λ (o : Option End). option_map Ended o else when (eqb j fuel) Spent else hindered m h) q ∙ ap (λ (b : Bool). when b Spent else hindered m h) (ne_eqb j fuel e) ∙ sym r
