use Rattle.std.proofs.Common.{ℕ, ◌+◌, ◌<◌, ◌≤◌, Bool, List, ◌++◌, length, sym, refl, ap, ◌∙◌, subst}
use Rattle.std.proofs.lemmas.Bool.{lt-ltb, le-ltb}
use Rattle.format.specs.Search.{when}
use Rattle.machine.specs.declared.stop.Stop.TheVariants.{NoRoom}
use Rattle.machine.specs.Go.{next_text}
use Rattle.run.specs.Standing.{program, state_of}
use Rattle.run.specs.Step.{host_of}
use Rattle.run.proofs.Turning.{out_hinders, wrote_turn}
use Rattle.run.proofs.interpreter.Interpreter.put_units.Goals as goal

pub returns-then-room-count : goal.returns-then-room-count
returns-then-room-count g c =
    let h = host_of (g.H.Host.waiting c.args.host.now) (g.H.Host.written c.args.host.now) (g.H.Host.space c.args.host.now) in
    let m = c.args.self.now in
    let n = c.count.ensures.count ∙ ap length c.next_text-text.ensures in
    record {
      kept = g.H.Host.kept_refl _;
      stop = sym (out_hinders c.args.self.now c.requires.here h ∙ ap (λ (b : Bool). when b NoRoom)
          (lt-ltb _ _ (subst (λ (k : ℕ). k < length (next_text (program m) (state_of m))) c.room.ensures (subst (λ (k : ℕ). c.room.result < k) n c.if-room-count.true))));
      turn = (refl, refl);
    }

pub returns : goal.returns
returns g c =
    let h = host_of (g.H.Host.waiting c.args.host.now) (g.H.Host.written c.args.host.now) (g.H.Host.space c.args.host.now) in
    let m = c.args.self.now in
    let n = c.count.ensures.count ∙ ap length c.next_text-text.ensures in
    let t = c.put.ensures in
    let e = c.next_text-text.ensures in
    record {
      kept = t.kept;
      stop = sym (out_hinders c.args.self.now c.requires.here h ∙ ap (λ (b : Bool). when b NoRoom)
          (le-ltb _ _ (subst (λ (k : ℕ). length (next_text (program m) (state_of m)) ≤ k) c.room.ensures (subst (λ (k : ℕ). k ≤ c.room.result) n c.if-room-count.false))));
      turn = wrote_turn c.args.self.now c.requires.here c.requires.runs c.drop_written.new.self c.drop_written.ensures _ _
          t.waiting (t.written ∙ ap (λ (us : List ℕ). g.H.Host.written c.args.host.now ++ us) e) (t.space ∙ ap (λ (us : List ℕ). g.H.Host.space c.put.new.host + length us) e);
    }
