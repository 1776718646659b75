use Rattle.std.proofs.Common.{ℕ, List, refl, ap, ◌∙◌, arith}
use Rattle.format.specs.Layout.{code_address}
use Rattle.format.specs.declared.layout.MethodEntry.{MethodEntry}
use Rattle.run.proofs.Calling.{enough, room, entered}
use Rattle.run.proofs.Steps.{place_small}
use Rattle.run.proofs.interpreter.Interpreter.enter.Goals as goal

pub overflow_add-back : goal.overflow_add-back
overflow_add-back c = let l = place_small c.args.self.now in omega arith

pub overflow_cast-back : goal.overflow_cast-back
overflow_cast-back c = let l = place_small c.args.self.now in omega arith

pub enter-requires : goal.enter-requires
enter-requires c =
    let m = c.args.self.now in
    record {
      some = enough m c.args.index c.requires.here;
      room = room m c.args.index c.requires.here c.requires.fits;
    }

pub invariant_of-self : goal.invariant_of-self
invariant_of-self c =
    let m = c.args.self.now in
    let u = c.enter.ensures in
    record {
      sound = (entered m c.args.index c.requires.here c.requires.fits c.enter.new.self _ refl u.kept u.running u.waiting
          _ (ap (λ (x : MethodEntry). x.code) c.method_entry.ensures ∙ ap (λ (g : List ℕ). code_address g c.args.index) u.kept.same_file)).holds;
    }

pub returns : goal.returns
returns c =
    let m = c.args.self.now in
    let u = c.enter.ensures in
    (entered m c.args.index c.requires.here c.requires.fits c.enter.new.self _ refl u.kept u.running u.waiting
    _ (ap (λ (x : MethodEntry). x.code) c.method_entry.ensures ∙ ap (λ (g : List ℕ). code_address g c.args.index) u.kept.same_file)).does _
