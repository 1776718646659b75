use Rattle.std.proofs.Common.{◌≡◌, ℕ, true, List, None, sym, ap, subst}
use Rattle.format.specs.declared.layout.MethodEntry.{MethodEntry}
use Rattle.verifier.specs.Numbering.{Admitted}
use Rattle.machine.specs.Go.{begins}
use Rattle.machine.proofs.Row.{keeps_level_on, replays_on}
use Rattle.frames.specs.Frames.{size}
use Rattle.run.proofs.Holding.{holds, main_plain, main_room, main_sound}
use Rattle.run.proofs.Steps.{same_state}
use Rattle.run.proofs.start.begun.Goals as goal

pub open-requires : goal.open-requires
open-requires c =
    let f = c.args.file.now in
    let s = c.args.sheet.now in
    record { plain = main_plain f s c.requires.admitted; room = main_room f s c.requires.admitted _ c.requires.fits }

pub invariant_of-interpreter : goal.invariant_of-interpreter
invariant_of-interpreter c =
    let f = c.args.file.now in
    let s = c.args.sheet.now in
    let u = c.open.ensures in
    record {
      sound = main_sound f s c.requires.admitted c.open.result c.method_entry-place.result.code u.file (subst (λ (n : ℕ). begins f s n ≡ true) (sym u.size) c.requires.fits)
          (same_state {n = 0} {o = None} u.running u.waiting (ap (λ (e : MethodEntry). e.code) c.method_entry-place.ensures));
    }

pub returns-clause-frames : goal.returns-clause-frames
returns-clause-frames c = holds c.open.result c.method_entry-place.result.code 0 None

pub returns-clause-levels : goal.returns-clause-levels
returns-clause-levels c =
    let u = c.open.ensures in
    keeps_level_on c.open.result.file.now c.args.sheet.now (subst (λ (f : List ℕ). Admitted f c.args.sheet.now) (sym u.file) c.requires.admitted) (size c.open.result)

pub returns-clause-replay : goal.returns-clause-replay
returns-clause-replay c =
    let u = c.open.ensures in
    replays_on c.open.result.file.now c.args.sheet.now (subst (λ (f : List ℕ). Admitted f c.args.sheet.now) (sym u.file) c.requires.admitted) (size c.open.result)
