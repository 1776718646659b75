use Rattle.std.proofs.Common.{◌≡◌, ℕ, ◌<◌, ◌≤◌, List, [], ◌∷◌, sym, refl, ◌∙◌, subst, arith}
use mathlib.Core.List.Memᴰ
use Rattle.format.proofs.Finds.{In}
use Rattle.ring.specs.Ring.{items, capacity}
use Rattle.bytecode.specs.Places.{places}
use Rattle.verifier.specs.declared.pending.Pending.{Pending}
use Rattle.verifier.specs.Numbering.{number}
use Rattle.verifier.specs.Worklist.{Spreads, turns_left}
use Rattle.verifier.proofs.Turns.{work}
use Rattle.verifier.proofs.Methods.{loop_keeps, loop_falls, loop_ends}
use Rattle.verifier.proofs.Rounds.{start_room, begins}
use Rattle.verifier.proofs.worklist.number_method.Goals as goal

pub give-requires : goal.give-requires
give-requires c = record {
  short = let i = c.code_range-range.ensures.inside in omega arith;
  long = let i = c.code_range-range.ensures.inside in let l = c.requires.closed.long in omega arith;
  room = λ _ _. start_room c.args.code.now.file.now c.args.code.now.layout c.args.k c.requires.method (items c.args.line.now) (capacity c.args.line.now) c.requires.empty c.requires.room;
}

pub loop-waited-init : goal.loop-waited-init
loop-waited-init c = (
  begins c.args.code.now.file.now c.args.code.now.layout c.args.k c.requires.method c.args.sheet.now c.code_range-range.result.start c.code_range-range.result.end (items c.args.line.now) (work c.give.new.sheet (items c.give.new.line)) (capacity c.args.line.now) (capacity c.give.new.line) c.requires.closed c.code_range-range.ensures.starts c.code_range-range.ensures.ends c.requires.empty c.requires.room c.give.ensures.same c.give.ensures.work,
  c.give.ensures.same,
)

-- what waits first is a numbered place of the method
first_waits : {f s : List ℕ} {k : ℕ} {x : Pending} {ws rest : List Pending} → Spreads f k (work s ws) → ws ≡ x ∷ rest → In x.place (places f k) × (number s x.place ≡ x.number) × (x.number ≤ 255)
first_waits {f} {s} {k} {x} h e = (subst (λ z. Spreads f k (work s z)) e h).waiting x (Memᴰ.head refl)

pub point-point-requires : goal.point-point-requires
point-point-requires c = record {
  place = (c.requires.method, (first_waits c.loop-waited.invariant.0.0 c.in-Some.ensures.items).0);
  starts = c.code_range-range.ensures.starts;
  ends = c.code_range-range.ensures.ends;
  inside = c.code_range-range.ensures.inside;
}

pub overflow_cast-waited-in-Some : goal.overflow_cast-waited-in-Some
overflow_cast-waited-in-Some c = let w = (first_waits c.loop-waited.invariant.0.0 c.in-Some.ensures.items).2 in omega arith

pub go_on-requires : goal.go_on-requires
go_on-requires c =
    let p = c.point-point.ensures in
    let f = c.args.code.now.file.now in
    let e : items c.loop-waited.line ≡ c.in-Some.waited ∷ items c.pop.new.self = c.in-Some.ensures.items in
    let t : turns_left f c.args.k (work c.loop-waited.sheet (c.in-Some.waited ∷ items c.pop.new.self)) ≤ capacity c.loop-waited.line = subst (λ z. turns_left f c.args.k (work c.loop-waited.sheet z) ≤ capacity c.loop-waited.line) e c.loop-waited.invariant.0.2 in
    let same = c.in-Some.ensures.capacity in
    rw (p.0, p.1) (record { long = c.loop-waited.invariant.0.0.long; room = omega (arith, same, t) })

pub loop-waited-smaller : goal.loop-waited-smaller
loop-waited-smaller c =
    let f = c.args.code.now.file.now in
    let e : items c.loop-waited.line ≡ c.in-Some.waited ∷ items c.pop.new.self = c.in-Some.ensures.items in
    let h : Spreads f c.args.k (work c.loop-waited.sheet (c.in-Some.waited ∷ items c.pop.new.self)) = subst (λ z. Spreads f c.args.k (work c.loop-waited.sheet z)) e c.loop-waited.invariant.0.0 in
    subst (λ z. turns_left f c.args.k (work c.go_on.new.sheet (items c.go_on.new.line)) < turns_left f c.args.k (work c.loop-waited.sheet z)) (sym e)
    (loop_falls f c.args.code.now.layout c.args.k c.requires.method c.loop-waited.sheet c.loop-waited.sheet c.in-Some.waited (items c.pop.new.self) (work c.go_on.new.sheet (items c.go_on.new.line)) (rw (c.point-point.ensures.0, c.point-point.ensures.1, c.point-point.ensures.2) at c.go_on.ensures.work) h)

pub loop-waited-preserved : goal.loop-waited-preserved
loop-waited-preserved c =
    let f = c.args.code.now.file.now in
    let e : items c.loop-waited.line ≡ c.in-Some.waited ∷ items c.pop.new.self = c.in-Some.ensures.items in
    let h : Spreads f c.args.k (work c.loop-waited.sheet (c.in-Some.waited ∷ items c.pop.new.self)) = subst (λ z. Spreads f c.args.k (work c.loop-waited.sheet z)) e c.loop-waited.invariant.0.0 in
    let r = loop_keeps f c.args.code.now.layout c.args.k c.requires.method _ c.loop-waited.sheet c.in-Some.waited (items c.pop.new.self) (work c.go_on.new.sheet (items c.go_on.new.line)) (rw (c.point-point.ensures.0, c.point-point.ensures.1, c.point-point.ensures.2) at c.go_on.ensures.work) h c.loop-waited.invariant.0.1 in
    let t = loop-waited-smaller c in
    let same : capacity c.go_on.new.line ≡ capacity c.loop-waited.line = c.go_on.ensures.same ∙ c.in-Some.ensures.capacity in
    let m = c.loop-waited.invariant.0.2 in
    ((r.0, r.1, omega (arith, same, t, m)), same ∙ c.loop-waited.invariant.1)

pub returns : goal.returns
returns c =
    let f = c.args.code.now.file.now in
    let e = c.in_default.ensures.items in
    let h : Spreads f c.args.k (work c.loop-waited.sheet []) = subst (λ z. Spreads f c.args.k (work c.loop-waited.sheet z)) e.0 c.loop-waited.invariant.0.0 in
    record {
      closed = loop_ends f c.args.code.now.layout c.args.k c.requires.method c.args.sheet.now c.requires.closed c.loop-waited.sheet h c.loop-waited.invariant.0.1;
      empty = e.1;
      same = c.in_default.ensures.capacity ∙ c.loop-waited.invariant.1;
    }
