use Rattle.std.proofs.Common.{Some, None, sym, ◌∙◌, add-zero, arith}
use Rattle.std.proofs.lemmas.List.{drop_all, drop_more}
use Rattle.run.proofs.Runs.{holds_frames}
use Rattle.rows.specs.declared.event.Event.TheVariants.{Go}
use Rattle.rows.proofs.Carrying.{going_ends, going_with, goes_on}
use Rattle.rows.proofs.carry_out.Goals as goal
use Rattle.rows.proofs.carry_out.Goals.{in-Some, in-default}

pub loop-event-preserved : goal.loop-event-preserved
loop-event-preserved c =
    let r = c.args.run.now in
    let l = c.args.label.now in
    let es = c.args.events.now in
    let x = c.loop-event in
    let d = drop_more es x.event-index (Go 0) c.loop-event-test.true in
    elim c.match-carry.branch [
      | in-Some w ↦ going_with r l es x.event-index x.run x.label x.last x.sum x.invariant _ d c.carry.new.run c.carry.new.label
          (Some (w.in-Some.stop, w.in-Some.count)) w.in-Some.ensures (omega arith) c.match-carry.last c.match-carry.sum w.last-is w.sum-is
      | in_default w ↦ going_with r l es x.event-index x.run x.label x.last x.sum x.invariant _ d c.carry.new.run c.carry.new.label
          None w.in_default.ensures (omega arith) c.match-carry.last c.match-carry.sum w.last-is (w.sum-is ∙ sym (add-zero x.sum))
    ]

pub returns : goal.returns
returns c =
    let r = c.args.run.now in
    let l = c.args.label.now in
    let es = c.args.events.now in
    let x = c.loop-event in
    let d = going_ends r l es x.event-index x.run x.label x.last x.sum x.invariant (drop_all x.event-index es c.loop-event-test.false) in
    record { row = d; frames = holds_frames x.run; laws = goes_on r l es x.run x.label _ d }
