use Rattle.std.proofs.Common.{refl}
use Rattle.bit_fields.specs.PlacedView.{placed}
use Rattle.bit_events.specs.Passing.{PassesOn}
use Rattle.bit_events.proofs.PassedOver.{on_records, on_then}
use Rattle.bit_events.proofs.passing.pass_records.Goals as goal
use Rattle.bit_events.proofs.passing.pass_records.Goals.{then-not-run+in_ok-run-2, else-not-run}

pub returns : goal.returns
returns g c =
    let first = c.in_ok-run.ensures.passes c.args.definitions.now.all c.all-all.ensures in
    let whole : PassesOn g.C.RunCounter.counted c.args.width c.args.definitions.now.all c.args.counter.now c.args.room (placed c.args.bits) c.if-not-run.counter c.if-not-run.run.room (placed c.if-not-run.run.bits) =
    elim c.if-not-run.branch [
      | then-not-run+in_ok-run-2 w ↦ rw (w.counter-is, w.run-is) (on_then g.C.RunCounter.counted c.args.width c.args.definitions.now.all c.args.counter.now c.args.room (placed c.args.bits) _ _ _ _ _ _ first (w.in_ok-run-2.ensures.passes c.args.definitions.now.all c.all-all.ensures))
      | else-not-run w ↦ rw (w.counter-is, w.run-is) first
    ] in
    record {
      passes = on_records g.C.RunCounter.counted c.args.width c.args.definitions.now.all c.args.counter.now c.args.room (placed c.args.bits) c.if-not-run.counter c.if-not-run.run.room (placed c.if-not-run.run.bits) (record { after = c.position.result; room = c.if-not-run.run.room; is_over = c.if-not-run.run.is_over }) whole c.requires.none refl c.position.ensures;
    }
