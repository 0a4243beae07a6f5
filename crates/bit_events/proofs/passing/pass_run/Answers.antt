use Rattle.bit_fields.specs.PlacedView.{placed}
use Rattle.bit_events.proofs.PassedOver.{on_none, on_then}
use Rattle.bit_events.proofs.passing.pass_run.Goals as goal

pub loop-by-init : goal.loop-by-init
loop-by-init g c = λ definitions known. on_none g.C.RunCounter.counted c.args.width definitions c.args.counter.now c.args.room (placed c.args.bits)

pub loop-by-preserved : goal.loop-by-preserved
loop-by-preserved g c = λ definitions known.
    let l = c.loop-by in
    on_then g.C.RunCounter.counted c.args.width definitions c.args.counter.now c.args.room (placed c.args.bits) l.counter l.room (placed l.bits) c.pass_next.new.counter c.in-Some.left (placed c.in-Some.after) (l.invariant definitions known) (rw c.in-Some.is at (c.in_ok-after.ensures.steps definitions known))
