use Rattle.std.proofs.Common.{◌-◌, length, sym, arith, ltb-true}
use Rattle.bit_events.proofs.Stepping.{made_is}
use Rattle.bit_events.proofs.machine.Machine.newest_made.Goals as goal

pub returns-in-Some : goal.returns-in-Some
returns-in-Some c =
    let m = c.args.self.now in
    let items = rw c.deref.ensures.value at c.in-Some.ensures.item in
    made_is m.frames.items (length m.frames.items - 1) c.in-Some.frame.now c.newest_made.result (omega (arith, ltb-true 0 (length m.frames.items) (sym items.0))) items.1 c.newest_made.ensures
