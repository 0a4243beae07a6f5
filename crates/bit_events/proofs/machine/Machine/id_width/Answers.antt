use Rattle.std.proofs.Common.{◌-◌, length, sym, arith, ltb-true}
use Rattle.bit_events.proofs.Stepping.{open_last}
use Rattle.bit_events.proofs.Machines.{width_in}
use Rattle.bit_events.proofs.machine.Machine.id_width.Goals as goal

pub returns-in-Some-clause-inside : goal.returns-in-Some-clause-inside
returns-in-Some-clause-inside c =
    let m = c.args.self.now in
    let items = rw c.deref.ensures.value at c.in-Some.ensures.item in
    let was = open_last m c.in-Some.frame.now (omega (arith, ltb-true 0 (length m.frames.items) (sym items.0))) items.1 in
    width_in m c.in-Some.frame.now _ c.from.result was c.from.ensures
