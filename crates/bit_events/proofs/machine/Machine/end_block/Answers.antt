use Rattle.std.proofs.Common.{[], ◌∷◌, length, ap, arith, length-append}
use Rattle.std.proofs.lemmas.Result.{err_from_is_err_and}
use Rattle.bit_events.specs.MachineView.{handed_shown, machine_shown}
use Rattle.bit_events.proofs.Stepping.{held_end_missed, held_end_lost, held_end_took}
use Rattle.bit_events.proofs.machine.Machine.end_block.Goals as goal

pub returns-in_err-after-clause-takes : goal.returns-in_err-after-clause-takes
returns-in_err-after-clause-takes g c = λ list f outer split.
    let p = err_from_is_err_and c.from_residual.result c.from_residual.ensures.1 in
    rw (p.1, p.2) (held_end_missed c.args.self.now.frames.items c.pop.new.self.items c.in-Some.frame f outer (handed_shown c.args.self.now) c.args.reader.now c.in_err-after.field-0.0 c.end_of_block.new.reader c.in-Some.ensures.items split c.in_err-after.ensures.takes)

pub returns-in_err-or_memory_fault-clause-takes : goal.returns-in_err-or_memory_fault-clause-takes
returns-in_err-or_memory_fault-clause-takes g c = λ list f outer split.
    let p = err_from_is_err_and c.from_residual-in_err-or_memory_fault.result c.from_residual-in_err-or_memory_fault.ensures.1 in
    rw (p.1, p.2, c.in_err-or_memory_fault.ensures.err.0) (held_end_lost c.args.self.now.frames.items c.pop.new.self.items c.in-Some.frame f outer (handed_shown c.args.self.now) c.args.reader.now c.in_ok-after.after c.end_of_block.new.reader c.or_memory_fault.new.reader c.in-Some.ensures.items split c.in_ok-after.ensures.takes c.in_err-or_memory_fault.ensures.err.1)

pub returns-clause-takes : goal.returns-clause-takes
returns-clause-takes g c = λ list f outer split.
    let left = rw c.in_ok-or_memory_fault.ensures.ok.0 at c.leave.ensures.made in
    held_end_took c.args.self.now.frames.items c.pop.new.self.items c.in-Some.frame f outer (handed_shown c.args.self.now) c.args.reader.now c.in_ok-after.after c.end_of_block.new.reader c.or_memory_fault.new.reader (machine_shown c.leave.new.self) c.in-Some.ensures.items split c.in_ok-after.ensures.takes c.in_ok-or_memory_fault.ensures.ok.1 left

pub returns-clause-leaves : goal.returns-clause-leaves
returns-clause-leaves g c = λ deepest list. record {
  stands = c.requires.some;
  opens = rw c.leave.ensures.frames (let len = ap length c.in-Some.ensures.items in omega (arith, len, length-append c.pop.new.self.items (c.in-Some.frame ∷ []), c.args.self.now.frames.ok.0, c.pop.new.self.ok.0));
  forward = rw c.in_ok-or_memory_fault.ensures.ok.1 c.in_ok-after.ensures.takes.forward;
  aligned = λ none. rw c.in_ok-or_memory_fault.ensures.ok.1 c.in_ok-after.ensures.aligned;
  holds = tt;
}
