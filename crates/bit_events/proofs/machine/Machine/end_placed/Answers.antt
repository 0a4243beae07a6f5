use Rattle.std.proofs.Common.{◌-◌, length, refl, sym, arith, ltb-true}
use Rattle.bit_fields.specs.PlacedView.{placed}
use Rattle.bit_grammar.specs.Blocks.{end_of_block}
use Rattle.bit_fields.proofs.BufferedReads.{reads_forward}
use Rattle.bit_events.specs.HeadView.{head_shown}
use Rattle.bit_events.proofs.Blocks.{ends_here}
use Rattle.bit_events.proofs.machine.Machine.end_placed.Goals as goal

pub returns-clause-steps : goal.returns-clause-steps
returns-clause-steps c = λ deepest f outer split plain.
    let m = c.args.self.now in
    let items = rw c.deref.ensures.value at c.in_ok-frame.ensures.item in
    let read = c.in_ok-after.ensures.reads in
    (read.0, read.1, λ list. ends_here deepest m (length m.frames.items - 1) c.in_ok-frame.frame.now c.in-Some._frame f outer (placed c.args.bits) c.in_ok-after.after read.0 (record m { frames = c.pop.new.self }) (omega (arith, ltb-true 0 (length m.frames.items) (sym items.0))) items.1 split plain read.2 (omega (arith, read.1, c.in_ok-after.ensures.aligned)) c.in-Some.ensures.items refl)

pub returns-clause-moves : goal.returns-clause-moves
returns-clause-moves c =
    let read = c.in_ok-after.ensures.reads in
    omega (arith, read.1, reads_forward (end_of_block (head_shown c.in_ok-frame.frame.now.head)) (placed c.args.bits) c.in_ok-after.after read.0 read.2)
