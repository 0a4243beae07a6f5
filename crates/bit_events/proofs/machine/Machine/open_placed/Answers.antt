use Rattle.std.proofs.Common.{arith}
use Rattle.bit_fields.specs.PlacedView.{placed}
use Rattle.bit_events.proofs.Blocks.{opens_here}
use Rattle.bit_events.proofs.machine.Machine.open_placed.Goals as goal

pub returns : goal.returns
returns c =
    let read = c.in-Some.ensures.reads in
    (read.0, read.1, λ list. opens_here c.args.limits.now c.args.self.now c.args.first (placed c.args.bits) c.in-Some.head read.0 c.push.new.self (omega (arith, c.if-len-depth.false, c.len.ensures, c.depth.ensures.depth)) read.2 c.in_ok-push.ensures.made c.in_ok-push.ensures.more)
