use Rattle.std.proofs.Common.{◌≤◌, length, arith}
use Rattle.bit_fields.proofs.Looking.{sees_front}
use Rattle.bit_fields.proofs.Parts.{live_from}
use Rattle.bit_fields.proofs.reader.BitReader.peek.Goals as goal

pub returns : goal.returns
returns g c =
    let there : c.args.n ≤ length c.self.inside.inflow.window = omega (arith, c.bits_held.ensures.held, c.if-bits_held-n.false) in
    let live = live_from c.self.inside.live c.self.inside.inflow.window c.args.n c.self.invariant.empty c.requires.some there in
    sees_front c.self.inside.live c.self.inside.position c.args.n c.peek.result c.self.inside.inflow c.args.self.now live c.self.view_is there c.peek.ensures
