use Rattle.std.proofs.Common.{ap, length, arith}
use Rattle.bit_fields.specs.Buffered.{BufferedBits}
use Rattle.bit_fields.proofs.LentParts.{buffered_length}
use Rattle.bit_fields.proofs.buffered.Buffered.len.Goals as goal

pub returns : goal.returns
returns c = omega (arith, c.self.invariant, c.position.ensures, ap (λ (a : BufferedBits). length a.bits) c.self.view_is, ap (λ (a : BufferedBits). a.position) c.self.view_is, buffered_length c.self.inside.window c.self.inside.bytes.now)
