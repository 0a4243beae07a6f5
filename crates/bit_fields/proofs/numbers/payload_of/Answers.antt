use Rattle.std.proofs.Common.{◌-◌, arith}
use Rattle.std.proofs.lemmas.Nat.{one_shl, and_mask}
use Rattle.bit_fields.proofs.numbers.payload_of.Goals as goal

pub returns : goal.returns
returns c = rw (one_shl (c.args.n.bits - 1) 64 (omega arith)) (and_mask c.args.chunk (c.args.n.bits - 1))
