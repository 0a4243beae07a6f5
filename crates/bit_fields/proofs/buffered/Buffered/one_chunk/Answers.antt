use Rattle.std.proofs.Common.{◌<◌, ◌-◌, ◌^◌, arith}
use Rattle.std.proofs.lemmas.Nat.{one_shl}
use Rattle.bit_fields.proofs.LentParts.{one_reads}
use Rattle.bit_fields.proofs.buffered.Buffered.one_chunk.Goals as goal

pub returns-clause-reads : goal.returns-clause-reads
returns-clause-reads c =
    let below : c.peek.result < 2 ^ (c.args.n.bits - 1) = let s = one_shl (c.args.n.bits - 1) 64 (omega arith) in rw s at c.if-peek-n.false in
    let last : c.take.result < 2 ^ (c.args.n.bits - 1) = omega (arith, below, c.peek.ensures, c.take.ensures.value) in
    one_reads c.args.n.bits c.self.inside.end c.take.result c.args.self.now c.self.inside.window c.take.new.self c.self.inside.bytes.now c.self.view_is c.args.n.some c.args.n.few (omega (arith, c.if-len-n.false, c.len.ensures.length)) c.self.invariant c.take.ensures.value last c.take.ensures.rest
