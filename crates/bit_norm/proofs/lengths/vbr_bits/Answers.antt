use Rattle.std.proofs.Common.{◌≤◌, ◌<◌, ◌^◌, ◌-◌, arith}
use Rattle.std.proofs.lemmas.Nat.{one_shl}
use Rattle.bit_fields.proofs.WriterChunks.{part_smaller}
use Rattle.bit_norm.proofs.ChunkCounting.{counting_starts, counting_goes_on, counting_few, counting_ends}
use Rattle.bit_norm.proofs.lengths.vbr_bits.Goals as goal

pub loop-rest-init : goal.loop-rest-init
loop-rest-init c = rw c.from-bits.ensures (counting_starts c.args.n c.args.value c.requires.wide (omega arith))

pub loop-rest-smaller : goal.loop-rest-smaller
loop-rest-smaller c =
    let le : 2 ^ (c.args.n - 1) ≤ c.loop-rest.rest = omega (arith, c.loop-rest-test.true, one_shl (c.args.n - 1) 64 (omega arith)) in
    part_smaller c.args.n c.loop-rest.rest c.requires.wide le

pub overflow_add-bits : goal.overflow_add-bits
overflow_add-bits c = omega (arith, counting_few c.args.n c.args.value c.loop-rest.bits c.loop-rest.rest c.requires.wide c.requires.narrow c.loop-rest.invariant)

pub loop-rest-preserved : goal.loop-rest-preserved
loop-rest-preserved c =
    let le : 2 ^ (c.args.n - 1) ≤ c.loop-rest.rest = omega (arith, c.loop-rest-test.true, one_shl (c.args.n - 1) 64 (omega arith)) in
    rw c.from-bits-in-loop-rest.ensures (counting_goes_on c.args.n c.args.value c.loop-rest.bits c.loop-rest.rest c.requires.wide le c.loop-rest.invariant)

pub returns : goal.returns
returns c =
    let lt : c.loop-rest.rest < 2 ^ (c.args.n - 1) = omega (arith, c.loop-rest-test.false, one_shl (c.args.n - 1) 64 (omega arith)) in
    record {
      bits = counting_ends c.args.n c.args.value c.loop-rest.bits c.loop-rest.rest lt c.loop-rest.invariant;
      few = counting_few c.args.n c.args.value c.loop-rest.bits c.loop-rest.rest c.requires.wide c.requires.narrow c.loop-rest.invariant;
    }
