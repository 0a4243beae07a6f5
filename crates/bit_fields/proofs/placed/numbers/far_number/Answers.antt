use Rattle.std.proofs.Common.{◌≤◌, length, refl, subst, arith}
use Rattle.bit_grammar.specs.Fields.{vbr}
use Rattle.bit_fields.specs.Buffered.{BufferedBits, beyond}
use Rattle.bit_fields.specs.Placed.{bits_at}
use Rattle.bit_fields.proofs.BufferedReads.{reads_there}
use Rattle.bit_fields.proofs.PlacedNumbers.{far_taken}
use Rattle.bit_fields.proofs.placed.numbers.far_number.Goals as goal

pub after-requires : goal.after-requires
after-requires c =
    let a = bits_at c.args.start c.args.at c.args.bytes.now in
    omega (arith, reads_there (vbr c.args.n) a c.far-value.result.0 (beyond a c.far-value.result.1) (c.far-value.ensures (omega arith)))

pub returns-clause-takes : goal.returns-clause-takes
returns-clause-takes c = λ some. (
    let a = bits_at c.args.start c.args.at c.args.bytes.now in
    far_taken c.args.n c.args.more c.far-value.result.0 c.far-value.result.1 a (c.far-value.ensures some) (subst (λ (x : BufferedBits). c.args.more ≤ length x.bits) c.after.ensures.rest (c.if-not-has.ensures refl))
    )
