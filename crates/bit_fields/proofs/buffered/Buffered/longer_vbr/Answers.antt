use Rattle.std.proofs.Common.{ap, arith, length}
use Rattle.bit_grammar.specs.Fields.{vbr}
use Rattle.bit_fields.specs.Buffered.{BufferedBits, beyond}
use Rattle.bit_fields.proofs.BufferedReads.{reads_there}
use Rattle.bit_fields.proofs.buffered.Buffered.longer_vbr.Goals as goal

pub skip-requires : goal.skip-requires
skip-requires c =
    let bits = c.far_vbr-value.result.1 in
    let there = reads_there (vbr c.args.n.bits) c.copy.result c.far_vbr-value.result.0 (beyond c.copy.result bits) (c.far_vbr-value.ensures.reads (omega (arith, c.if-bits-eq0.false))) in
    omega (arith, there, ap (λ (a : BufferedBits). length a.bits) c.copy.ensures)
