use Rattle.std.proofs.Common.{◌≤◌, length, sym, subst, arith, bit_and}
use Rattle.bit_grammar.specs.Fields.{vbr}
use Rattle.bit_fields.specs.Buffered.{BufferedBits, Reads, beyond}
use Rattle.bit_fields.proofs.Placing.{part_there, placed_from}
use Rattle.bit_fields.proofs.placed.PlacedBits.far.Goals as goal

pub skip-requires : goal.skip-requires
skip-requires c = subst (λ (a : BufferedBits). bit_and c.args.self.at 7 ≤ length a.bits) (sym c.of-buffered.ensures) (part_there c.args.self.at c.args.self.bytes.now c.args.self.there)

pub returns : goal.returns
returns c = λ some. (
    let here = placed_from c.args.self.start c.args.self.at c.args.self.bytes.now c.of-buffered.result c.skip.new.self c.args.self.there (omega arith) c.of-buffered.ensures c.skip.ensures.skipped in
    subst (λ (a : BufferedBits). Reads (vbr c.args.n) a c.far_vbr.result.0 (beyond a c.far_vbr.result.1)) here (c.far_vbr.ensures.reads some)
    )
