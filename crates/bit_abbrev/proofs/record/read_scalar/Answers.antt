use Rattle.std.proofs.Common.{◌≡◌}
use Rattle.bit_grammar.specs.Record.{scalar}
use Rattle.bit_abbrev.proofs.Adding.{took_zero}
use Rattle.bit_abbrev.proofs.record.read_scalar.Goals as goal

pub returns-in-Fixed-eq0-clause-takes : goal.returns-in-Fixed-eq0-clause-takes
unfolding scalar
returns-in-Fixed-eq0-clause-takes g c =
    let none : c.in-Fixed-eq0.field-0 ≡ 0 = cc in
    rw (c.in-Fixed-eq0.is, none) (took_zero (g.B.Bits.as_reader c.args.bits.now) c.requires.live)
