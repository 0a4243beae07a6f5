use Rattle.std.proofs.Common.{take, arith}
use Rattle.std.proofs.lemmas.List.{length-take-le}
use Rattle.bit_fields.proofs.Keeping.{begins_before}
use Rattle.bit_fields.proofs.kept.KeptSource.keep_buffered.Goals as goal

pub returns-clause-buffered : goal.returns-clause-buffered
returns-clause-buffered g c = λ some.
    let shown = c.lend-bytes.result.now in
    let looked = c.in_ok-look.ensures.looks in
    let lent = c.lend-bytes.follows.holds-at-none in
    let fresh = c.in_ok-look.ensures.fresh c.if-not-branch.false in (
      omega (arith, fresh, lent.pulls, lent.failures),
      (
        take c.min-count.result shown,
        length-take-le c.min-count.result shown (omega arith),
        begins_before (g.S.Source.incoming c.args.self.now.source).to_come (g.S.Source.incoming c.look.new.self).to_come shown c.min-count.result looked.bytes c.lend-bytes.ensures.front (omega arith),
        c.keep.ensures,
      ),
    )
