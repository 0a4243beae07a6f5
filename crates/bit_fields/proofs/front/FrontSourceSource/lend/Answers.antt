use Rattle.std.proofs.Common.{refl}
use Rattle.bit_fields.proofs.Fronts.{begins_front, looked_front}
use Rattle.bit_fields.proofs.front.FrontSourceSource.lend.Goals as goal

pub returns : goal.returns
returns g c =
    let asks = c.is_open.ensures c.if-not-is_open.false in (
      (refl, λ _. tt, rw (asks.1) (looked_front c.args.self.now.left c.args.self.now.pulls (g.S.Source.incoming c.args.self.now.source) (g.S.Source.incoming c.lend-bytes.follows.lender-at-none) asks.2 c.lend-bytes.follows.holds-at-none)),
      record {
        front = begins_front (g.S.Source.incoming c.args.self.now.source).to_come c.lend-bytes.result.now c.args.self.now.left c.min-count.result c.lend-bytes.ensures.front c.min-count.ensures;
        rests = tt;
      },
    )
