use Rattle.std.proofs.Common.{refl}
use Rattle.bit_norm.proofs.GivenAgain.{begins_behind, looked_behind}
use Rattle.bit_norm.proofs.rejoined.RejoinedSource.lend.Goals as goal

pub returns : goal.returns
returns g c =
    let asks = c.is_open.ensures c.if-not-is_open.false in
    let over = c.is_over.ensures.over c.if-not-is_over.false in (
      (refl, λ _. tt, rw (asks.0, over.0, over.1) (looked_behind c.args.self.now.pulls (g.S.Source.incoming c.args.self.now.source) (g.S.Source.incoming c.lend.follows.lender-at-none) asks.1 c.lend.follows.holds-at-none)),
      record {
        front = rw (over.0) (begins_behind (g.S.Source.incoming c.args.self.now.source).to_come c.lend.result.now c.lend.ensures.front);
        rests = tt;
      },
    )
