use Rattle.bit_norm.proofs.GivenAgain.{looked_behind, none_behind}
use Rattle.bit_norm.proofs.rejoined.RejoinedSource.look.Goals as goal

pub returns-in-Ok-clause-looks : goal.returns-in-Ok-clause-looks
returns-in-Ok-clause-looks g c =
    let asks = c.is_open.ensures c.if-not-is_open.false in
    let over = c.is_over.ensures.over c.if-not-is_over.false in
    rw (asks.0, over.0, over.1) (looked_behind c.args.self.now.pulls (g.S.Source.incoming c.args.self.now.source) (g.S.Source.incoming c.look.new.self) asks.1 c.in-Ok.ensures.looks)

pub returns-in-Err-clause-looks : goal.returns-in-Err-clause-looks
returns-in-Err-clause-looks g c =
    let asks = c.is_open.ensures c.if-not-is_open.false in
    let over = c.is_over.ensures.over c.if-not-is_over.false in
    rw (asks.0, over.0, over.1) (none_behind c.args.self.now.pulls (g.S.Source.incoming c.args.self.now.source) (g.S.Source.incoming c.look.new.self) asks.1 c.in-Err.ensures.looks)
