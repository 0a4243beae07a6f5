use Rattle.bit_fields.proofs.Fronts.{looked_front, none_front}
use Rattle.bit_fields.proofs.front.FrontSourceSource.look.Goals as goal

pub returns-in-Ok-clause-looks : goal.returns-in-Ok-clause-looks
returns-in-Ok-clause-looks g c =
    let asks = c.is_open.ensures c.if-not-is_open.false in
    rw (asks.1) (looked_front c.args.self.now.left c.args.self.now.pulls (g.S.Source.incoming c.args.self.now.source) (g.S.Source.incoming c.look.new.self) asks.2 c.in-Ok.ensures.looks)

pub returns-in-Err-clause-looks : goal.returns-in-Err-clause-looks
returns-in-Err-clause-looks g c =
    let asks = c.is_open.ensures c.if-not-is_open.false in
    rw (asks.1) (none_front c.args.self.now.left c.args.self.now.pulls (g.S.Source.incoming c.args.self.now.source) (g.S.Source.incoming c.look.new.self) asks.2 asks.0 c.in-Err.ensures.looks)
