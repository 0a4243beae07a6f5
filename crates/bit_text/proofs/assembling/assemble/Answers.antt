use Rattle.bit_text.specs.Listings.{at_start}
use Rattle.bit_text.proofs.Sources.{Fresh, fresh_at, assembled, not_assembled}
use Rattle.bit_text.proofs.assembling.assemble.Goals as goal

pub returns-in-Ok : goal.returns-in-Ok
returns-in-Ok g c =
    let a = c.new-assembler.result in
    let fresh : Fresh c.args.limits a = record {
      here = c.new-assembler.ensures.at;
      under = c.new-assembler.ensures.limits;
      number = c.new-assembler.ensures.number;
      line = c.new-assembler.ensures.line;
    } in
    assembled c.args.limits (g.S.Source.incoming c.args.source) (g.S.Source.incoming c.take_all.new.source) (g.K.Sink.outgoing c.args.sink) (g.K.Sink.outgoing c.finish-answer.result.1) a c.take_all.new.assembler c.finish-answer.result.0 fresh
    (c.in-Ok.ensures at_start (fresh_at c.args.limits a fresh)) c.finish-answer.ensures

pub returns-in-Err : goal.returns-in-Err
returns-in-Err g c =
    let a = c.new-assembler.result in
    let fresh : Fresh c.args.limits a = record {
      here = c.new-assembler.ensures.at;
      under = c.new-assembler.ensures.limits;
      number = c.new-assembler.ensures.number;
      line = c.new-assembler.ensures.line;
    } in
    not_assembled c.args.limits (g.S.Source.incoming c.args.source) (g.S.Source.incoming c.take_all.new.source) (g.K.Sink.outgoing c.args.sink) a c.take_all.new.assembler c.in-Err.fault fresh
    (c.in-Err.ensures at_start (fresh_at c.args.limits a fresh))
