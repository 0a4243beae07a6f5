use Rattle.std.proofs.Common.{◌++◌, codes, decimal}
use Rattle.std.proofs.lemmas.Result.{err_from_is_err_and}
use Rattle.bitstool.proofs.Putting.{front_of, text_then}
use Rattle.bitstool.proofs.outcome.put_too_long.Goals as goal

pub returns-in_err-put_all : goal.returns-in_err-put_all
returns-in_err-put_all g c =
    let p = err_from_is_err_and c.from_residual.result c.from_residual.ensures.1 in
    rw p.1 (front_of (codes "refused: normal form longer than ") (decimal c.args.limit ++ codes " bytes\n") (g.K.Sink.outgoing c.args.sink.now) (g.K.Sink.outgoing c.put_all.new.sink) c.in_err-put_all.ensures)

pub returns : goal.returns
returns g c =
    text_then (codes "refused: normal form longer than ") (decimal c.args.limit ++ codes " bytes\n") (g.K.Sink.outgoing c.args.sink.now) (g.K.Sink.outgoing c.put_all.new.sink) (g.K.Sink.outgoing c.put_number.new.sink) c.put_number.result
    c.in_ok-put_all.ensures c.put_number.ensures
