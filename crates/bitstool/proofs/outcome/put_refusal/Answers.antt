use Rattle.std.proofs.Common.{◌++◌, Err, codes, decimal}
use Rattle.std.proofs.lemmas.Result.{err_from_is_err_and}
use Rattle.bitstool.specs.Outcome.{refused_at}
use Rattle.bitstool.proofs.Putting.{front_of, text_then}
use Rattle.bitstool.proofs.outcome.put_refusal.Goals as goal

pub returns-in_err-put_all : goal.returns-in_err-put_all
returns-in_err-put_all g c =
    let p = err_from_is_err_and c.from_residual.result c.from_residual.ensures.1 in
    rw p.1 (front_of c.args.start.now (refused_at c.args.reason.now c.args.place.now c.args.number) (g.K.Sink.outgoing c.args.sink.now) (g.K.Sink.outgoing c.put_all.new.sink) c.in_err-put_all.ensures)

pub returns-in_err-put_all-2 : goal.returns-in_err-put_all-2
returns-in_err-put_all-2 g c =
    let p = err_from_is_err_and c.from_residual-in_err-put_all-2.result c.from_residual-in_err-put_all-2.ensures.1 in
    let old = g.K.Sink.outgoing c.args.sink.now in
    let first = g.K.Sink.outgoing c.put_all.new.sink in
    let second = g.K.Sink.outgoing c.put_all-2.new.sink in
    rw p.1 (text_then c.args.start.now (refused_at c.args.reason.now c.args.place.now c.args.number) old first second (Err p.0) c.in_ok-put_all.ensures
    (front_of c.args.reason.now (c.args.place.now ++ (decimal c.args.number ++ codes "\n")) first second (rw c.as_bytes.ensures.value at c.in_err-put_all-2.ensures)))

pub returns-in_err-put_all-3 : goal.returns-in_err-put_all-3
returns-in_err-put_all-3 g c =
    let p = err_from_is_err_and c.from_residual-in_err-put_all-3.result c.from_residual-in_err-put_all-3.ensures.1 in
    let old = g.K.Sink.outgoing c.args.sink.now in
    let first = g.K.Sink.outgoing c.put_all.new.sink in
    let second = g.K.Sink.outgoing c.put_all-2.new.sink in
    let third = g.K.Sink.outgoing c.put_all-3.new.sink in
    rw p.1 (text_then c.args.start.now (refused_at c.args.reason.now c.args.place.now c.args.number) old first third (Err p.0) c.in_ok-put_all.ensures
    (text_then c.args.reason.now (c.args.place.now ++ (decimal c.args.number ++ codes "\n")) first second third (Err p.0) (rw c.as_bytes.ensures.value at c.in_ok-put_all-2.ensures)
    (front_of c.args.place.now (decimal c.args.number ++ codes "\n") second third c.in_err-put_all-3.ensures)))

pub returns : goal.returns
returns g c =
    let old = g.K.Sink.outgoing c.args.sink.now in
    let first = g.K.Sink.outgoing c.put_all.new.sink in
    let second = g.K.Sink.outgoing c.put_all-2.new.sink in
    let third = g.K.Sink.outgoing c.put_all-3.new.sink in
    let last = g.K.Sink.outgoing c.put_number.new.sink in
    text_then c.args.start.now (refused_at c.args.reason.now c.args.place.now c.args.number) old first last c.put_number.result c.in_ok-put_all.ensures
    (text_then c.args.reason.now (c.args.place.now ++ (decimal c.args.number ++ codes "\n")) first second last c.put_number.result (rw c.as_bytes.ensures.value at c.in_ok-put_all-2.ensures)
    (text_then c.args.place.now (decimal c.args.number ++ codes "\n") second third last c.put_number.result c.in_ok-put_all-3.ensures c.put_number.ensures))
