use Rattle.std.proofs.Common.{◌≡◌, ◌∙◌, decimal}
use Rattle.std.proofs.lemmas.Result.{err_from_is_err_and}
use Rattle.bitstool.proofs.Putting.{front_of, text_then}
use Rattle.bitstool.proofs.devices.put_number.Goals as goal

pub returns-in_err-put_all : goal.returns-in_err-put_all
returns-in_err-put_all g c =
    let p = err_from_is_err_and c.from_residual.result c.from_residual.ensures.1 in
    let is : c.as_bytes.result.now ≡ decimal c.args.number = c.as_bytes.ensures.value ∙ c.format.ensures.text in
    rw p.1 (front_of (decimal c.args.number) c.args.after.now (g.K.Sink.outgoing c.args.sink.now) (g.K.Sink.outgoing c.put_all.new.sink) (rw is at c.in_err-put_all.ensures))

pub returns : goal.returns
returns g c =
    let is : c.as_bytes.result.now ≡ decimal c.args.number = c.as_bytes.ensures.value ∙ c.format.ensures.text in
    text_then (decimal c.args.number) c.args.after.now (g.K.Sink.outgoing c.args.sink.now) (g.K.Sink.outgoing c.put_all.new.sink) (g.K.Sink.outgoing c.put_all-2.new.sink) c.put_all-2.result (rw is at c.in_ok-put_all.ensures) c.put_all-2.ensures
