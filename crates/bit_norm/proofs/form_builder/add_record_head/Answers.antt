use Rattle.std.proofs.Common.{length, ap, arith, length-append}
use Rattle.std.proofs.lemmas.Result.{on_ok_weaker}
use Rattle.bit_norm.specs.Writing.{record_front}
use Rattle.bit_norm.proofs.ValueTexts.{front_few}
use Rattle.bit_norm.proofs.form_builder.add_record_head.Goals as goal

pub returns-clause-few : goal.returns-clause-few
returns-clause-few c =
    on_ok_weaker c.record_front.result (λ added. omega (arith, ap length added, length-append c.args.text.now (record_front c.args.code c.args.count), front_few c.args.code c.args.count)) c.record_front.ensures
