use Rattle.std.proofs.Common.{Bool, List, ◌++◌, ap, ◌∙◌, arith}
use Rattle.std.proofs.lemmas.Result.{on_ok_weaker}
use Rattle.bit_norm.proofs.Building.{record_joined}
use Rattle.bit_norm.proofs.form_builder.add_record.Goals as goal

pub append-requires : goal.append-requires
append-requires c = omega (arith, c.requires.few, c.requires.short, c.in_ok-add_record_head.ensures.few)

pub returns : goal.returns
returns c =
    on_ok_weaker c.append.result
    (λ moved list count_is values_is. record_joined c.args.text.now c.add_record_head.new.text c.append.new.self c.args.code c.args.count list c.in_ok-add_record_head.ensures.ok count_is (moved ∙ ap (λ (s : List Bool). c.add_record_head.new.text ++ s) values_is))
    c.append.ensures.moved
