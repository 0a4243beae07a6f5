use Rattle.std.proofs.Common.{ℕ, [], ◌∷◌, ◌++◌, ap, sym, ◌∙◌}
use Rattle.std.proofs.lemmas.Result.{on_ok_weaker}
use Rattle.bit_grammar.specs.Machine.{notes}
use Rattle.bit_norm.specs.Writing.{record_text}
use Rattle.bit_norm.proofs.ValueTexts.{held_count, held_text}
use Rattle.bit_norm.proofs.Building.{formed, builds_record, record_passes, values_pass}
use Rattle.bit_norm.proofs.form_builder.FormBuilder.add_long.Goals as goal

pub returns-then-is_past-clause-form : goal.returns-then-is_past-clause-form
returns-then-is_past-clause-form c = λ done mark code took was short some.
    record_passes c.args.self.now c.stop.new.self done mark was short some (values_pass c.args.self.now.text mark.code mark.values c.args.self.now.limits.bytes (c.is_past.ensures.yes c.if-is_past.true mark.values (c.settle.ensures.took mark.values took))) c.stop.ensures.limits c.stop.ensures.long

pub returns-clause-form : goal.returns-clause-form
returns-clause-form c =
    let old = c.args.self.now in
    let values = c.settle.new.self in
    let held = c.is_held.ensures c.if-not-is_held.false in
    let text = c.in_ok-settle.ensures.ok in
    on_ok_weaker c.add_record.result
    (λ added done mark code took was short some.
    let took_all = c.settle.ensures.took mark.values took in
    formed old.limits.bytes (done ++ notes mark ∷ []) c.add_record.new.text old.holes.items old.long short
    (builds_record done old.text old.holes.items (was.builds short) mark c.add_record.new.text some (added mark.values (held_count values mark.values held text (c.is_past.ensures.few c.if-is_past.false held) took_all) (held_text values mark.values held text took_all) ∙ ap (λ (n : ℕ). old.text ++ record_text n mark.values 0) (sym code))))
    c.add_record.ensures
