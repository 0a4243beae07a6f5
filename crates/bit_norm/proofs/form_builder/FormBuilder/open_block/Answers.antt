use Rattle.std.proofs.Common.{◌≡◌, ℕ, ◌/◌, Bool, List, [], ◌∷◌, ◌++◌, length, ap, sym, ◌∙◌}
use Rattle.std.proofs.lemmas.Result.{on_ok_weaker}
use Rattle.bit_grammar.specs.Bits.{bits_of}
use Rattle.bit_grammar.specs.Machine.{enters}
use Rattle.bit_norm.specs.Writing.{enter_text}
use Rattle.bit_norm.proofs.Building.{formed, builds_block, now_passed}
use Rattle.bit_norm.proofs.form_builder.FormBuilder.open_block.Goals as goal

pub returns-then-is_long-clause-form : goal.returns-then-is_long-clause-form
returns-then-is_long-clause-form c = λ done opened id was short.
    now_passed c.args.self.now c.stop.new.self done (enters opened) was short (c.is_long.ensures.yes c.if-is_long.true) c.stop.ensures.limits c.stop.ensures.long

pub returns-clause-form : goal.returns-clause-form
returns-clause-form c =
    let old = c.args.self.now in
    on_ok_weaker c.fixed.result
    (λ added done opened id was short.
    let head : c.add_head.new.text ≡ old.text ++ enter_text opened.id (length old.text) = c.in_ok-add_head.ensures ∙ ap (λ (n : ℕ). old.text ++ enter_text n (length old.text)) (sym id) in
    formed old.limits.bytes (done ++ enters opened ∷ []) c.fixed.new.self c.push.new.self.items old.long short
    (builds_block done old.text old.holes.items (was.builds short) opened c.fixed.new.self c.push.new.self.items (added ∙ ap (λ (s : List Bool). s ++ bits_of 32 0) head) (c.in_ok-push.ensures.items ∙ ap (λ (n : ℕ). old.holes.items ++ (n / 32) ∷ []) (c.len.ensures ∙ ap length head))))
    c.fixed.ensures
