use Rattle.std.proofs.Common.{◌≡◌, ℕ, ◌+◌, ◌*◌, ◌-◌, ◌/◌, Bool, List, ◌++◌, length, refl, ap, ◌∙◌, arith, length-append}
use Rattle.bit_grammar.specs.Normal.{end_text}
use Rattle.bit_fields.specs.Texts.{with_word}
use Rattle.bit_norm.proofs.Building.{end_parts}
use Rattle.bit_norm.proofs.form_builder.close_block.Goals as goal

counted_words : (len all hole words n : ℕ) → len ≡ all → 32 * (hole + 1 + words) ≡ all → n ≡ len / 32 - (hole + 1) → n ≡ words
counted_words len all hole words n is counted n_is = omega (arith, is, counted, n_is)

pub returns : goal.returns
returns c =
    let text = c.args.text.now in
    let end = end_text (length text) in
    let whole : c.pad.new.self ≡ text ++ end = end_parts text c.fixed.new.self c.pad.new.self c.in_ok-fixed.ensures c.in_ok-pad.ensures in
    λ words counted.
    c.set_word.ensures ∙ ap (λ (n : ℕ). with_word c.args.hole n c.pad.new.self) (counted_words c.len.result (length text + length end) c.args.hole words _ (c.len.ensures ∙ ap length whole ∙ length-append text end) counted refl) ∙ ap (λ (s : List Bool). with_word c.args.hole words s) whole
