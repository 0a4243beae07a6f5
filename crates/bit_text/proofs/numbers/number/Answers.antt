use Rattle.std.proofs.Common.{sym, ◌∙◌}
use Rattle.bit_text.proofs.Spelling.{too_short, not_zero_first}
use Rattle.bit_text.proofs.numbers.number.Goals as goal

pub returns-then-word-lt2 : goal.returns-then-word-lt2
returns-then-word-lt2 c = c.digits.ensures ∙ sym (too_short c.args.word.now c.if-word-lt2.true)

pub returns-then-word-ne48 : goal.returns-then-word-ne48
returns-then-word-ne48 c = c.digits-then-word-ne48.ensures ∙ sym (not_zero_first c.args.word.now c.if-word-ne48.true)
