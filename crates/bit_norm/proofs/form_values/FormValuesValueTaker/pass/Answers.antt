use Rattle.std.proofs.Common.{◌≡◌, ℕ, List, ◌++◌, take, ap, sym, ◌∙◌, arith, length-append}
use Rattle.std.proofs.lemmas.List.{append-nil}
use Rattle.bit_norm.proofs.ValueTexts.{all_text, holds_more}
use Rattle.bit_norm.proofs.form_values.FormValuesValueTaker.pass.Goals as goal

pub returns-clause-yes : goal.returns-clause-yes
returns-clause-yes c = λ yes values others was len.
    let old = c.args.self.now in
    let none : old.held ≡ 0 = omega arith in
    let is : values ≡ was.front = all_text old values none was in
    record {
      front = was.front ++ others;
      wide = was.wide;
      few = was.few;
      whole = ap (λ (vs : List ℕ). vs ++ others) is ∙ sym (append-nil (was.front ++ others)) ∙ ap (λ (n : ℕ). (was.front ++ others) ++ take n old.numbers) (sym none);
      count = omega (arith, c.saturating_add-self.ensures, was.count, length-append was.front others, len);
      holds = holds_more old.limits.bytes old.text was.front others old.holding c.in_default.not-All was.holds;
    }
