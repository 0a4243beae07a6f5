use Rattle.std.proofs.Common.{◌≡◌, ℕ, List, ◌++◌, take, ap, sym, subst, ◌∙◌, arith}
use Rattle.std.proofs.lemmas.List.{append-nil}
use Rattle.bit_norm.specs.Building.{HoldsText}
use Rattle.bit_norm.specs.declared.form_values.Holding.{Holding}
use Rattle.bit_norm.proofs.form_values.FormValues.settle.Goals as goal

pub returns-clause-took : goal.returns-clause-took
returns-clause-took c = λ values was.
    let old = c.args.self.now in
    let all : c.min.result ≡ old.held = omega (arith, c.min.ensures, was.few) in
    record {
      front = values;
      wide = was.wide;
      few = omega arith;
      whole = sym (append-nil values);
      count = c.count-count.ensures values was;
      holds = subst (λ (vs : List ℕ). HoldsText c.add_values.new.holding c.add_values.new.text old.limits.bytes vs) (ap (λ (n : ℕ). was.front ++ take n old.numbers) all ∙ sym was.whole) (c.in_ok-add_values.ensures.ok was.front was.holds);
    }

pub returns-in_err-add_values-clause-took : goal.returns-in_err-add_values-clause-took
returns-in_err-add_values-clause-took c = λ values was.
    record {
      front = was.front;
      wide = was.wide;
      few = was.few;
      whole = was.whole;
      count = was.count;
      holds = subst (λ (h : Holding). HoldsText h c.add_values.new.text c.args.self.now.limits.bytes was.front) (sym c.in_err-add_values.ensures.err) tt;
    }
