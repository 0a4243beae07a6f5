use Rattle.std.proofs.Common.{◌++◌, sym, arith, length-append}
use Rattle.std.proofs.lemmas.List.{append-nil}
use Rattle.bit_norm.proofs.form_values.FormValuesValueTaker.truncate.Goals as goal

pub returns : goal.returns
returns c = λ values others was is.
    record {
      front = values;
      wide = was.wide;
      few = omega arith;
      whole = sym (append-nil values);
      count = omega (arith, is, c.count.ensures (values ++ others) was, length-append values others, c.min-self.ensures);
      holds = tt;
    }
