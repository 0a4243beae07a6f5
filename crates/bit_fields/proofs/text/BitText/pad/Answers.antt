use Rattle.std.proofs.Common.{◌≡◌, Bool, false, List, ◌++◌, replicate, ap, ◌∙◌, subst}
use Rattle.std.specs.Prelude.{OnOk}
use Rattle.std.proofs.Common.{ℕ}
use Rattle.bit_grammar.specs.Fields.{padding_length}
use Rattle.bit_fields.proofs.WriterLaws.{zeros-replicate}
use Rattle.bit_fields.proofs.text.BitText.pad.Goals as goal

pub returns : goal.returns
returns c =
    let len = c.len.ensures in
    subst (λ (s : List Bool). OnOk c.fixed.result (c.fixed.new.self ≡ c.args.self.now ++ s)) (zeros-replicate _ ∙ ap (λ (n : ℕ). replicate (padding_length n) false) len) c.fixed.ensures
