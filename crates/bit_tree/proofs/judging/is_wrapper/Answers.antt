use Rattle.std.proofs.Common.{◌≡◌, sym, ◌∙◌, arith, rules}
use Rattle.std.proofs.lemmas.Bool.{eq-eqb, eqb-true}
use Rattle.bit_fields.specs.Opening.{magic_number}
use Rattle.bit_tree.proofs.Magics.{magic_is}
use Rattle.bit_tree.proofs.judging.is_wrapper.Goals as goal

pub returns-clause-fits : goal.returns-clause-fits
returns-clause-fits c = omega (arith, c.from_le_bytes.ensures, magic_is c.args.magic (search rules) (search rules))

pub returns-clause-wrapper : goal.returns-clause-wrapper
returns-clause-wrapper c =
    let same : c.from_le_bytes.result ≡ magic_number c.args.magic = c.from_le_bytes.ensures ∙ magic_is c.args.magic (search rules) (search rules) in
    let widened : c.from.result ≡ magic_number c.args.magic = c.from.ensures ∙ same in
    (λ t. sym widened ∙ eqb-true _ _ t, λ e. eq-eqb _ _ (widened ∙ e))
