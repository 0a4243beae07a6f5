use Rattle.std.proofs.Common.{◌≡◌, ◌∙◌, [], ◌∷◌, ◌++◌, ap, sym, append_assoc, codes, rules}
use Rattle.std.specs.Prelude.{string_bytes}
use Rattle.clap.specs.Words.{Text}
use Rattle.bitstool.proofs.parse.text_of_error.Goals as goal

pub returns : goal.returns
returns c =
    let text = string_bytes c.in_ok-text.text in
    let line = c.in_ok-text.ensures.0 in
    let is : string_bytes c.in_ok-format.field-0 ≡ codes "error: " ++ text = search rules in
    let ends = is ∙ ap (λ (t : Text). codes "error: " ++ t) line.1 ∙ sym (append_assoc (codes "error: ") line.0 (10 ∷ [])) in
    (search rules, ((text, is), (codes "error: " ++ line.0, ends)))
