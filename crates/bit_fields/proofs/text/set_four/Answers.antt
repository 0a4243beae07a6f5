use Rattle.std.proofs.Common.{◌+◌, List, ℕ, [], ◌∷◌, ◌++◌, take, drop, get_or, ap, ◌∙◌}
use Rattle.bit_fields.proofs.Texts.{four_set}
use Rattle.bit_fields.proofs.text.set_four.Goals as goal

pub returns : goal.returns
returns c =
    let bytes = c.args.bytes.now.items in
    let at = c.args.at in
    four_set bytes at _ _ _ _ c.requires ∙ ap (λ (r : List ℕ). take at bytes ++ (get_or r 0 0 ∷ get_or r 1 0 ∷ get_or r 2 0 ∷ get_or r 3 0 ∷ [] ++ drop (at + 4) bytes)) c.to_le_bytes-four.ensures
