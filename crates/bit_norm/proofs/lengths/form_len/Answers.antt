use Rattle.std.proofs.Common.{◌≤◌, ◌/◌, ap, sym, ◌∙◌, arith}
use Rattle.bit_grammar.specs.Forest.{Forest}
use Rattle.bit_grammar.specs.Size.{end_of}
use Rattle.bit_grammar.specs.Bits.{saturated}
use Rattle.bit_norm.proofs.Ends.{size_fits, size_passes}
use Rattle.bit_norm.proofs.lengths.form_len.Goals as goal

pub returns-then-bytes-clause-len : goal.returns-then-bytes-clause-len
returns-then-bytes-clause-len c =
    λ tree is.
    let counted = c.end_of_blocks-bytes.ensures ∙ ap (λ (f : Forest). saturated (end_of f 32)) (sym is) in
    let within : c.end_of_blocks-bytes.result / 8 ≤ c.args.limits.bytes = omega arith in
    (size_fits tree c.end_of_blocks-bytes.result c.args.limits.bytes counted c.bytes.ensures.capped.bytes within, within)

pub returns-else-bytes-clause-len : goal.returns-else-bytes-clause-len
returns-else-bytes-clause-len c =
    λ tree is.
    let counted = c.end_of_blocks-bytes.ensures ∙ ap (λ (f : Forest). saturated (end_of f 32)) (sym is) in
    size_passes tree c.end_of_blocks-bytes.result c.args.limits.bytes counted (omega arith)
