use Rattle.std.proofs.Common.{refl, sym, ◌∙◌}
use Rattle.bit_fields.specs.Opening.{head_told}
use Rattle.bit_norm.specs.InFront.{other_magic}
use Rattle.bit_norm.proofs.Comparisons.{magics_seen}
use Rattle.bit_norm.proofs.in_step.conclude.Goals as goal

pub returns-then-number_of_magic : goal.returns-then-number_of_magic
returns-then-number_of_magic c =
    other_magic (λ e. c.if-number_of_magic.true (c.number_of_magic.ensures.magic ∙ e ∙ sym c.number_of_magic-2.ensures.magic)) _ refl
    (magics_seen (head_told c.args.first.now) (head_told c.args.folded.head) c.magic_standing.result c.magic_standing-then-number_of_magic.result c.magic_standing.ensures c.magic_standing-then-number_of_magic.ensures)
