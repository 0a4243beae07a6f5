use Rattle.std.proofs.Common.{sym, ◌∙◌, ap, []}
use Rattle.bit_text.specs.Listings.{begun, behind_magic}
use Rattle.bit_text.proofs.Tellings.{begun_at, told_none}
use Rattle.bit_text.proofs.telling.begin.Goals as goal

pub returns-in-Some-new : goal.returns-in-Some-new
returns-in-Some-new c = (
  behind_magic c.in-Some.magic [],
  ap begun (sym c.in-Some.ensures) ∙ begun_at c.args.limits c.in-Some.magic c.in-Some-new.begun c.in-Some-new.ensures,
  told_none c.args.limits c.in-Some.magic c.in-Some-new.begun c.in-Some-new.ensures,
)
