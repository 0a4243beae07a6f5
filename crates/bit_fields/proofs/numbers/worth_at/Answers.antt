use Rattle.bit_fields.proofs.Chunks.{fits_at, too_wide_at}
use Rattle.bit_fields.proofs.numbers.worth_at.Goals as goal

pub returns-then-payload-place-eq0 : goal.returns-then-payload-place-eq0
returns-then-payload-place-eq0 c = fits_at c.args.payload c.args.place c.requires.few c.if-payload-place-eq0.true

pub returns-else-payload-place-eq0 : goal.returns-else-payload-place-eq0
returns-else-payload-place-eq0 c = too_wide_at c.args.payload c.args.place c.if-payload-place-eq0.false
