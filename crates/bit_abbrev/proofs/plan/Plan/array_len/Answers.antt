use Rattle.std.proofs.Common.{subst, ◌≤◌, length}
use Rattle.bit_fields.specs.Buffered.{BufferedBits}
use Rattle.bit_fields.specs.PlacedView.{loaded}
use Rattle.bit_abbrev.specs.Plans.{HasArray}
use Rattle.bit_abbrev.proofs.PassedRecords.{short_number}
use Rattle.bit_abbrev.proofs.plan.Plan.array_len.Goals as goal

pub returns : goal.returns
returns c = record {
  has = λ tail has. subst (λ (b : BufferedBits). HasArray tail c.in_ok-count.count b c.in_ok-elements_len.field-0) c.load-first.ensures (c.in_ok-elements_len.ensures.has tail has);
  within = subst (λ (b : BufferedBits). c.in_ok-elements_len.field-0 ≤ length b.bits) c.load-first.ensures c.in_ok-elements_len.ensures.within;
  few = short_number (loaded c.load-first.result) c.in_ok-count.count (loaded c.in_ok-count.elements) c.in_ok-count.ensures.reads c.in_ok-count.ensures.bits;
}
