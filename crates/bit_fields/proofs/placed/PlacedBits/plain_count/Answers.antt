use Rattle.std.proofs.Common.{arith, refl, subst}
use Rattle.bit_fields.specs.Buffered.{BufferedBits}
use Rattle.bit_fields.specs.SixBits.{HasCount}
use Rattle.bit_fields.specs.PlacedView.{loaded}
use Rattle.bit_fields.proofs.Placing.{length_at}
use Rattle.bit_fields.proofs.PlainPlaces.{count_there}
use Rattle.bit_fields.proofs.placed.PlacedBits.plain_count.Goals as goal

pub returns-in-Some-short_six : goal.returns-in-Some-short_six
returns-in-Some-short_six c =
    let code = c.in-Some.field-0-0 in
    let count = c.in-Some-short_six.count in
    let behind = loaded c.in-Some.behind in
    subst (λ (a : BufferedBits). HasCount a count) c.load-first.ensures (count_there code count (loaded c.load-first.result) behind behind (loaded c.in-Some-short_six.field-0-1) refl c.in-Some.ensures.reads c.in-Some-short_six.ensures.reads)

pub far_count-requires-clause-there : goal.far_count-requires-clause-there
far_count-requires-clause-there c = omega (arith, c.requires, length_at c.args.self.at c.args.self.bytes.now)
