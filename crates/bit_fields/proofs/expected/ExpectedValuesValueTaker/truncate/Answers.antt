use Rattle.std.proofs.Common.{◌≡◌, ◌+◌, ◌-◌, min, arith}
use Rattle.bit_fields.proofs.Expecting.{came_first}
use Rattle.bit_fields.proofs.expected.ExpectedValuesValueTaker.truncate.Goals as goal

pub returns : goal.returns
returns c = λ values rest had count.
    let s = c.self.inside in
    let more : c.min-self-inside.result + 0 ≡ min c.taken.result (c.args.count - s.expected) = omega (arith, c.min-self-inside.ensures, c.saturating_sub.ensures) in
    came_first s.expected _ c.taken.result c.args.count c.min-self-inside-2.result (c.min-self-inside.result + 0) s.others.now values rest c.args.self.now c.self.view_is c.self.invariant.there c.self.invariant.few c.taken.ensures.is c.taken.ensures.within c.min-self-inside-2.ensures more had count
