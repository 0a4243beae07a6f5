use Rattle.std.proofs.Common.{◌≡◌, ℕ, ◌-◌, subst, arith}
use Rattle.bit_fields.specs.Placed.{HasNumbers}
use Rattle.bit_fields.specs.PlacedView.{placed}
use Rattle.bit_fields.proofs.placed.PlacedBits.all_sixes.Goals as goal

pub more_sixes-requires-clause-has : goal.more_sixes-requires-clause-has
more_sixes-requires-clause-has c = c.pass_sixes-at.ensures.has c.args.self.start

pub returns : goal.returns
returns c =
    let all : c.args.count - c.pass_sixes-at.result.1 ≡ c.args.count = omega arith in
    subst (λ (n : ℕ). HasNumbers 6 n (placed c.args.self) (c.pass_sixes-at.result.0 - c.args.self.at)) all (c.pass_sixes-at.ensures.has c.args.self.start)
