use Rattle.std.proofs.Common.{sym, subst}
use Rattle.bit_fields.specs.Placed.{HasNumbers}
use Rattle.bit_fields.specs.PlacedView.{loaded}
use Rattle.bit_fields.proofs.Placing.{has_sixes}
use Rattle.bit_fields.proofs.placed.LoadedBits.sixes.Goals as goal

pub returns : goal.returns
returns c =
    subst (HasNumbers 6 c.args.count (loaded c.args.self)) (sym c.from.ensures) (has_sixes c.args.count c.in_ok-len.len c.args.self.ends (loaded c.args.self) c.in_ok-len.ensures.some c.in_ok-len.ensures.most c.args.self.shows c.in_ok-len.ensures.last c.in_ok-len.ensures.reads)
