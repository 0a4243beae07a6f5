use Rattle.bit_c.specs.Assembling.{FailsListing, IsFormOf}
use Rattle.bit_c.proofs.Handed.{handed}
use Rattle.bit_c.proofs.assembling.give_assembled.Goals as goal

pub returns : goal.returns
returns c =
    handed (IsFormOf c.args.limits c.args.text.now) (FailsListing c.args.limits c.args.text.now) c.assembled_of-outcome.result.0 _ c.args.room.now c.hand.new.room c.hand.new.needed c.hand.result tt c.assembled_of-outcome.ensures c.hand.ensures
