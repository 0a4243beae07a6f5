use Rattle.bit_grammar.specs.Blocks as blocks
use Rattle.bit_c.specs.Assembling.{FailsListing, IsFormOf}
use Rattle.bit_c.specs.Handing.{HandsText, LeavesRoom}
use Rattle.bit_c.specs.Limiting.{limits_told}
use Rattle.bit_c.proofs.Inputs.{within}
use Rattle.bit_c.proofs.assembling.assemble_within.Goals as goal

pub returns-in-Some : goal.returns-in-Some
returns-in-Some c =
    within c.in-Some.limits (limits_told c.args.limits.now) (LeavesRoom c.args.room.now c.give_assembled.new.needed c.give_assembled.new.room)
    (λ (l : blocks.Limits). HandsText (IsFormOf l c.args.text.now) (FailsListing l c.args.text.now) c.args.room.now c.give_assembled.new.needed c.give_assembled.new.room) c.give_assembled.result c.in-Some.ensures.0 c.in-Some.ensures.1
    c.give_assembled.ensures
