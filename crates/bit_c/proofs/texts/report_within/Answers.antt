use Rattle.bit_grammar.specs.Blocks as blocks
use Rattle.bit_grammar.specs.Setting.{keep}
use Rattle.bit_c.specs.Handing.{LeavesRoom}
use Rattle.bit_c.specs.Limiting.{limits_told}
use Rattle.bit_c.specs.Texts.{GivesText}
use Rattle.bit_c.specs.declared.texts.Text.TheVariants.{Report}
use Rattle.bit_c.proofs.Inputs.{within}
use Rattle.bit_c.proofs.texts.report_within.Goals as goal

pub returns-in-Some : goal.returns-in-Some
returns-in-Some c =
    within c.in-Some.limits (limits_told c.args.limits.now) (LeavesRoom c.args.room.now c.give.new.needed c.give.new.room)
    (λ (l : blocks.Limits). GivesText (Report c.args.keys) keep l c.args.bytes.now c.args.room.now c.give.new.needed c.give.new.room) c.give.result c.in-Some.ensures.0 c.in-Some.ensures.1 c.give.ensures
