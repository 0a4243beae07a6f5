use Rattle.std.proofs.Common.{◌≡◌}
use Rattle.bit_grammar.specs.Setting.{Setting, setting_of}
use Rattle.bit_grammar.specs.Blocks as blocks
use Rattle.bit_c.specs.Differing.{Differences, no_difference}
use Rattle.bit_c.specs.Limiting.{limits_told}
use Rattle.bit_c.proofs.Inputs.{as_asked}
use Rattle.bit_c.proofs.comparing.find_asked.Goals as goal

pub returns-in-Ok : goal.returns-in-Ok
returns-in-Ok c =
    let n = c.find.new in let room = c.args.open_room.now in
    as_asked (limits_told c.args.limits.now) c.args.left_out.now c.in-Ok.asked (setting_of c.setting-info.result) ((n.difference ≡ no_difference) × (n.open_room ≡ room))
    (λ (l : blocks.Limits) (s : Setting). Differences s l c.args.first.now c.args.second.now n.difference room n.open_room) c.find.result c.in-Ok.ensures c.setting-info.ensures c.find.ensures
