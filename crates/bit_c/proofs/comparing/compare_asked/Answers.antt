use Rattle.std.specs.Prelude.{⊤}
use Rattle.bit_grammar.specs.Setting.{Setting, setting_of}
use Rattle.bit_grammar.specs.Blocks as blocks
use Rattle.bit_c.specs.Comparing.{Sames}
use Rattle.bit_c.specs.Limiting.{limits_told}
use Rattle.bit_c.proofs.Inputs.{as_asked}
use Rattle.bit_c.proofs.comparing.compare_asked.Goals as goal

pub returns-in-Ok : goal.returns-in-Ok
returns-in-Ok c =
    as_asked (limits_told c.args.limits.now) c.args.left_out.now c.in-Ok.asked (setting_of c.setting.result) ⊤ (λ (l : blocks.Limits) (s : Setting). Sames s l c.args.first.now c.args.second.now) c.compare.result
    c.in-Ok.ensures c.setting.ensures c.compare.ensures
