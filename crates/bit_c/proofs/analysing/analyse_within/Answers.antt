use Rattle.std.proofs.Common.{◌≡◌}
use Rattle.bit_grammar.specs.Blocks as blocks
use Rattle.bit_c.specs.Limiting.{limits_told}
use Rattle.bit_c.specs.Rows.{Analyses, LeavesRows, no_tally}
use Rattle.bit_c.proofs.Inputs.{within}
use Rattle.bit_c.proofs.analysing.analyse_within.Goals as goal

pub returns-in-Some : goal.returns-in-Some
returns-in-Some c =
    let n = c.analyse_under.new in
    within c.in-Some.limits (limits_told c.args.limits.now) ((n.tally ≡ no_tally) × LeavesRows c.args.block_room.now n.block_room c.args.code_room.now n.code_room)
    (λ (l : blocks.Limits). Analyses l c.args.bytes.now n.tally c.args.block_room.now n.block_room c.args.code_room.now n.code_room) c.analyse_under.result c.in-Some.ensures.0 c.in-Some.ensures.1 c.analyse_under.ensures
