use Rattle.bit_c.specs.Limiting.{limits_told}
use Rattle.bit_c.proofs.Deep.{asked_within}
use Rattle.bit_c.proofs.comparing.bs_first_difference.Goals as goal

pub returns-clause-depth : goal.returns-clause-depth
returns-clause-depth c =
    let n = c.find_asked.new in
    asked_within (limits_told c.args.limits.now) c.args.left_out.now c.args.first.now c.args.second.now n.difference c.args.open_room.now n.open_room c.find_asked.result c.find_asked.ensures
