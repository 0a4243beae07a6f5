use Rattle.bit_c.specs.Limiting.{limits_told}
use Rattle.bit_c.specs.Opened.{gathered_by}
use Rattle.bit_c.proofs.Deep.{fed_within}
use Rattle.bit_c.proofs.feeding_two.bs_fed_first_difference.Goals as goal

pub returns-clause-depth : goal.returns-clause-depth
returns-clause-depth c =
    let n = c.find_of.new in
    fed_within (limits_told c.args.limits.now) c.args.left_out.now (gathered_by c.args.first.now.inner.home) (gathered_by c.args.second.now.inner.home) n.difference c.args.open_room.now n.open_room c.find_of.result c.find_of.ensures.tells
