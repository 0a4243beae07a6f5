use Rattle.std.proofs.Common.{◌≤◌, arith, length, take, length-take}
use Rattle.bitstool.proofs.Looking.{begins_before}
use Rattle.bitstool.proofs.beginning.look_at.Goals as goal

pub returns-clause-like : goal.returns-clause-like
returns-clause-like g c =
    let count = c.min-count.result in
    let shown = c.lend-bytes.result.now in
    let few : length (take count shown) ≤ c.args.most = omega (arith, length-take count shown, c.min-count.ensures) in
    (take count shown, begins_before _ _ shown count c.in_ok-look.ensures.looks.bytes c.lend-bytes.ensures.front, few, c.beginning_of.ensures)
