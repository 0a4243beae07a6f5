use Rattle.bit_scan.proofs.Changes.{use_at}
use Rattle.bit_scan.proofs.rows.count_at.Goals as goal

pub returns : goal.returns
returns g c code tallies at shown =
    let row = c.pair_mut-row in
    use_at c.args.rows.now.entries tallies code row.result.0.now c.args.bits c.args.place row.result.1.now c.add.new.self c.add.ensures.count c.add.ensures.bits row.ensures.unique row.ensures.value at shown
