use Rattle.bit_scan.proofs.Changes.{added_at}
use Rattle.bit_scan.proofs.rows.add_at.Goals as goal

pub returns : goal.returns
returns g c id tallies at shown =
    let row = c.pair_mut-row in
    added_at c.add.result c.args.rows.now.entries tallies id row.result.0.now c.args.place c.args.addition row.result.1.now c.add.new.self (c.add.ensures id) row.ensures.unique row.ensures.value at shown
