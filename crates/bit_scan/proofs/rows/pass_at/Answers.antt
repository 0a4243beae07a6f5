use Rattle.bit_fields.specs.PlacedView.{placed}
use Rattle.bit_events.specs.Passing.{PassesRecords}
use Rattle.bit_scan.proofs.PassedRows.{run_passed}
use Rattle.bit_scan.proofs.rows.pass_at.Goals as goal

pub returns : goal.returns
returns g c =
    let row = c.pair_mut-row in
    run_passed (PassesRecords c.args.width c.args.definitions.now.all c.args.room (placed c.args.bits)) c.pass.result c.args.rows.now.entries row.result.0.now c.args.place row.result.1.now c.pass.new.self row.ensures.unique row.ensures.value c.pass.ensures
