use Rattle.std.proofs.Common.{arith, refl, rules}
use Rattle.bit_scan.proofs.PassedRows.{none_counted, row_counted}
use Rattle.bit_scan.proofs.rows.BlockRow.pass.Goals as goal

pub pass_records-requires-clause-none : goal.pass_records-requires-clause-none
pass_records-requires-clause-none g c = none_counted _ (omega arith) (omega arith)

pub overflow_sub-room : goal.overflow_sub-room
overflow_sub-room g c = c.in-Ok.ensures.passes.2.less

pub returns-in-Ok : goal.returns-in-Ok
returns-in-Ok g c =
    let passed = c.in-Ok.ensures.passes in (
      passed.0,
      row_counted passed.0 _ c.pass_records.new.counter _ _ (record c.pass_records.new.counter.row { now = c.add_run.new.self }) _ passed.1 refl refl passed.2.spent refl c.add_run.ensures (search rules),
      passed.2,
    )
