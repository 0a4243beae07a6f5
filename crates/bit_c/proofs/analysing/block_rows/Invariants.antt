use Rattle.std.proofs.Common.{◌≡◌, ◌++◌, map}
use Rattle.bit_scan.specs.Rows.{block_tallies}
use Rattle.bit_c.specs.Rows.{row_told}
use Rattle.bit_c.proofs.analysing.block_rows.Given as goal

abbrev pub invariant-loop-id : goal.invariant-loop-id
invariant-loop-id l = map row_told (block_tallies l.rows.entries) ≡ l.out.items ++ map row_told (block_tallies l.id-iterator)
