use Rattle.std.proofs.Common.{◌≡◌, ◌++◌}
use Rattle.bit_scan.specs.Rows.{block_tallies}
use Rattle.bit_c.specs.Rows.{codes_told}
use Rattle.bit_c.proofs.analysing.code_rows.Given as goal

abbrev pub invariant-loop-row : goal.invariant-loop-row
invariant-loop-row l = codes_told (block_tallies l.rows.entries) ≡ l.out.items ++ codes_told (block_tallies l.row-iterator)
