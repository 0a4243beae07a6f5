-- Additions to a row.
use Rattle.std.specs.Prelude.{◌+◌, if◌then◌else◌}
use Rattle.bit_grammar.specs.Tally.{BlockTally}
use Rattle.bit_grammar.specs.Counting.{one_block, more_bits, one_definition}
use Rattle.bit_scan.specs.CodesView.{with_use}
use Rattle.bit_scan.specs.declared.rows.Addition.{Addition}
use Rattle.bit_scan.specs.declared.rows.Addition.TheVariants as addition

-- a row with an addition
abbrev pub with_added : Addition → BlockTally → BlockTally
with_added addition.Block row = one_block row
with_added (addition.Bits bits) row = more_bits bits row
with_added addition.Definition row = one_definition row
with_added (addition.Record code abbreviated values bits) row = record row {
  records = row.records + 1;
  abbreviated = row.abbreviated + (if abbreviated then 1 else 0);
  values = row.values + values;
  codes = with_use code bits row.codes;
}
