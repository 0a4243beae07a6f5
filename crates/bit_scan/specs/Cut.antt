-- Numbers as the code counts them: they saturate at the greatest number of 64 bits.
use Rattle.bit_grammar.specs.Bits.{saturated}
use Rattle.std.specs.Prelude.{List, map}
use Rattle.bit_grammar.specs.Tally.{CodeTally, BlockTally}
use Rattle.bit_grammar.specs.Counting.{OpenCount, Counts}

-- ---- saturated numbers

abbrev pub cut_code : CodeTally → CodeTally
cut_code row = record { code = row.code; count = saturated row.count; bits = saturated row.bits }

abbrev pub cut_row : BlockTally → BlockTally
cut_row row = record {
  id = row.id;
  blocks = saturated row.blocks;
  bits = saturated row.bits;
  definitions = saturated row.definitions;
  records = saturated row.records;
  abbreviated = saturated row.abbreviated;
  values = saturated row.values;
  codes = map cut_code row.codes;
}

abbrev pub cut_rows : List BlockTally → List BlockTally
cut_rows rows = map cut_row rows

abbrev pub cut_open : OpenCount → OpenCount
cut_open b = record { id = b.id; first = b.first; inside = saturated b.inside }

abbrev pub capped_counts : Counts → Counts
capped_counts c = record { rows = cut_rows c.rows; around = map cut_open c.around }
