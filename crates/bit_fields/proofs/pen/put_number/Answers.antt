use Rattle.bit_grammar.specs.Bits.{bits_of}
use Rattle.bit_grammar.specs.FormatFields.{shortest}
use Rattle.bit_fields.proofs.Pens.{chunks_are, puts_as}
use Rattle.bit_fields.proofs.pen.put_number.Goals as goal
use Rattle.bit_fields.proofs.pen.put_number.Goals.{then-value-lt1024, else-value-lt1024+then-value}

pub returns : goal.returns
returns c =
    let chunks = c.if-value-lt1024.chunks in
    puts_as (bits_of chunks.1 chunks.0) (shortest 6 c.args.value) c.args.at c.put.result c.args.bytes.now c.put.new.bytes (elim c.if-value-lt1024.branch [
      | then-value-lt1024 w ↦ chunks_are c.args.value chunks w.short_chunks.result w.chunks-is w.short_chunks.ensures.spelled
      | else-value-lt1024+then-value w ↦ chunks_are c.args.value chunks w.some_chunks.result w.chunks-is w.some_chunks.ensures.spelled
    ]) c.put.ensures
