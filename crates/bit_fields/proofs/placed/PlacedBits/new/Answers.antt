use Rattle.std.proofs.Common.{arith}
use Rattle.std.proofs.lemmas.List.{length-append}
use Rattle.bit_grammar.specs.Bits.{bits_of, bits_of_bytes}
use Rattle.bit_grammar.proofs.Bits.Numbers.{length-bits_of}
use Rattle.bit_fields.proofs.BitLaws.{length-bits_of_bytes}
use Rattle.bit_fields.proofs.Placing.{placed_new}
use Rattle.bit_fields.proofs.placed.PlacedBits.new.Goals as goal

pub invariant_of-result : goal.invariant_of-result
invariant_of-result c =
    let p = c.args.buffered_parts in
    record { there = omega (arith, length-append (bits_of p.held p.word) (bits_of_bytes p.bytes.now), length-bits_of p.held p.word, length-bits_of_bytes p.bytes.now); fits = omega arith }

pub returns : goal.returns
returns c =
    let p = c.args.buffered_parts in
    (omega arith, placed_new p.word p.held p.position c.from.result c.args.position p.bytes.now c.from.ensures c.if-position-start.false)
