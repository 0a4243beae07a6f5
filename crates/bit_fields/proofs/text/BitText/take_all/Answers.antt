use Rattle.std.proofs.Common.{length, take, arith, ap, length-append}
use Rattle.bit_grammar.specs.Bits.{bits_of_bytes}
use Rattle.bit_fields.specs.Texts.{bits_of_chunks}
use Rattle.bit_fields.proofs.Texts.{taken-length, fewer_text}
use Rattle.bit_fields.proofs.text.BitText.take_all.Goals as goal

pub take_chunks-requires-clause-room : goal.take_chunks-requires-clause-room
take_chunks-requires-clause-room c =
    let b = c.other.inside.bits in
    omega (arith, c.requires, ap length c.other.view_is, length-append (bits_of_chunks b.full.items) (take b.at (bits_of_bytes b.last.items)))

pub add_bits-requires-clause-room : goal.add_bits-requires-clause-room
add_bits-requires-clause-room c =
    let b = c.other.inside.bits in
    omega (arith, c.requires, ap length c.other.view_is, length-append (bits_of_chunks b.full.items) (take b.at (bits_of_bytes b.last.items)), taken-length b.at b.last.items c.other.invariant.0.there, ap length c.in_ok-take_chunks.ensures.moved, length-append c.args.self.now (bits_of_chunks b.full.items))

pub invariant_of-other : goal.invariant_of-other
invariant_of-other c =
    let b = c.other.inside.bits in
    fewer_text b.full.items c.take_chunks.new.chunks.items b.last.items b.at c.other.invariant.0 c.take_chunks.ensures.full c.take_chunks.ensures.fewer c.other.invariant.1

pub invariant_of-other-2 : goal.invariant_of-other-2
invariant_of-other-2 c =
    let b = c.other.inside.bits in
    fewer_text b.full.items c.take_chunks.new.chunks.items b.last.items b.at c.other.invariant.0 c.take_chunks.ensures.full c.take_chunks.ensures.fewer c.other.invariant.1
