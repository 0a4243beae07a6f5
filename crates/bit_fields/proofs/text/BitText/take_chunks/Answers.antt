use Rattle.std.proofs.Common.{◌<◌, ℕ, List, ◌++◌, length, drop, ap, sym, subst, ◌∙◌, arith, length-append, length-drop}
use Rattle.std.specs.Prelude.{vec_len}
use Rattle.std.specs.Global.{Vec}
use Rattle.bit_grammar.specs.Bits.{bits_of_bytes}
use Rattle.bit_fields.specs.Texts.{bits_of_chunks, AreFull}
use Rattle.bit_fields.proofs.BitLaws.{length-bits_of_bytes}
use Rattle.bit_fields.proofs.Texts.{first_chunk, full-after, some_left, part_added, part_fits}
use Rattle.bit_fields.proofs.text.BitText.take_chunks.Goals as goal

pub add_bytes-requires : goal.add_bytes-requires
add_bytes-requires c =
    let chunks = c.loop-chunks.chunks.items in
    let text = c.loop-chunks.self in
    let chunk = c.remove-chunk.result in
    let some : 0 < length chunks = omega (arith, c.loop-chunks.chunks.ok.0, some_left (vec_len c.loop-chunks.chunks) c.loop-chunks-test.ensures) in
    let first = first_chunk chunks chunk some c.remove-chunk.ensures.value in
    let fits = part_fits text (bits_of_bytes chunk.items) (bits_of_chunks (drop 1 chunks)) (bits_of_chunks chunks) (c.args.self.now ++ bits_of_chunks c.args.chunks.now.items) 4611686018427387904 first c.loop-chunks.invariant.moved (omega (arith, c.requires.room, length-append c.args.self.now (bits_of_chunks c.args.chunks.now.items))) in
    omega (arith, fits, length-bits_of_bytes chunk.items, ap length c.deref.ensures.value)

pub loop-chunks-preserved : goal.loop-chunks-preserved
loop-chunks-preserved c =
    let chunks = c.loop-chunks.chunks.items in
    let text = c.loop-chunks.self in
    let chunk = c.remove-chunk.result in
    let some : 0 < length chunks = omega (arith, c.loop-chunks.chunks.ok.0, some_left (vec_len c.loop-chunks.chunks) c.loop-chunks-test.ensures) in
    let first = first_chunk chunks chunk some c.remove-chunk.ensures.value in
    let added = c.in_ok-add_bytes.ensures ∙ ap (λ (xs : List ℕ). text ++ bits_of_bytes xs) c.deref.ensures.value in
    record {
      moved = ap (λ (vs : List (Vec ℕ)). c.add_bytes.new.self ++ bits_of_chunks vs) c.remove-chunk.ensures.items ∙ part_added text c.add_bytes.new.self (bits_of_bytes chunk.items) (bits_of_chunks (drop 1 chunks)) (bits_of_chunks chunks) _ first added c.loop-chunks.invariant.moved;
      full = subst AreFull (sym c.remove-chunk.ensures.items) (full-after chunks c.loop-chunks.invariant.full);
      fewer = omega (arith, c.loop-chunks.invariant.fewer, ap length c.remove-chunk.ensures.items, length-drop 1 chunks);
    }
