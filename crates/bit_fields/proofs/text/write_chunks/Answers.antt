use Rattle.std.proofs.Common.{ℕ, ◌<◌, List, length, drop, Err, ap, sym, subst, arith, length-append}
use Rattle.std.specs.Prelude.{vec_len}
use Rattle.std.specs.Global.{Vec}
use Rattle.std.proofs.lemmas.List.{nil_from_length}
use Rattle.std.proofs.lemmas.Result.{err_from_is_err_and}
use Rattle.bit_grammar.specs.Bits.{bits_of_bytes}
use Rattle.bit_fields.specs.Writer.{Writes, Wrote}
use Rattle.bit_fields.specs.Texts.{bits_of_chunks}
use Rattle.bit_fields.proofs.BitLaws.{length-bits_of_bytes}
use Rattle.bit_fields.proofs.Texts.{first_chunk, none_left, some_left, going_starts, going_as, going_on, going_wrong, going_ends, Going}
use Rattle.bit_fields.proofs.text.write_chunks.Goals as goal

pub loop-left-init : goal.loop-left-init
loop-left-init g c = going_starts (bits_of_chunks c.args.chunks.items) c.args.writer.now c.requires.live c.requires.whole c.requires.room

pub write_bytes-requires-clause-live : goal.write_bytes-requires-clause-live
write_bytes-requires-clause-live g c = c.loop-left.invariant.live

pub write_bytes-requires-clause-whole : goal.write_bytes-requires-clause-whole
write_bytes-requires-clause-whole g c = c.loop-left.invariant.bytes

pub write_bytes-requires-clause-room : goal.write_bytes-requires-clause-room
write_bytes-requires-clause-room g c =
    let chunks = c.loop-left.left.items in
    let chunk = c.remove-chunk.result in
    let some : 0 < length chunks = omega (arith, c.loop-left.left.ok.0, some_left (vec_len c.loop-left.left) c.loop-left-test.ensures) in
    let left = going_as (bits_of_chunks c.args.chunks.items) c.args.writer.now c.loop-left.writer _ _ (first_chunk chunks chunk some c.remove-chunk.ensures.value) c.loop-left.invariant in
    omega (arith, left.room, length-append (bits_of_bytes chunk.items) (bits_of_chunks (drop 1 chunks)), length-bits_of_bytes chunk.items, ap length c.deref.ensures.value)

pub returns-in_err-write_bytes : goal.returns-in_err-write_bytes
returns-in_err-write_bytes g c =
    let p = err_from_is_err_and c.from_residual.result c.from_residual.ensures.1 in
    let chunks = c.loop-left.left.items in
    let chunk = c.remove-chunk.result in
    let some : 0 < length chunks = omega (arith, c.loop-left.left.ok.0, some_left (vec_len c.loop-left.left) c.loop-left-test.ensures) in
    let left = going_as (bits_of_chunks c.args.chunks.items) c.args.writer.now c.loop-left.writer _ _ (first_chunk chunks chunk some c.remove-chunk.ensures.value) c.loop-left.invariant in
    rw (p.1, p.2)
    (going_wrong (bits_of_chunks c.args.chunks.items) c.args.writer.now c.loop-left.writer c.write_bytes.new.writer (bits_of_bytes chunk.items) (bits_of_chunks (drop 1 chunks)) c.in_err-write_bytes.field-0.0 left
    (subst (λ (xs : List ℕ). Writes (bits_of_bytes xs) c.loop-left.writer (Err c.in_err-write_bytes.field-0.0) c.write_bytes.new.writer) c.deref.ensures.value c.in_err-write_bytes.ensures))

pub loop-left-preserved : goal.loop-left-preserved
loop-left-preserved g c =
    let chunks = c.loop-left.left.items in
    let chunk = c.remove-chunk.result in
    let some : 0 < length chunks = omega (arith, c.loop-left.left.ok.0, some_left (vec_len c.loop-left.left) c.loop-left-test.ensures) in
    let left = going_as (bits_of_chunks c.args.chunks.items) c.args.writer.now c.loop-left.writer _ _ (first_chunk chunks chunk some c.remove-chunk.ensures.value) c.loop-left.invariant in
    subst (λ (vs : List (Vec ℕ)). Going (bits_of_chunks c.args.chunks.items) c.args.writer.now c.write_bytes.new.writer (bits_of_chunks vs)) (sym c.remove-chunk.ensures.items)
    (going_on (bits_of_chunks c.args.chunks.items) c.args.writer.now c.loop-left.writer c.write_bytes.new.writer (bits_of_bytes chunk.items) (bits_of_chunks (drop 1 chunks)) left (omega (arith, length-bits_of_bytes chunk.items))
    (subst (λ (xs : List ℕ). Wrote c.loop-left.writer (bits_of_bytes xs) c.write_bytes.new.writer) c.deref.ensures.value c.in_ok-write_bytes.ensures))

pub returns : goal.returns
returns g c =
    let chunks = c.loop-left.left.items in
    let none = nil_from_length chunks (omega (arith, c.loop-left.left.ok.0, none_left (vec_len c.loop-left.left) c.loop-left-test.ensures)) in
    going_ends (bits_of_chunks c.args.chunks.items) c.args.writer.now c.loop-left.writer (bits_of_chunks chunks) (ap bits_of_chunks none) c.loop-left.invariant
