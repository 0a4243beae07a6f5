use Rattle.std.proofs.Common.{◌≤◌, ◌<◌, ◌+◌, ◌*◌, ◌-◌, ◌^◌, refl, arith}
use Rattle.std.proofs.lemmas.Nat.{one_shl, mod_below, pow_pos}
use Rattle.bit_fields.specs.Inside.{part_of}
use Rattle.bit_fields.specs.Buffered.{reader_at}
use Rattle.bit_fields.proofs.Chunks.{one_chunk, next_chunk, last_chunk, sum_fits}
use Rattle.bit_fields.proofs.BufferedReads.{reads_took}
use Rattle.bit_fields.proofs.LentParts.{chunking_goes_on}
use Rattle.bit_fields.proofs.buffered.Buffered.chunk_by_chunk.Goals as goal

pub returns-then-chunk-n-clause-reads : goal.returns-then-chunk-n-clause-reads
returns-then-chunk-n-clause-reads c =
    let last : c.in_ok-chunk.chunk < 2 ^ (c.args.n.bits - 1) = let s = one_shl (c.args.n.bits - 1) 64 (omega arith) in rw s at c.if-chunk-n.true in
    let start = c.args.self.now.position in
    let took = reads_took (part_of start c.args.n.bits) c.args.self.now c.in_ok-chunk.chunk c.part.new.self (c.in_ok-chunk.ensures.reads start) (omega (arith, c.in_ok-chunk.ensures.moves)) in
    (one_chunk c.args.n.bits start (reader_at c.args.self.now) c.in_ok-chunk.chunk (reader_at c.part.new.self) c.args.n.some c.args.n.few refl last took).reads refl

pub loop-place-init : goal.loop-place-init
loop-place-init c =
    let goes : 2 ^ (c.args.n.bits - 1) ≤ c.in_ok-chunk.chunk = let s = one_shl (c.args.n.bits - 1) 64 (omega arith) in rw s at c.if-chunk-n.false in
    let below : c.payload_of-value.result < 2 ^ (c.args.n.bits - 1) = omega (arith, c.payload_of-value.ensures, mod_below c.in_ok-chunk.chunk (2 ^ (c.args.n.bits - 1)) (pow_pos (c.args.n.bits - 1))) in
    (chunking_goes_on c.args.n.bits c.args.self.now c.part.new.self c.in_ok-chunk.chunk c.payload_of-value.result c.args.n.some c.args.n.few goes c.payload_of-value.ensures below (omega (arith, c.in_ok-chunk.ensures.moves)) (c.in_ok-chunk.ensures.reads c.args.self.now.position), omega (arith, c.in_ok-chunk.ensures.moves))

pub overflow_add-value : goal.overflow_add-value
overflow_add-value c =
    let worth = c.in_ok-value.ensures in
    let fits : c.loop-place.value + c.payload_of.result * 2 ^ c.loop-place.place < 2 ^ 64 = sum_fits c.payload_of.result c.loop-place.place c.loop-place.value c.loop-place-test.true c.loop-place.invariant.0.below worth.1 in
    rw worth.0 (omega arith)

pub returns-then-chunk-n-2-clause-reads : goal.returns-then-chunk-n-2-clause-reads
returns-then-chunk-n-2-clause-reads c =
    let worth = c.in_ok-value.ensures in
    let took = reads_took (part_of c.args.self.now.position c.args.n.bits) c.loop-place.self c.in_ok-chunk-2.chunk c.part-in-loop-place.new.self (c.in_ok-chunk-2.ensures.reads c.args.self.now.position) (omega (arith, c.in_ok-chunk-2.ensures.moves)) in
    let last : c.in_ok-chunk-2.chunk < 2 ^ (c.args.n.bits - 1) = let s = one_shl (c.args.n.bits - 1) 64 (omega arith) in rw s at c.if-chunk-n-2.true in
    (last_chunk c.args.n.bits c.args.self.now.position _ (reader_at c.args.self.now) (reader_at c.loop-place.self) c.loop-place.place c.loop-place.value c.in_ok-chunk-2.chunk c.payload_of.result _ (reader_at c.part-in-loop-place.new.self) c.args.n.some c.loop-place-test.true c.loop-place.invariant.0 took c.payload_of.ensures last worth.1 (omega (arith, worth.0))).reads refl

pub loop-place-preserved : goal.loop-place-preserved
loop-place-preserved c =
    let worth = c.in_ok-value.ensures in
    let took = reads_took (part_of c.args.self.now.position c.args.n.bits) c.loop-place.self c.in_ok-chunk-2.chunk c.part-in-loop-place.new.self (c.in_ok-chunk-2.ensures.reads c.args.self.now.position) (omega (arith, c.in_ok-chunk-2.ensures.moves)) in
    let goes : 2 ^ (c.args.n.bits - 1) ≤ c.in_ok-chunk-2.chunk = let s = one_shl (c.args.n.bits - 1) 64 (omega arith) in rw s at c.if-chunk-n-2.false in
    (next_chunk c.args.n.bits c.args.self.now.position _ (reader_at c.args.self.now) (reader_at c.loop-place.self) c.loop-place.place c.loop-place.value c.in_ok-chunk-2.chunk c.payload_of.result _ (reader_at c.part-in-loop-place.new.self) c.args.n.some c.loop-place-test.true c.loop-place.invariant.0 took c.payload_of.ensures goes worth.1 (omega (arith, worth.0)), omega (arith, c.loop-place.invariant.1, c.in_ok-chunk-2.ensures.moves))
