use Rattle.std.proofs.Common.{◌≤◌, ◌<◌, ◌^◌, ◌-◌, ◌∙◌, Bool, List, Ok, Err, length, ap, subst, arith}
use Rattle.std.proofs.lemmas.Nat.{one_shl}
use Rattle.std.proofs.lemmas.Result.{err_from_is_err_and}
use Rattle.bit_grammar.proofs.Bits.Numbers.{length-bits_of}
use Rattle.bit_fields.specs.Writer.{Wrote, LostBits}
use Rattle.bit_fields.specs.declared.fault.Fault.TheVariants.{Write}
use Rattle.bit_fields.proofs.WriterChunks.{chunk, chunking_starts, chunking_goes_on, chunking_fails, chunking_ends, part_smaller}
use Rattle.bit_fields.proofs.writer.BitWriter.chunks.Goals as goal

pub loop-rest-init : goal.loop-rest-init
loop-rest-init g c = chunking_starts c.args.n c.args.value c.args.self.now c.requires.some c.requires.few (omega (arith, c.ranges.value)) c.requires.live c.requires.position

pub append-requires-clause-position : goal.append-requires-clause-position
append-requires-clause-position g c = omega (arith, c.requires.few, c.loop-rest.invariant.room, ap length c.of.ensures ∙ length-bits_of c.args.n (chunk c.args.n c.loop-rest.rest))

pub returns-in_err-append-clause-lost : goal.returns-in_err-append-clause-lost
returns-in_err-append-clause-lost g c =
    let p = err_from_is_err_and c.from_residual.result c.from_residual.ensures.1 in
    let le : 2 ^ (c.args.n - 1) ≤ c.loop-rest.rest = omega (arith, c.loop-rest-test.true, one_shl (c.args.n - 1) 64 (omega arith)) in
    rw p.1 (chunking_fails c.args.n c.args.value c.args.self.now c.loop-rest.self c.append.new.self c.loop-rest.rest Write c.requires.some c.requires.few le c.loop-rest.invariant
    (subst (λ (s : List Bool). LostBits c.loop-rest.self s c.append.new.self) c.of.ensures c.in_err-append.ensures.lost))

pub loop-rest-smaller : goal.loop-rest-smaller
loop-rest-smaller g c =
    let le : 2 ^ (c.args.n - 1) ≤ c.loop-rest.rest = omega (arith, c.loop-rest-test.true, one_shl (c.args.n - 1) 64 (omega arith)) in
    part_smaller c.args.n c.loop-rest.rest c.requires.some le

pub loop-rest-preserved : goal.loop-rest-preserved
loop-rest-preserved g c =
    let le : 2 ^ (c.args.n - 1) ≤ c.loop-rest.rest = omega (arith, c.loop-rest-test.true, one_shl (c.args.n - 1) 64 (omega arith)) in
    chunking_goes_on c.args.n c.args.value c.args.self.now c.loop-rest.self c.append.new.self c.loop-rest.rest c.requires.some c.requires.few le c.loop-rest.invariant
    (subst (λ (s : List Bool). Wrote c.loop-rest.self s c.append.new.self) c.of.ensures c.in_ok-append.ensures.wrote)

pub append-requires-2-clause-some : goal.append-requires-2-clause-some
append-requires-2-clause-some g c = omega (arith, c.requires.some, ap length c.of-2.ensures ∙ length-bits_of c.args.n c.loop-rest.rest)

pub append-requires-2-clause-position : goal.append-requires-2-clause-position
append-requires-2-clause-position g c = omega (arith, c.requires.few, c.loop-rest.invariant.room, ap length c.of-2.ensures ∙ length-bits_of c.args.n c.loop-rest.rest)

pub returns-in_err-append-2-clause-lost : goal.returns-in_err-append-2-clause-lost
returns-in_err-append-2-clause-lost g c =
    let p = err_from_is_err_and c.from_residual-in_err-append-2.result c.from_residual-in_err-append-2.ensures.1 in
    let lt : c.loop-rest.rest < 2 ^ (c.args.n - 1) = omega (arith, c.loop-rest-test.false, one_shl (c.args.n - 1) 64 (omega arith)) in
    rw p.1 (chunking_ends c.args.n c.args.value c.args.self.now c.loop-rest.self c.append-2.new.self c.loop-rest.rest (Err Write) c.requires.some lt c.loop-rest.invariant
    (subst (λ (s : List Bool). LostBits c.loop-rest.self s c.append-2.new.self) c.of-2.ensures c.in_err-append-2.ensures.lost))

pub returns-clause-wrote : goal.returns-clause-wrote
returns-clause-wrote g c =
    let lt : c.loop-rest.rest < 2 ^ (c.args.n - 1) = omega (arith, c.loop-rest-test.false, one_shl (c.args.n - 1) 64 (omega arith)) in
    chunking_ends c.args.n c.args.value c.args.self.now c.loop-rest.self c.append-2.new.self c.loop-rest.rest (Ok tt) c.requires.some lt c.loop-rest.invariant
    (subst (λ (s : List Bool). Wrote c.loop-rest.self s c.append-2.new.self) c.of-2.ensures c.in_ok-append-2.ensures.wrote)
