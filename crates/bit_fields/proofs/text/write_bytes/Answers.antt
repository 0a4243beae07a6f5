use Rattle.std.proofs.Common.{take, drop, ap, arith}
use Rattle.std.proofs.lemmas.List.{length-take}
use Rattle.std.proofs.lemmas.Result.{err_from_is_err_and}
use Rattle.bit_grammar.specs.Bits.{bits_of_bytes}
use Rattle.bit_fields.proofs.BitLaws.{left_after, nothing_left, length-bits_of_bytes}
use Rattle.bit_fields.proofs.Texts.{going_starts, going_as, going_on, going_wrong, going_ends, in_parts}
use Rattle.bit_fields.proofs.text.write_bytes.Goals as goal

pub loop-rest-init : goal.loop-rest-init
loop-rest-init g c = going_starts (bits_of_bytes c.args.bytes.now) c.args.writer.now c.requires.live c.requires.whole (omega (arith, c.requires.room, length-bits_of_bytes c.args.bytes.now))

pub bytes-requires-clause-whole : goal.bytes-requires-clause-whole
bytes-requires-clause-whole g c = c.loop-rest.invariant.bytes

pub bytes-requires-clause-position : goal.bytes-requires-clause-position
bytes-requires-clause-position g c =
    let l = c.loop-rest in
    omega (arith, l.invariant.room, length-bits_of_bytes l.rest.now, length-take c.min-count.result l.rest.now)

pub returns-in_err-bytes : goal.returns-in_err-bytes
returns-in_err-bytes g c =
    let p = err_from_is_err_and c.from_residual.result c.from_residual.ensures.1 in
    let l = c.loop-rest in
    let k = c.min-count.result in
    let whole = bits_of_bytes c.args.bytes.now in
    let left = going_as whole c.args.writer.now l.writer _ _ (in_parts k l.rest.now) l.invariant in
    rw (p.1, p.2) (going_wrong whole c.args.writer.now l.writer c.bytes.new.self (bits_of_bytes (take k l.rest.now)) (bits_of_bytes (drop k l.rest.now)) c.in_err-bytes.field-0.0 left c.in_err-bytes.ensures.writes)

pub loop-rest-preserved : goal.loop-rest-preserved
loop-rest-preserved g c =
    let l = c.loop-rest in
    let k = c.min-count.result in
    let whole = bits_of_bytes c.args.bytes.now in
    let left = going_as whole c.args.writer.now l.writer _ _ (in_parts k l.rest.now) l.invariant in
    going_as whole c.args.writer.now c.bytes.new.self _ _ (ap bits_of_bytes (left_after k l.rest.now))
    (going_on whole c.args.writer.now l.writer c.bytes.new.self (bits_of_bytes (take k l.rest.now)) (bits_of_bytes (drop k l.rest.now)) left (omega (arith, length-bits_of_bytes (take k l.rest.now))) c.in_ok-bytes.ensures.writes)

pub returns : goal.returns
returns g c =
    let l = c.loop-rest in
    going_ends (bits_of_bytes c.args.bytes.now) c.args.writer.now l.writer (bits_of_bytes l.rest.now) (ap bits_of_bytes (nothing_left l.rest.now c.loop-rest-test.ensures)) l.invariant
