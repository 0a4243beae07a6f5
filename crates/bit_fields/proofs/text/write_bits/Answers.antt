use Rattle.std.proofs.Common.{◌*◌, ◌/◌, ◌<◌, ◌≤◌, Bool, List, ◌++◌, take, Err, ap, sym, subst, ◌∙◌, arith, bit_and}
use Rattle.std.proofs.lemmas.List.{length-take-le}
use Rattle.std.proofs.lemmas.Result.{err_from_is_err_and}
use Rattle.bit_grammar.specs.Bits.{bits_of_bytes}
use Rattle.bit_fields.specs.Writer.{Writes, Wrote}
use Rattle.bit_fields.proofs.BitLaws.{length-bits_of_bytes, below_mask}
use Rattle.bit_fields.proofs.WriterLaws.{not_written, wrote_then}
use Rattle.bit_fields.proofs.Texts.{byte_behind, bytes_alone, low_three, masked, take_in_parts}
use Rattle.bit_fields.proofs.text.write_bits.Goals as goal

pub write_bytes-requires-clause-room : goal.write_bytes-requires-clause-room
write_bytes-requires-clause-room g c =
    let k = c.args.count / 8 in
    omega (arith, c.requires.room, c.requires.there, length-take-le k c.args.bytes.now (omega arith))

pub returns-in_err-write_bytes : goal.returns-in_err-write_bytes
returns-in_err-write_bytes g c =
    let p = err_from_is_err_and c.from_residual.result c.from_residual.ensures.1 in
    let bytes = c.args.bytes.now in
    let count = c.args.count in
    let fault = c.in_err-write_bytes.field-0.0 in
    let le : 8 * (count / 8) ≤ count = omega arith in
    rw (p.1, p.2)
    (subst (λ (s : List Bool). Writes s c.args.writer.now (Err fault) c.write_bytes.new.writer) (sym (take_in_parts (count / 8) count bytes le c.requires.there))
    (not_written (bits_of_bytes (take (count / 8) bytes)) _ c.args.writer.now fault c.write_bytes.new.writer c.in_err-write_bytes.ensures))

pub fixed-requires-clause-fits : goal.fixed-requires-clause-fits
fixed-requires-clause-fits g c = below_mask c.from.result (bit_and c.args.count 7) (omega (arith, low_three c.args.count))

pub fixed-requires-clause-position : goal.fixed-requires-clause-position
fixed-requires-clause-position g c =
    let k = c.args.count / 8 in
    let bytes = c.args.bytes.now in
    omega (arith, c.requires.room, c.requires.there, c.in_ok-write_bytes.ensures.position, length-bits_of_bytes (take k bytes), length-take-le k bytes (omega arith))

pub returns-then-n-gt0 : goal.returns-then-n-gt0
returns-then-n-gt0 g c =
    let bytes = c.args.bytes.now in
    let count = c.args.count in
    let byte = c.from.result in
    let n = bit_and count 7 in
    let whole = bits_of_bytes (take (count / 8) bytes) in
    let few : n < 64 = omega (arith, low_three count) in
    subst (λ (s : List Bool). Writes s c.args.writer.now c.fixed.result c.fixed.new.self)
    (ap (λ (s : List Bool). whole ++ s) (masked n byte few) ∙ sym (byte_behind count byte n bytes c.requires.there (low_three count) c.if-n-gt0.true c.from.ensures))
    (wrote_then c.args.writer.now c.write_bytes.new.writer c.fixed.new.self whole _ c.fixed.result c.in_ok-write_bytes.ensures c.fixed.ensures.writes)

pub returns : goal.returns
returns g c =
    let count = c.args.count in
    subst (λ (s : List Bool). Wrote c.args.writer.now s c.write_bytes.new.writer) (sym (bytes_alone count c.args.bytes.now c.requires.there (omega (arith, low_three count, c.if-n-gt0.false)))) c.in_ok-write_bytes.ensures
