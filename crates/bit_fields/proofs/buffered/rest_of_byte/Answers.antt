use Rattle.std.proofs.Common.{◌≡◌, ◌-◌, drop, length, arith, get_or}
use Rattle.std.proofs.lemmas.List.{take_all, length-drop}
use Rattle.bit_grammar.specs.Bits.{bits_of}
use Rattle.bit_fields.proofs.LentParts.{byte_passed}
use Rattle.bit_fields.proofs.buffered.rest_of_byte.Goals as goal

pub returns-clause-bits : goal.returns-clause-bits
returns-clause-bits c =
    let bytes = c.args.bytes.now in
    let rest = take_all (length bytes - 1) (drop 1 bytes) (omega (arith, length-drop 1 bytes)) in
    let one : c.from.result ≡ get_or bytes 0 0 = c.from.ensures in
    let first : c.of-window.result ≡ bits_of 8 (get_or bytes 0 0) = rw (← one) c.of-window.ensures in
    rw (rest, c.split.ensures.rest, first) (byte_passed bytes c.args.n (omega (arith, c.requires, c.if-n-eq0.false)) (omega (arith, c.requires)))
