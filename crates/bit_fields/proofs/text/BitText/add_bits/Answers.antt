use Rattle.std.proofs.Common.{◌≡◌, ◌/◌, Bool, List, ◌++◌, length, take, OnOk, ap, sym, subst, ◌∙◌, refl, arith, length-append, bit_and}
use Rattle.std.proofs.lemmas.List.{length-take-le}
use Rattle.bit_grammar.specs.Bits.{bits_of_bytes}
use Rattle.bit_fields.proofs.BitLaws.{length-bits_of_bytes}
use Rattle.bit_fields.proofs.Texts.{byte_added, byte_behind, bytes_alone, low_three}
use Rattle.bit_fields.proofs.text.BitText.add_bits.Goals as goal

pub fixed-requires-clause-room : goal.fixed-requires-clause-room
fixed-requires-clause-room c =
    let bytes = c.args.bytes.now in
    let k = c.args.count / 8 in
    omega (arith, c.requires.room, c.requires.there, ap length c.in_ok-add_bytes.ensures, length-append c.args.self.now (bits_of_bytes (take k bytes)), length-bits_of_bytes (take k bytes), length-take-le k bytes (omega arith))

pub returns-then-n-gt0 : goal.returns-then-n-gt0
returns-then-n-gt0 c =
    let bytes = c.args.bytes.now in
    let count = c.args.count in
    let byte = c.from.result in
    let whole = bits_of_bytes (take (count / 8) bytes) in
    subst (λ (s : List Bool). OnOk c.fixed.result (c.fixed.new.self ≡ s))
    (byte_added c.args.self.now whole c.add_bytes.new.self (bit_and count 7) byte _ c.in_ok-add_bytes.ensures (omega (arith, low_three count)) refl
    ∙ ap (λ (s : List Bool). c.args.self.now ++ s) (sym (byte_behind count byte (bit_and count 7) bytes c.requires.there (low_three count) c.if-n-gt0.true c.from.ensures)))
    c.fixed.ensures

pub returns : goal.returns
returns c =
    let count = c.args.count in
    c.in_ok-add_bytes.ensures ∙ ap (λ (s : List Bool). c.args.self.now ++ s) (sym (bytes_alone count c.args.bytes.now c.requires.there (omega (arith, low_three count, c.if-n-gt0.false))))
