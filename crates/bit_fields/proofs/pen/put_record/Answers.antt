use Rattle.std.proofs.Common.{Bool, List, ◌++◌, length, ap, ◌∙◌, arith, append_assoc, length-append}
use Rattle.bit_grammar.specs.Bits.{bits_of}
use Rattle.bit_grammar.specs.FormatFields.{shortest}
use Rattle.bit_grammar.specs.Normal.{entry_text, values_bits}
use Rattle.bit_grammar.proofs.Bits.Numbers.{length-bits_of}
use Rattle.bit_fields.proofs.Pens.{puts_then, puts_as, six_range}
use Rattle.bit_fields.proofs.pen.put_record.Goals as goal

pub put_numbers-requires-clause-room : goal.put_numbers-requires-clause-room
put_numbers-requires-clause-room c =
    let s = shortest 6 c.args.code in
    let t = shortest 6 (length c.args.values.now) in
    omega (arith, c.requires.room, c.put_front-pen.ensures.ends, c.put_front-pen.ensures.same, length-append (bits_of 2 3) (s ++ t), length-append s t, length-bits_of 2 3, (six_range c.args.code).1, (six_range (length c.args.values.now)).1)

pub returns : goal.returns
returns c =
    let front = bits_of 2 3 in
    let s = shortest 6 c.args.code in
    let t = shortest 6 (length c.args.values.now) in
    let more = values_bits c.args.values.now in
    puts_as ((front ++ (s ++ t)) ++ more) (front ++ entry_text c.args.code c.args.values.now) _ _ _ _
    (append_assoc front (s ++ t) more ∙ ap (λ (x : List Bool). front ++ x) (append_assoc s t more))
    (puts_then (front ++ (s ++ t)) more _ _ _ _ _ _ c.put_front-pen.ensures c.put_numbers.ensures)
