use Rattle.std.proofs.Common.{◌*◌, length, arith}
use Rattle.bit_grammar.specs.Normal.{values_bits}
use Rattle.bit_fields.proofs.Texts.{stored_text, stored_fits}
use Rattle.bit_fields.proofs.text.BitText.some_numbers.Goals as goal

pub invariant_of-self-2 : goal.invariant_of-self-2
invariant_of-self-2 c =
    let b = c.make_room.new.self in
    let p = c.put_numbers-self-inside in
    let more = values_bits c.args.values.now in
    let s = stored_text b.full.items b.last.items c.as_mut_slice.result.now p.new.bytes b.at p.result b.last.len (78 * length c.args.values.now) more _ c.args.self.now c.make_room.ensures.is c.in_ok-make_room.ensures.room (omega (arith, b.last.ok.0)) c.as_mut_slice.ensures.value p.ensures c.in_ok-make_room.ensures.same c.self.view_is in
    (s.0, stored_fits _ c.args.self.now more 18446744073709551616 s.1 (omega (arith, c.requires.room)))

pub returns : goal.returns
returns c =
    let b = c.make_room.new.self in
    let p = c.put_numbers-self-inside in
    let more = values_bits c.args.values.now in
    (stored_text b.full.items b.last.items c.as_mut_slice.result.now p.new.bytes b.at p.result b.last.len (78 * length c.args.values.now) more _ c.args.self.now c.make_room.ensures.is c.in_ok-make_room.ensures.room (omega (arith, b.last.ok.0)) c.as_mut_slice.ensures.value p.ensures c.in_ok-make_room.ensures.same c.self.view_is).1
