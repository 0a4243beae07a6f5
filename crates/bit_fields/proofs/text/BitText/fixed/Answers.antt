use Rattle.std.proofs.Common.{ℕ, subst, arith}
use Rattle.bit_grammar.specs.Bits.{bits_of}
use Rattle.bit_grammar.proofs.Bits.Numbers.{length-bits_of}
use Rattle.bit_fields.specs.Pens.{Puts}
use Rattle.bit_fields.proofs.Texts.{stored_text, stored_fits}
use Rattle.bit_fields.proofs.text.BitText.fixed.Goals as goal

pub invariant_of-self-2 : goal.invariant_of-self-2
invariant_of-self-2 c =
    let b = c.make_room.new.self in
    let more = bits_of c.args.n c.args.value in
    let p = subst (λ (k : ℕ). Puts (bits_of k c.args.value) b.at c.as_mut_slice.result.now c.put-self-inside.result c.put-self-inside.new.bytes) c.from.ensures c.put-self-inside.ensures in
    let s = stored_text b.full.items b.last.items c.as_mut_slice.result.now c.put-self-inside.new.bytes b.at c.put-self-inside.result b.last.len 64 more _ c.args.self.now c.make_room.ensures.is c.in_ok-make_room.ensures.room (omega (arith, b.last.ok.0)) c.as_mut_slice.ensures.value p c.in_ok-make_room.ensures.same c.self.view_is in
    (s.0, stored_fits _ c.args.self.now more 18446744073709551616 s.1 (omega (arith, c.requires.room, c.requires.few, length-bits_of c.args.n c.args.value)))

pub returns : goal.returns
returns c =
    let b = c.make_room.new.self in
    let more = bits_of c.args.n c.args.value in
    let p = subst (λ (k : ℕ). Puts (bits_of k c.args.value) b.at c.as_mut_slice.result.now c.put-self-inside.result c.put-self-inside.new.bytes) c.from.ensures c.put-self-inside.ensures in
    (stored_text b.full.items b.last.items c.as_mut_slice.result.now c.put-self-inside.new.bytes b.at c.put-self-inside.result b.last.len 64 more _ c.args.self.now c.make_room.ensures.is c.in_ok-make_room.ensures.room (omega (arith, b.last.ok.0)) c.as_mut_slice.ensures.value p c.in_ok-make_room.ensures.same c.self.view_is).1
