use Rattle.std.proofs.Common.{◌+◌, ◌*◌, ◌/◌, ◌<◌, ◌≤◌, length, refl, ap, ◌∙◌, arith}
use Rattle.std.specs.Prelude.{vec_len}
use Rattle.bit_fields.specs.Texts.{text_of, with_word}
use Rattle.bit_fields.proofs.Texts.{full-at, beyond, within_chunk, text-length, set_in_chunk, set_in_last}
use Rattle.bit_fields.proofs.text.BitText.set_word.Goals as goal

pub overflow_mul-at : goal.overflow_mul-at
overflow_mul-at c = omega (arith, c.requires.there, c.self.invariant.1, ap length c.self.view_is)

pub set_four-requires : goal.set_four-requires
set_four-requires c =
    let b = c.self.inside.bits in
    let i = c.args.place / 262144 in
    let lt : i < length b.full.items = omega (arith, b.full.ok.0, c.in-Some.ensures.variant.0 refl) in
    omega (arith, within_chunk c.args.place, full-at b.full.items i c.in-Some.bytes.now c.self.invariant.0.are_full lt c.in-Some.ensures.value)

pub invariant_of-self : goal.invariant_of-self
invariant_of-self c =
    let b = c.self.inside.bits in
    let i = c.args.place / 262144 in
    let lt : i < length b.full.items = omega (arith, b.full.ok.0, c.in-Some.ensures.variant.0 refl) in
    let s = set_in_chunk b.full.items b.last.items b.at c.args.place c.args.word c.in-Some.bytes.now c.set_four.new.bytes c.self.invariant.0 lt c.in-Some.ensures.value c.set_four.ensures in
    (s.is, omega (arith, s.same, c.self.invariant.1))

pub returns-in-Some : goal.returns-in-Some
returns-in-Some c =
    let b = c.self.inside.bits in
    let i = c.args.place / 262144 in
    let lt : i < length b.full.items = omega (arith, b.full.ok.0, c.in-Some.ensures.variant.0 refl) in
    let s = set_in_chunk b.full.items b.last.items b.at c.args.place c.args.word c.in-Some.bytes.now c.set_four.new.bytes c.self.invariant.0 lt c.in-Some.ensures.value c.set_four.ensures in
    s.spelled ∙ ap (with_word c.args.place c.args.word) c.self.view_is

pub set_four-requires-in-None : goal.set_four-requires-in-None
set_four-requires-in-None c =
    let b = c.self.inside.bits in
    let le : c.len-count.result ≤ c.args.place / 262144 = omega (arith, c.len-count.ensures, beyond (c.args.place / 262144) (vec_len b.full) c.in-None.ensures.variant.1) in
    omega (arith, le, c.requires.there, ap length c.self.view_is, text-length b.full.items b.last.items b.at c.self.invariant.0, c.self.invariant.0.there, b.full.ok.0, c.len-count.ensures)

pub invariant_of-self-in-None : goal.invariant_of-self-in-None
invariant_of-self-in-None c =
    let b = c.self.inside.bits in
    let le : c.len-count.result ≤ c.args.place / 262144 = omega (arith, c.len-count.ensures, beyond (c.args.place / 262144) (vec_len b.full) c.in-None.ensures.variant.1) in
    let there : 32 * c.args.place + 32 ≤ length (text_of b.full.items b.last.items b.at) = omega (arith, c.requires.there, ap length c.self.view_is) in
    let s = set_in_last b.full.items b.last.items c.set_four-in-None.new.bytes.items b.at c.args.place c.args.word c.len-count.result c.self.invariant.0 there (omega (arith, b.full.ok.0, c.len-count.ensures)) le c.set_four-in-None.ensures in
    (s.is, omega (arith, s.same, c.self.invariant.1))

pub returns-in-None : goal.returns-in-None
returns-in-None c =
    let b = c.self.inside.bits in
    let le : c.len-count.result ≤ c.args.place / 262144 = omega (arith, c.len-count.ensures, beyond (c.args.place / 262144) (vec_len b.full) c.in-None.ensures.variant.1) in
    let there : 32 * c.args.place + 32 ≤ length (text_of b.full.items b.last.items b.at) = omega (arith, c.requires.there, ap length c.self.view_is) in
    let s = set_in_last b.full.items b.last.items c.set_four-in-None.new.bytes.items b.at c.args.place c.args.word c.len-count.result c.self.invariant.0 there (omega (arith, b.full.ok.0, c.len-count.ensures)) le c.set_four-in-None.ensures in
    s.spelled ∙ ap (with_word c.args.place c.args.word) c.self.view_is
