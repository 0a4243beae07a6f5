use Rattle.std.proofs.Common.{◌*◌, ◌-◌, ◌%◌, ◌^◌, refl, sym, subst, arith, bit_and}
use Rattle.std.specs.Int.{w64, bit_not}
use Rattle.bit_fields.specs.Pens.{HasWord}
use Rattle.bit_fields.specs.PlacedView.{placed}
use Rattle.bit_fields.proofs.PlainPlaces.{word_there}
use Rattle.bit_fields.proofs.placed.PlacedBits.few_shortest.Goals as goal

pub returns : goal.returns
returns c =
    let len = c.in_ok-len.len in
    let word = bit_not w64 c.ends-ends.result in
    let few = c.in_ok-len.ensures.most in
    subst (HasWord c.args.count (placed c.args.self) (bit_and word (1 * 2 ^ len % 2 ^ 64 - 1))) (sym c.from.ensures) (word_there c.args.count len word (placed c.args.self) few (omega (arith, few, c.requires.there)) (c.ends-ends.ensures.front len (omega (arith, few))) c.in_ok-len.ensures.reads (c.if-not-is_shortest.ensures refl))
