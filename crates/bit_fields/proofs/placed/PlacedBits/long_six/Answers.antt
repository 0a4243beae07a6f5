use Rattle.std.proofs.Common.{◌≡◌, length, drop, ap, arith}
use Rattle.std.proofs.lemmas.List.{length-drop}
use Rattle.bit_fields.specs.Buffered.{BufferedBits}
use Rattle.bit_fields.specs.PlacedView.{placed}
use Rattle.bit_fields.proofs.LongSixes.{nine_go_on, has_ten, has_eleven, has_twelve, has_thirteen}
use Rattle.bit_fields.proofs.placed.PlacedBits.long_six.Goals as goal

pub ends-ends-requires : goal.ends-ends-requires
ends-ends-requires c =
    let rest : length (placed c.after.result).bits ≡ length (drop 54 (placed c.args.self).bits) = ap (λ (a : BufferedBits). length a.bits) c.after.ensures.rest in
    omega (arith, c.has.ensures c.if-not-has.false, rest, length-drop 54 (placed c.args.self).bits)

pub returns-then-ends-ne0-2-clause-has : goal.returns-then-ends-ne0-2-clause-has
returns-then-ends-ne0-2-clause-has c = has_ten (nine_go_on c.ends.result c.ends-ends.result (placed c.args.self) (placed c.after.result) c.ends.type_inv c.ends-ends.type_inv (c.ends.ensures.front 54 (omega arith)) c.if-ends-ne0.false c.after.ensures.rest c.ends-ends.ensures.shows) c.if-ends-ne0-2.true

pub returns-then-ends-ne0-3-clause-has : goal.returns-then-ends-ne0-3-clause-has
returns-then-ends-ne0-3-clause-has c = has_eleven (nine_go_on c.ends.result c.ends-ends.result (placed c.args.self) (placed c.after.result) c.ends.type_inv c.ends-ends.type_inv (c.ends.ensures.front 54 (omega arith)) c.if-ends-ne0.false c.after.ensures.rest c.ends-ends.ensures.shows) c.if-ends-ne0-2.false c.if-ends-ne0-3.true

pub returns-then-ends-ne0-4-clause-has : goal.returns-then-ends-ne0-4-clause-has
returns-then-ends-ne0-4-clause-has c = has_twelve (nine_go_on c.ends.result c.ends-ends.result (placed c.args.self) (placed c.after.result) c.ends.type_inv c.ends-ends.type_inv (c.ends.ensures.front 54 (omega arith)) c.if-ends-ne0.false c.after.ensures.rest c.ends-ends.ensures.shows) c.if-ends-ne0-2.false c.if-ends-ne0-3.false c.if-ends-ne0-4.true

pub returns-then-ends-eq12582912-clause-has : goal.returns-then-ends-eq12582912-clause-has
returns-then-ends-eq12582912-clause-has c = has_thirteen (nine_go_on c.ends.result c.ends-ends.result (placed c.args.self) (placed c.after.result) c.ends.type_inv c.ends-ends.type_inv (c.ends.ensures.front 54 (omega arith)) c.if-ends-ne0.false c.after.ensures.rest c.ends-ends.ensures.shows) c.if-ends-ne0-2.false c.if-ends-ne0-3.false c.if-ends-ne0-4.false c.if-ends-eq12582912.true
