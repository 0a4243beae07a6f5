use Rattle.std.proofs.Common.{ℕ, ◌+◌, ◌-◌, ◌*◌, ◌/◌, ◌%◌, ◌^◌, ◌<◌, ◌≤◌, ◌≡◌, get_or, refl, ap, ◌∙◌, arith, bit_and}
use Rattle.std.specs.Int.{w64, bit_not, trailing_zeros}
use Rattle.bit_fields.specs.Buffered.{beyond}
use Rattle.bit_fields.specs.PlacedView.{placed}
use Rattle.bit_fields.specs.declared.placed.numbers.TheConstants.{TOPS_OF}
use Rattle.bit_fields.proofs.PlacedNumbers.{NumberEnds, listed_tops, one_ends, number_ends, joins_first, joins_more, joins_place, near_taken}
use Rattle.bit_fields.proofs.placed.PlacedBits.near_number.Goals as goal

ends_of : (n ends : ℕ) → 2 ≤ n → n ≤ 32 → ends < 2 ^ 64 → (bit_and ends (get_or TOPS_OF n 0) ≡ 0 → ⊥) → NumberEnds n (trailing_zeros w64 (bit_and ends (get_or TOPS_OF n 0)) + 1) (bit_not w64 ends)
ends_of n ends two few fits some = number_ends n (get_or TOPS_OF n 0) ends (trailing_zeros w64 (bit_and ends (get_or TOPS_OF n 0)) + 1) two (listed_tops n two few) fits some refl

pub returns-then-ends-n-ne0 : goal.returns-then-ends-n-ne0
returns-then-ends-n-ne0 c =
    let n = c.args.n in
    let ends = c.ends-ends.result in
    let word = bit_not w64 ends in
    let here = one_ends n ends c.requires.least c.requires.most c.ends-ends.type_inv c.if-ends-n-ne0.true in
    near_taken n c.args.more n word n (n - 1) (bit_and word (1 * 2 ^ (n - 1) % 2 ^ 64 - 1)) (word / 2 ^ n) (placed c.args.self) (placed c.after.result) c.requires.least (omega arith) (c.ends-ends.ensures.front n (omega arith)) here (joins_first n n word c.requires.least c.requires.most here) (omega arith) (c.after.ensures.rest ∙ ap (beyond (placed c.args.self)) c.from.ensures)

pub loop-at-init : goal.loop-at-init
loop-at-init c =
    let n = c.args.n in
    let ends = c.ends-ends.result in
    joins_first n (trailing_zeros w64 (bit_and ends (get_or TOPS_OF n 0)) + 1) (bit_not w64 ends) c.requires.least c.requires.most (ends_of n ends c.requires.least c.requires.most c.ends-ends.type_inv c.if-tops-eq0.false)

pub overflow_shl-value : goal.overflow_shl-value
overflow_shl-value c =
    let n = c.args.n in
    let ends = c.ends-ends.result in
    let here = ends_of n ends c.requires.least c.requires.most c.ends-ends.type_inv c.if-tops-eq0.false in
    omega (arith, here.short, joins_place n (trailing_zeros w64 (bit_and ends (get_or TOPS_OF n 0)) + 1) (bit_not w64 ends) c.loop-at.at c.loop-at.place c.loop-at.value c.loop-at.rest c.requires.least c.loop-at.invariant)

pub loop-at-preserved : goal.loop-at-preserved
loop-at-preserved c =
    let n = c.args.n in
    let ends = c.ends-ends.result in
    joins_more n (trailing_zeros w64 (bit_and ends (get_or TOPS_OF n 0)) + 1) (bit_not w64 ends) c.loop-at.at c.loop-at.place c.loop-at.value c.loop-at.rest c.requires.least c.requires.most c.loop-at-test.true (ends_of n ends c.requires.least c.requires.most c.ends-ends.type_inv c.if-tops-eq0.false) c.loop-at.invariant

pub returns : goal.returns
returns c =
    let n = c.args.n in
    let ends = c.ends-ends.result in
    let len = trailing_zeros w64 (bit_and ends (get_or TOPS_OF n 0)) + 1 in
    let here = ends_of n ends c.requires.least c.requires.most c.ends-ends.type_inv c.if-tops-eq0.false in
    near_taken n c.args.more len (bit_not w64 ends) c.loop-at.at c.loop-at.place c.loop-at.value c.loop-at.rest (placed c.args.self) (placed c.after-2.result) c.requires.least (omega (arith, here.short)) (c.ends-ends.ensures.front len here.short) here c.loop-at.invariant c.loop-at-test.false (c.after-2.ensures.rest ∙ ap (beyond (placed c.args.self)) c.from-2.ensures)
