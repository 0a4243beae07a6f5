use Rattle.std.proofs.Common.{◌≡◌, ℕ, ◌+◌, ◌-◌, ◌*◌, ◌/◌, Bool, List, drop, subst, arith, bit_and, count_ones}
use Rattle.bit_grammar.specs.Bits.{bits_of_bytes}
use Rattle.bit_fields.specs.Placed.{HasNumbers, bits_at}
use Rattle.bit_fields.specs.SixEnds.{tops}
use Rattle.bit_fields.proofs.Placing.{low_three, length_at}
use Rattle.bit_fields.proofs.SixSteps.{Passed, none_passed, next_load, last_load, eight_fewer, eight_most, shown_at}
use Rattle.bit_fields.proofs.placed.bits.pass_sixes.Goals as goal

pub loop-left-init : goal.loop-left-init
loop-left-init c =
    let from = c.args.from in
    record {
      few = omega arith;
      bit = omega (arith, low_three from);
      on = omega (arith, low_three from);
      there = omega arith;
      passed = none_passed (c.args.count - c.args.count) (8 * (from / 8) + bit_and from 7 - from) (drop from (bits_of_bytes c.args.bytes.now)) (omega arith) (omega (arith, low_three from));
    }

pub end_of-requires-clause-few : goal.end_of-requires-clause-few
end_of-requires-clause-few c = omega (arith, eight_most c.ends_from-ends.result c.ends_from-ends.type_inv, c.from-some.ensures, c.if-some-left.true)

pub unreachable-requires : goal.unreachable-requires
unreachable-requires c = omega (arith, eight_fewer c.ends_from-ends.result c.ends_from-ends.type_inv, c.from-some.ensures, c.if-some-left.true, c.in_default.ensures.none)

pub returns-then-some-left-clause-has : goal.returns-then-some-left-clause-has
returns-then-some-left-clause-has c = λ start.
    let l = c.loop-left in
    let from = c.args.from in
    let bytes = c.args.bytes.now in
    let at : ℕ = 8 * l.place + bit_and from 7 - from in
    let s : List Bool = drop from (bits_of_bytes bytes) in
    let shown = shown_at c.ends_from-ends.result l.place (bit_and from 7) from bytes c.ends_from-ends.type_inv l.invariant.bit l.invariant.on c.if-bytes-place-ge8.true c.ends_from-ends.ensures in
    let many : c.args.count - l.left + l.left ≡ c.args.count - 0 = omega (arith, l.invariant.few) in
    let place : at + c.in-Some.len ≡ 8 * l.place + bit_and from 7 + c.from.result - from = omega (arith, l.invariant.on, c.from.ensures) in
    subst (λ (n : ℕ). HasNumbers 6 n (bits_at start from bytes) (8 * l.place + bit_and from 7 + c.from.result - from)) many
    (subst (HasNumbers 6 (c.args.count - l.left + l.left) (bits_at start from bytes)) place
    (last_load (c.args.count - l.left) l.before c.ends_from-ends.result at l.left c.in-Some.len (start + from) s l.invariant.passed shown (c.goes_on.ensures c.if-goes_on.false) c.loop-left-test.true c.in-Some.ensures.ends))

pub loop-left-preserved : goal.loop-left-preserved
loop-left-preserved c =
    let l = c.loop-left in
    let from = c.args.from in
    let bytes = c.args.bytes.now in
    let ends = c.ends_from-ends.result in
    let at : ℕ = 8 * l.place + bit_and from 7 - from in
    let s : List Bool = drop from (bits_of_bytes bytes) in
    let shown = shown_at ends l.place (bit_and from 7) from bytes c.ends_from-ends.type_inv l.invariant.bit l.invariant.on c.if-bytes-place-ge8.true c.ends_from-ends.ensures in
    let next = next_load (c.args.count - l.left) l.before ends at s l.invariant.passed shown (c.goes_on.ensures c.if-goes_on.false) in
    let many : c.args.count - l.left + count_ones (bit_and ends (tops 8)) ≡ c.args.count - (l.left - c.from-some.result) = omega (arith, l.invariant.few, c.from-some.ensures, c.if-some-left.false) in
    let place : at + 48 ≡ 8 * (l.place + 6) + bit_and from 7 - from = omega (arith, l.invariant.on) in
    record {
      few = omega (arith, l.invariant.few);
      bit = l.invariant.bit;
      on = omega (arith, l.invariant.on);
      there = omega (arith, c.if-bytes-place-ge8.true);
      passed = subst (λ (n : ℕ). Passed n (bit_and ends (tops 8)) (8 * (l.place + 6) + bit_and from 7 - from) s) many (subst (λ (n : ℕ). Passed (c.args.count - l.left + count_ones (bit_and ends (tops 8))) (bit_and ends (tops 8)) n s) place next);
    }

pub returns-clause-there : goal.returns-clause-there
returns-clause-there c = omega (arith, c.loop-left.invariant.passed.there, length_at c.args.from c.args.bytes.now, c.loop-left.invariant.on, c.requires.there)

pub returns-clause-has : goal.returns-clause-has
returns-clause-has c = λ start.
    let l = c.loop-left in
    let from = c.args.from in
    let p = l.invariant.passed in
    let place : p.from ≡ 8 * l.place + bit_and from 7 - (c.from-open.result - 16) - from = omega (arith, l.invariant.on, p.at_is, p.lead, c.from-open.ensures) in
    subst (HasNumbers 6 (c.args.count - l.left) (bits_at start from c.args.bytes.now)) place (p.has (start + from))
