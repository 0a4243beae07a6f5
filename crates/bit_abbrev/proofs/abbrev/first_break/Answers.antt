use Rattle.std.proofs.Common.{◌∙◌, sym, arith}
use Rattle.std.proofs.lemmas.Bool.{eqb-false}
use Rattle.bit_abbrev.proofs.Breaks.{judged_at, next_place, hold_more, first_found, all_hold}
use Rattle.bit_abbrev.proofs.abbrev.first_break.Goals as goal

pub returns-in-Some-clause-found : goal.returns-in-Some-clause-found
returns-in-Some-clause-found c =
    let is = judged_at c.args.ops.now c.loop-at.at c.loop-at.place c.break_of.result c.loop-at.invariant.place_is c.break_of.ensures.reason in
    first_found c.args.ops.now c.loop-at.at c.in-Some.reason c.loop-at-test.true c.loop-at.invariant.held (is ∙ c.in-Some.is)

pub loop-at-preserved : goal.loop-at-preserved
loop-at-preserved c =
    let is = judged_at c.args.ops.now c.loop-at.at c.loop-at.place c.break_of.result c.loop-at.invariant.place_is c.break_of.ensures.reason in
    record {
      place_is = next_place c.args.ops.now c.loop-at.at c.place_after-place.result c.place_after-place.ensures;
      held = hold_more c.args.ops.now c.loop-at.at c.loop-at.invariant.held (is ∙ c.in_default.is) c.break_of.ensures.literal;
    }

pub returns-clause-none : goal.returns-clause-none
returns-clause-none c =
    all_hold c.args.ops.now (omega (arith, eqb-false _ _ (sym c.if-is_empty.ensures))) (λ j less. c.loop-at.invariant.held j (omega (arith, less, c.loop-at-test.false)))
