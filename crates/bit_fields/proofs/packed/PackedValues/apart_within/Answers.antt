use Rattle.std.proofs.Common.{ℕ, ap, drop, sym, ◌∙◌, arith}
use Rattle.bit_fields.specs.Packed.{first_apart}
use Rattle.bit_fields.proofs.Unlike.{batch_same, place_same, place_apart, differ, agree}
use Rattle.bit_fields.proofs.packed.PackedValues.apart_within.Goals as goal

pub loop-place-preserved-then-has_batch_of : goal.loop-place-preserved-then-has_batch_of
loop-place-preserved-then-has_batch_of c =
    (omega (arith, c.if-end-place-ge64.true), c.loop-place.invariant.1 ∙ batch_same c.loop-place.place c.args.self.now c.args.other.now (omega (arith, c.if-end-place-ge64.true, c.requires.end.0)) (omega (arith, c.if-end-place-ge64.true, c.requires.end.1)) (c.has_batch_of.ensures.same c.if-has_batch_of.true))

pub returns-then-ne-clause-found : goal.returns-then-ne-clause-found
returns-then-ne-clause-found c =
    let i = c.loop-place.place in
    let a = c.args.self.now in
    let b = c.args.other.now in
    c.loop-place.invariant.1 ∙ place_apart i a b (omega (arith, c.loop-place-test.true, c.requires.end.0)) (omega (arith, c.loop-place-test.true, c.requires.end.1)) (λ e. differ c.get.result c.get-in-loop-place.result (sym c.ne.ensures ∙ c.if-ne.true) (c.get.ensures ∙ e ∙ sym c.get-in-loop-place.ensures))

pub loop-place-preserved : goal.loop-place-preserved
loop-place-preserved c =
    let i = c.loop-place.place in
    let a = c.args.self.now in
    let b = c.args.other.now in
    (omega (arith, c.loop-place-test.true), c.loop-place.invariant.1 ∙ place_same i a b (omega (arith, c.loop-place-test.true, c.requires.end.0)) (omega (arith, c.loop-place-test.true, c.requires.end.1)) (sym c.get.ensures ∙ agree c.get.result c.get-in-loop-place.result (sym c.ne.ensures ∙ c.if-ne.false) ∙ c.get-in-loop-place.ensures))

pub returns-clause-none : goal.returns-clause-none
returns-clause-none c =
    c.loop-place.invariant.1 ∙ ap (λ (p : ℕ). first_apart p (drop p c.args.self.now) (drop p c.args.other.now)) (omega (arith, c.loop-place.invariant.0, c.loop-place-test.false))
