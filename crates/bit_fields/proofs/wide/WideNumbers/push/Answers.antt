use Rattle.std.proofs.Common.{◌≡◌, ◌<◌, ◌*◌, ◌∷◌, ◌++◌, [], ap, ◌∙◌, subst, length, take, arith}
use Rattle.bit_fields.specs.Wide.{AreBefore, marks, numbers_of}
use Rattle.bit_fields.proofs.Wides.{pushed_small, pushed_great, pushed_back}
use Rattle.bit_fields.proofs.wide.WideNumbers.push.Goals as goal

small : (c : goal.In_ok-push) → let us = c.self.inside.units.items in let gs = c.self.inside.great.items in ((marks c.push.new.self.items ≡ length gs) × AreBefore c.push.new.self.items c.count_next.new.counts.items) × (numbers_of c.push.new.self.items gs ≡ numbers_of us gs ++ c.args.number ∷ [])
small c =
    let us = c.self.inside.units.items in
    let e : c.deref.result.now ≡ us = c.deref.ensures.value in
    pushed_small us c.self.inside.great.items c.count_next.new.counts.items c.push.new.self.items c.args.number c.self.invariant.0 (subst (λ s. AreBefore s c.count_next.new.counts.items) e c.count_next.ensures.counts) (subst (λ s. length s < 64 * length c.count_next.new.counts.items) e c.in_ok-count_next.ensures.next) (omega arith) c.in_ok-push.ensures.items

pub invariant_of-self-then-number-from : goal.invariant_of-self-then-number-from
invariant_of-self-then-number-from c = (small c).0

pub returns-then-number-from-clause-ok : goal.returns-then-number-from-clause-ok
returns-then-number-from-clause-ok c = (small c).1 ∙ ap (λ s. s ++ c.args.number ∷ []) c.self.view_is

pub invariant_of-self-in-Err : goal.invariant_of-self-in-Err
invariant_of-self-in-Err c =
    let us = c.self.inside.units.items in
    let counts = c.count_next.new.counts.items in
    let all : AreBefore us counts = subst (λ s. AreBefore s counts) c.deref.ensures.value c.count_next.ensures.counts in
    let back : c.truncate.new.self.items ≡ us = c.truncate.ensures.items ∙ ap (λ n. take n c.push-2.new.self.items) (omega arith) ∙ pushed_back us c.push-2.new.self.items 65535 c.in_ok-push-2.ensures.items in
    rw (back, c.in-Err.ensures.items) (c.self.invariant.0, all)

great : (c : goal.In_default) → let us = c.self.inside.units.items in let gs = c.self.inside.great.items in ((marks c.push-2.new.self.items ≡ length c.push-3.new.self.items) × AreBefore c.push-2.new.self.items c.count_next.new.counts.items) × (numbers_of c.push-2.new.self.items c.push-3.new.self.items ≡ numbers_of us gs ++ c.args.number ∷ [])
great c =
    let us = c.self.inside.units.items in
    let e : c.deref.result.now ≡ us = c.deref.ensures.value in
    pushed_great us c.self.inside.great.items c.count_next.new.counts.items c.push-2.new.self.items c.push-3.new.self.items c.args.number c.self.invariant.0 (subst (λ s. AreBefore s c.count_next.new.counts.items) e c.count_next.ensures.counts) (subst (λ s. length s < 64 * length c.count_next.new.counts.items) e c.in_ok-count_next.ensures.next) c.in_ok-push-2.ensures.items c.in_default.ensures.items

pub invariant_of-self-in_default : goal.invariant_of-self-in_default
invariant_of-self-in_default c = (great c).0

pub returns-clause-ok : goal.returns-clause-ok
returns-clause-ok c = (great c).1 ∙ ap (λ s. s ++ c.args.number ∷ []) c.self.view_is
