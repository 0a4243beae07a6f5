use Rattle.std.proofs.Common.{Option, Ok, subst}
use Rattle.std.proofs.lemmas.Result.{err_from_is_err_and}
use Rattle.bit_events.specs.declared.machine.Step.{Step}
use Rattle.bit_events.specs.MachineView.{step_shown}
use Rattle.bit_events.specs.Next.{FindsNext}
use Rattle.bit_events.proofs.Lending.{none_opened, not_lent, remade}
use Rattle.bit_events.proofs.machine.Machine.next_lent.Goals as goal

pub returns-in_err-step-clause-finds : goal.returns-in_err-step-clause-finds
returns-in_err-step-clause-finds g c =
    let p = err_from_is_err_and c.from_residual.result c.from_residual.ensures.1 in
    let has = c.in_err-step.ensures.finds in
    (has.0, has.1, rw (p.1, p.2) has.2)

pub returns-in_default-clause-finds : goal.returns-in_default-clause-finds
returns-in_default-clause-finds g c =
    let has = c.in_ok-step.ensures.finds in
    (has.0, has.1, rw c.in_default.is at has.2)

pub returns-in-Ok-clause-finds : goal.returns-in-Ok-clause-finds
returns-in-Ok-clause-finds g c =
    let has = c.in_ok-step.ensures.finds in
    let finds = subst (λ (o : Option Step). FindsNext c.args.limits.now c.args.self.now c.args.reader.now has.0 (Ok o) c.next.new.self c.next.new.reader) c.in-Some.is has.2 in
    (has.0, has.1, (remade c.args.limits.now c.args.self.now c.args.reader.now c.next.new.self c.make_anew.new.self has.0 c.in-Some.step c.next.new.reader c.make_anew.ensures.same finds.0, finds.1))

pub returns-in-Err-clause-finds : goal.returns-in-Err-clause-finds
returns-in-Err-clause-finds g c =
    let has = c.in_ok-step.ensures.finds in
    let finds = subst (λ (o : Option Step). FindsNext c.args.limits.now c.args.self.now c.args.reader.now has.0 (Ok o) c.next.new.self c.next.new.reader) c.in-Some.is has.2 in
    (has.0, has.1, rw (c.fail.ensures.fault, c.fail.ensures.failed) (not_lent c.args.limits.now c.args.self.now c.args.reader.now (step_shown c.next.new.self has.0 c.in-Some.step) c.next.new.self c.next.new.reader finds.0))

pub returns-in-Err-clause-fewer : goal.returns-in-Err-clause-fewer
returns-in-Err-clause-fewer g c =
    let has = c.in_ok-step.ensures.finds in
    let finds = subst (λ (o : Option Step). FindsNext c.args.limits.now c.args.self.now c.args.reader.now has.0 (Ok o) c.next.new.self c.next.new.reader) c.in-Some.is has.2 in
    none_opened c.args.self.now c.next.new.self c.make_anew.new.self has.0 c.in-Some.step c.in-Err.ensures.err c.make_anew.ensures.same finds.0.leaves.opens
