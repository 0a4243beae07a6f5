use Rattle.std.proofs.Common.{sym, ◌∙◌, subst}
use Rattle.std.proofs.lemmas.Result.{on_ok_weaker}
use Rattle.bit_grammar.specs.Machine.{leaves}
use Rattle.bit_norm.specs.Entries.{ends}
use Rattle.bit_norm.specs.InFront.{Comparing}
use Rattle.bit_norm.proofs.InStep.{end_signed, left_says}
use Rattle.bit_norm.proofs.InFront.{AtStep, at_step, passed_at, some_open, step_left_out, step_sign_open}
use Rattle.bit_norm.proofs.in_step.ComparerGatherer.leave.Goals as goal

pub returns-then-branch-clause-gathers : goal.returns-then-branch-clause-gathers
returns-then-branch-clause-gathers c =
    let event = leaves c.args.after in
    let old = c.args.self.now in
    on_ok_weaker c.pass_leave.result
    (λ passes first done deepest was stands.
    passed_at first old c.passes_event.new.self c.pass_leave.new.self done event c.in_ok-passes_event.field-0 was c.in_ok-passes_event.ensures c.if-branch.true passes (record { sign = ends; bit = old.compared.second_ended; ended = c.args.after })
    (λ some kept. (left_says old.compared.second_blocks old.compared.second_ended event kept, end_signed old.compared c.args.after kept (some_open first old done c.args.after was some kept stands))))
    c.pass_leave.ensures

pub returns-then-leave-clause-gathers : goal.returns-then-leave-clause-gathers
returns-then-leave-clause-gathers c =
    let event = leaves c.args.after in
    let inside = c.self.inside in
    let mid : Comparing = record {
      compared = record { first = inside.first; first_blocks = inside.first_blocks; second_blocks = inside.second_blocks; within = inside.walk.«open».items; items = inside.walk.items; first_ended = inside.first_ended; second_ended = inside.second_ended; found = inside.found };
      passed_to = inside.passed_to;
      whole = inside.is_whole;
      passed = inside.passed;
    } in
    on_ok_weaker c.take.result
    (λ takes first done deepest was stands.
    let at = subst (λ (s : Comparing). AtStep first done event s) (sym c.self.view_is) (at_step first c.args.self.now c.passes_event.new.self done event c.in_ok-passes_event.field-0 was c.in_ok-passes_event.ensures c.if-branch.false c.ranges.after.fits) in
    let kept = sym c.leave.ensures.left ∙ c.if-leave.true in
    step_sign_open first mid c.take.new.self c.leave.new.self done c.args.after at (c.leave.ensures.ids c.args.after) kept stands takes)
    c.take.ensures

pub returns-clause-gathers : goal.returns-clause-gathers
returns-clause-gathers c =
    let event = leaves c.args.after in
    let inside = c.self.inside in
    let mid : Comparing = record {
      compared = record { first = inside.first; first_blocks = inside.first_blocks; second_blocks = inside.second_blocks; within = inside.walk.«open».items; items = inside.walk.items; first_ended = inside.first_ended; second_ended = inside.second_ended; found = inside.found };
      passed_to = inside.passed_to;
      whole = inside.is_whole;
      passed = inside.passed;
    } in
    λ first done deepest was stands.
    step_left_out first mid c.leave.new.self done event
    (subst (λ (s : Comparing). AtStep first done event s) (sym c.self.view_is) (at_step first c.args.self.now c.passes_event.new.self done event c.in_ok-passes_event.field-0 was c.in_ok-passes_event.ensures c.if-branch.false c.ranges.after.fits))
    (c.leave.ensures.ids c.args.after) (sym c.leave.ensures.left ∙ c.if-leave.false)
