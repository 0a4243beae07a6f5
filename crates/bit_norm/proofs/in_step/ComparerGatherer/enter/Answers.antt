use Rattle.std.proofs.Common.{refl, sym, ◌∙◌, subst}
use Rattle.std.proofs.lemmas.Result.{on_ok_weaker}
use Rattle.bit_grammar.specs.Machine.{Opened, enters}
use Rattle.bit_norm.specs.Entries.{begins}
use Rattle.bit_norm.specs.InStep.{Said}
use Rattle.bit_norm.specs.InFront.{Comparing}
use Rattle.bit_norm.proofs.InStep.{begin_signed, left_says}
use Rattle.bit_norm.proofs.InFront.{AtStep, at_step, passed_at, step_left_out, step_sign}
use Rattle.bit_norm.proofs.in_step.ComparerGatherer.enter.Goals as goal

pub returns-then-branch-clause-gathers : goal.returns-then-branch-clause-gathers
returns-then-branch-clause-gathers c =
    let o : Opened = record { id = c.args.id; width = c.args._width; first = c.args.first; body = c.args.body } in
    let x : Said = record { sign = begins o.id; bit = o.first; ended = o.body } in
    let old = c.args.self.now in
    on_ok_weaker c.pass_enter.result
    (λ passes first done deepest was stands.
    passed_at first old c.passes_event.new.self c.pass_enter.new.self done (enters o) c.in_ok-passes_event.field-0 was c.in_ok-passes_event.ensures c.if-branch.true (passes o refl refl) x
    (λ some kept. (left_says old.compared.second_blocks old.compared.second_ended (enters o) kept, begin_signed old.compared o kept)))
    c.pass_enter.ensures

pub returns-then-branch-2-clause-gathers : goal.returns-then-branch-2-clause-gathers
returns-then-branch-2-clause-gathers c =
    let o : Opened = record { id = c.args.id; width = c.args._width; first = c.args.first; body = c.args.body } in
    let inside = c.self.inside in
    let mid : Comparing = record {
      compared = record { first = inside.first; first_blocks = inside.first_blocks; second_blocks = inside.second_blocks; within = inside.walk.«open».items; items = inside.walk.items; first_ended = inside.first_ended; second_ended = inside.second_ended; found = inside.found };
      passed_to = inside.passed_to;
      whole = inside.is_whole;
      passed = inside.passed;
    } in
    on_ok_weaker c.take.result
    (λ takes first done deepest was stands.
    step_sign first mid c.take.new.self c.enter.new.self done (enters o) (record { sign = begins o.id; bit = o.first; ended = o.body })
    (subst (λ (s : Comparing). AtStep first done (enters o) s) (sym c.self.view_is) (at_step first c.args.self.now c.passes_event.new.self done (enters o) c.in_ok-passes_event.field-0 was c.in_ok-passes_event.ensures c.if-branch.false c.ranges.body.fits))
    c.in_ok-enter.ensures.ids (begin_signed mid.compared o (sym c.in_ok-enter.ensures.left ∙ c.if-branch-2.true)) takes)
    c.take.ensures

pub returns-clause-gathers : goal.returns-clause-gathers
returns-clause-gathers c =
    let o : Opened = record { id = c.args.id; width = c.args._width; first = c.args.first; body = c.args.body } in
    let inside = c.self.inside in
    let mid : Comparing = record {
      compared = record { first = inside.first; first_blocks = inside.first_blocks; second_blocks = inside.second_blocks; within = inside.walk.«open».items; items = inside.walk.items; first_ended = inside.first_ended; second_ended = inside.second_ended; found = inside.found };
      passed_to = inside.passed_to;
      whole = inside.is_whole;
      passed = inside.passed;
    } in
    λ first done deepest was stands.
    step_left_out first mid c.enter.new.self done (enters o)
    (subst (λ (s : Comparing). AtStep first done (enters o) s) (sym c.self.view_is) (at_step first c.args.self.now c.passes_event.new.self done (enters o) c.in_ok-passes_event.field-0 was c.in_ok-passes_event.ensures c.if-branch.false c.ranges.body.fits))
    c.in_ok-enter.ensures.ids (sym c.in_ok-enter.ensures.left ∙ c.if-branch-2.false)
