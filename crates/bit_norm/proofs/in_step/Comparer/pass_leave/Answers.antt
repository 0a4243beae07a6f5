use Rattle.std.proofs.Common.{OnOk, sym, subst, ◌∙◌}
use Rattle.std.proofs.lemmas.Result.{on_ok_weaker}
use Rattle.bit_grammar.specs.Machine.{leaves}
use Rattle.bit_norm.specs.Entries.{ends}
use Rattle.bit_norm.specs.InFront.{Comparing, PassesBy, first_behind, second_behind}
use Rattle.bit_norm.proofs.InStep.{left_out_says, left_says}
use Rattle.bit_norm.proofs.InFront.{passes_apart, passes_silent, passes_sign}
use Rattle.bit_norm.proofs.in_step.Comparer.pass_leave.Goals as goal

pub returns-then-is_some : goal.returns-then-is_some
returns-then-is_some c =
    let event = leaves c.args.after in
    let was = c.self.inside in
    let before : Comparing = record {
      compared = record { first = was.first; first_blocks = was.first_blocks; second_blocks = was.second_blocks; within = was.walk.«open».items; items = was.walk.items; first_ended = was.first_ended; second_ended = was.second_ended; found = was.found };
      passed_to = was.passed_to;
      whole = was.is_whole;
      passed = was.passed;
    } in
    let after : Comparing = record before { compared = second_behind event before.compared } in
    rw (c.leave.ensures.ids c.args.after) (subst (λ (s : Comparing). PassesBy event s after) c.self.view_is (passes_apart before event (sym c.if-is_some.ensures)))

pub returns-then-leave : goal.returns-then-leave
returns-then-leave c =
    let event = leaves c.args.after in
    let was = c.self.inside in
    let before : Comparing = record {
      compared = record { first = was.first; first_blocks = was.first_blocks; second_blocks = was.second_blocks; within = was.walk.«open».items; items = was.walk.items; first_ended = was.first_ended; second_ended = was.second_ended; found = was.found };
      passed_to = was.passed_to;
      whole = was.is_whole;
      passed = was.passed;
    } in
    let mid : Comparing = record before { compared = first_behind event (second_behind event before.compared) } in
    subst (λ (s : Comparing). OnOk c.pass_sign.result (PassesBy event s c.pass_sign.new.self)) c.self.view_is
    (on_ok_weaker c.pass_sign.result
    (λ passes. passes_sign before c.pass_sign.new.self event (record { sign = ends; bit = was.second_ended; ended = c.args.after }) (sym c.if-is_some.ensures) (left_says was.second_blocks was.second_ended event (sym c.leave-3.ensures.left ∙ c.if-leave.true)) passes)
    (rw (c.leave-2.ensures.ids c.args.after) at (rw (c.leave-3.ensures.ids c.args.after) at c.pass_sign.ensures)))

pub returns : goal.returns
returns c =
    let event = leaves c.args.after in
    let was = c.self.inside in
    let before : Comparing = record {
      compared = record { first = was.first; first_blocks = was.first_blocks; second_blocks = was.second_blocks; within = was.walk.«open».items; items = was.walk.items; first_ended = was.first_ended; second_ended = was.second_ended; found = was.found };
      passed_to = was.passed_to;
      whole = was.is_whole;
      passed = was.passed;
    } in
    let after : Comparing = record before { compared = first_behind event (second_behind event before.compared) } in
    rw (c.leave-2.ensures.ids c.args.after, c.leave-3.ensures.ids c.args.after)
    (subst (λ (s : Comparing). PassesBy event s after) c.self.view_is (passes_silent before event (sym c.if-is_some.ensures) (left_out_says was.second_blocks was.second_ended event (sym c.leave-3.ensures.left ∙ c.if-leave.false))))
