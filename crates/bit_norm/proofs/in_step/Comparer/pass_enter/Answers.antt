use Rattle.std.proofs.Common.{◌≡◌, OnOk, sym, subst, ◌∙◌}
use Rattle.std.proofs.lemmas.Result.{on_ok_weaker}
use Rattle.bit_grammar.specs.Machine.{Opened, enters}
use Rattle.bit_norm.specs.Entries.{begins}
use Rattle.bit_norm.specs.InFront.{Comparing, PassesBy}
use Rattle.bit_norm.proofs.InStep.{left_says}
use Rattle.bit_norm.proofs.InFront.{passes_sign}
use Rattle.bit_norm.proofs.in_step.Comparer.pass_enter.Goals as goal

pub returns : goal.returns
returns c =
    let was = c.self.inside in
    let before : Comparing = record {
      compared = record { first = was.first; first_blocks = was.first_blocks; second_blocks = was.second_blocks; within = was.walk.«open».items; items = was.walk.items; first_ended = was.first_ended; second_ended = was.second_ended; found = was.found };
      passed_to = was.passed_to;
      whole = was.is_whole;
      passed = was.passed;
    } in
    subst (λ (s : Comparing). OnOk c.pass_sign.result ((opened : Opened) → opened.id ≡ c.args.id → opened.body ≡ c.args.body → PassesBy (enters opened) s c.pass_sign.new.self)) c.self.view_is
    (on_ok_weaker c.pass_sign.result
    (λ passes opened id body.
    passes_sign before c.pass_sign.new.self (enters opened) (record { sign = begins opened.id; bit = opened.first; ended = opened.body }) (sym c.if-is_some.ensures)
    (left_says was.second_blocks was.second_ended (enters opened) (rw id (sym c.in_ok-enter-3.ensures.left ∙ c.if-not-branch.false)))
    (rw (id, body) passes))
    (rw c.in_ok-enter-2.ensures.ids at (rw c.in_ok-enter-3.ensures.ids at c.pass_sign.ensures)))
