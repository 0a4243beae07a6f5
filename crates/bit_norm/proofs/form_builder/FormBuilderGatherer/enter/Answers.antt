use Rattle.std.proofs.Common.{refl, sym, ◌∙◌}
use Rattle.std.proofs.lemmas.Result.{on_ok_weaker}
use Rattle.bit_grammar.specs.Machine.{Opened, enters}
use Rattle.bit_norm.specs.Building.{left_events}
use Rattle.bit_norm.specs.declared.form_builder.FormBuilder.{FormBuilder}
use Rattle.bit_norm.proofs.Building.{both_ok, event_taken, event_left_out, still_passed}
use Rattle.bit_norm.proofs.form_builder.FormBuilderGatherer.enter.Goals as goal

pub returns-then-self-clause-gathers : goal.returns-then-self-clause-gathers
returns-then-self-clause-gathers c = λ first done deepest was stands.
    let opened : Opened = record { id = c.args.id; width = c.args._width; first = c.args._first; body = c.args._body } in
    still_passed first c.args.self.now done (enters opened) was c.if-self.true

pub returns-then-branch-clause-gathers : goal.returns-then-branch-clause-gathers
returns-then-branch-clause-gathers c =
    on_ok_weaker c.open_block.result
    (λ opens first done deepest was stands.
    let opened : Opened = record { id = c.args.id; width = c.args._width; first = c.args._first; body = c.args._body } in
    event_taken first c.args.self.now c.open_block.new.self done (enters opened) was c.if-self.false (sym c.in_ok-enter.ensures.left ∙ c.if-branch.true) (λ _. opens.0.0 ∙ c.in_ok-enter.ensures.ids) opens.0.1 (opens.1 (left_events first done) opened refl was.form c.if-self.false))
    (both_ok _ _ c.open_block.result c.open_block.ensures.stays c.open_block.ensures.form)

pub returns-clause-gathers : goal.returns-clause-gathers
returns-clause-gathers c = λ first done deepest was stands.
    let old = c.args.self.now in
    let opened : Opened = record { id = c.args.id; width = c.args._width; first = c.args._first; body = c.args._body } in
    let new : FormBuilder = record { alloc = old.alloc; standing = c.enter.new.self; limits = old.limits; text = old.text; holes = old.holes; long = old.long } in
    event_left_out first old new done (enters opened) was c.if-self.false (sym c.in_ok-enter.ensures.left ∙ c.if-branch.false) c.in_ok-enter.ensures.ids refl was.form
