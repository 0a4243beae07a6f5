use Rattle.std.proofs.Common.{refl, sym, ◌∙◌}
use Rattle.std.proofs.lemmas.Result.{on_ok_weaker}
use Rattle.bit_grammar.specs.Machine.{leaves}
use Rattle.bit_norm.specs.Building.{left_events}
use Rattle.bit_norm.specs.declared.form_builder.FormBuilder.{FormBuilder}
use Rattle.bit_norm.proofs.Building.{both_ok, event_taken, event_left_out, some_left, still_passed}
use Rattle.bit_norm.proofs.form_builder.FormBuilderGatherer.leave.Goals as goal

pub returns-then-self-clause-gathers : goal.returns-then-self-clause-gathers
returns-then-self-clause-gathers c = λ first done deepest was stands. still_passed first c.args.self.now done (leaves c.args._after) was c.if-self.true

pub returns-then-leave-clause-gathers : goal.returns-then-leave-clause-gathers
returns-then-leave-clause-gathers c =
    let old = c.args.self.now in
    on_ok_weaker c.close.result
    (λ closes first done deepest was stands.
    let all = sym c.leave.ensures.left ∙ c.if-leave.true in
    event_taken first old c.close.new.self done (leaves c.args._after) was c.if-self.false all (λ _. closes.0.0 ∙ c.leave.ensures.ids c.args._after) closes.0.1 (closes.1 (left_events first done) c.args._after was.form c.if-self.false (some_left first old old done (leaves c.args._after) was c.if-self.false all stands)))
    (both_ok _ _ c.close.result c.close.ensures.stays c.close.ensures.form)

pub returns-clause-gathers : goal.returns-clause-gathers
returns-clause-gathers c = λ first done deepest was stands.
    let old = c.args.self.now in
    let new : FormBuilder = record { alloc = old.alloc; standing = c.leave.new.self; limits = old.limits; text = old.text; holes = old.holes; long = old.long } in
    event_left_out first old new done (leaves c.args._after) was c.if-self.false (sym c.leave.ensures.left ∙ c.if-leave.false) (c.leave.ensures.ids c.args._after) refl was.form
