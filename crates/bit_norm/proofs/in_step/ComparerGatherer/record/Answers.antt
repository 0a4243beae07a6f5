use Rattle.std.proofs.Common.{ℕ, List, refl, sym, ap, ◌∙◌, subst}
use Rattle.std.proofs.lemmas.Result.{on_ok_weaker}
use Rattle.bit_grammar.specs.Machine.{notes}
use Rattle.bit_grammar.specs.Marks.{RecordMark}
use Rattle.bit_grammar.specs.Under.{is_left}
use Rattle.bit_norm.specs.Entries.{has_record}
use Rattle.bit_norm.specs.InFront.{Comparing, Takes}
use Rattle.bit_norm.proofs.InStep.{left_says, record_signed}
use Rattle.bit_norm.proofs.InFront.{at_step, passed_at, step_left_out, step_sign}
use Rattle.bit_norm.proofs.in_step.ComparerGatherer.record.Goals as goal

pub returns-then-branch-clause-gathers : goal.returns-then-branch-clause-gathers
returns-then-branch-clause-gathers c =
    let old = c.args.self.now in
    on_ok_weaker c.pass_record.result
    (λ passes list took first done deepest was stands.
    let mark : RecordMark = record { abbreviation = c.args._id; code = c.args.code; values = list; first = c.args.first; after = c.args.after } in
    passed_at first old c.passes_event.new.self c.pass_record.new.self done (notes mark) c.in_ok-passes_event.field-0 was c.in_ok-passes_event.ensures c.if-branch.true (passes mark refl (sym took) refl) (record { sign = has_record mark.code mark.values; bit = mark.first; ended = mark.after })
    (λ some kept. (left_says old.compared.second_blocks old.compared.second_ended (notes mark) kept, record_signed old.compared mark kept)))
    c.pass_record.ensures

pub returns-then-leaves_record-clause-gathers : goal.returns-then-leaves_record-clause-gathers
returns-then-leaves_record-clause-gathers c =
    let mid = c.passes_event.new.self in
    on_ok_weaker c.take_record.result
    (λ takes list took first done deepest was stands.
    let mark : RecordMark = record { abbreviation = c.args._id; code = c.args.code; values = list; first = c.args.first; after = c.args.after } in
    let kept = ap (λ (s : Comparing). is_left s.compared.second_blocks.setting s.compared.second_blocks.ids (notes mark)) (sym c.self.view_is) ∙ sym c.leaves_record.ensures ∙ c.if-leaves_record.true in
    step_sign first mid c.take_record.new.self mid.compared.second_blocks done (notes mark) _
    (at_step first c.args.self.now mid done (notes mark) c.in_ok-passes_event.field-0 was c.in_ok-passes_event.ensures c.if-branch.false c.ranges.after.fits) refl (record_signed mid.compared mark kept)
    (subst (λ (values : List ℕ). Takes mid (has_record c.args.code values) c.args.first c.args.after c.take_record.new.self) took takes))
    c.take_record.ensures

pub returns-clause-gathers : goal.returns-clause-gathers
returns-clause-gathers c = λ list took first done deepest was stands.
    let mid = c.passes_event.new.self in
    let mark : RecordMark = record { abbreviation = c.args._id; code = c.args.code; values = list; first = c.args.first; after = c.args.after } in
    let out = ap (λ (s : Comparing). is_left s.compared.second_blocks.setting s.compared.second_blocks.ids (notes mark)) (sym c.self.view_is) ∙ sym c.leaves_record.ensures ∙ c.if-leaves_record.false in
    step_left_out first mid mid.compared.second_blocks done (notes mark)
    (at_step first c.args.self.now mid done (notes mark) c.in_ok-passes_event.field-0 was c.in_ok-passes_event.ensures c.if-branch.false c.ranges.after.fits) refl out
