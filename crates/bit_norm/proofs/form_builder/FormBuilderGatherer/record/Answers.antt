use Rattle.std.proofs.Common.{refl}
use Rattle.std.proofs.lemmas.Result.{on_ok_weaker}
use Rattle.bit_grammar.specs.Marks.{RecordMark}
use Rattle.bit_norm.specs.Building.{left_events}
use Rattle.bit_norm.proofs.Building.{both_ok, record_idle, record_taken}
use Rattle.bit_norm.proofs.form_builder.FormBuilderGatherer.record.Goals as goal

pub returns-then-is_idle-clause-gathers : goal.returns-then-is_idle-clause-gathers
returns-then-is_idle-clause-gathers c = λ list took first done deepest was stands.
    let mark : RecordMark = record { abbreviation = c.args._id; code = c.args.code; values = list; first = c.args._first; after = c.args._after } in
    record_idle first c.args.self.now done mark was (c.is_idle.ensures.yes c.if-is_idle.true)

pub returns-clause-gathers : goal.returns-clause-gathers
returns-clause-gathers c =
    on_ok_weaker c.add.result
    (λ adds list took first done deepest was stands.
    let mark : RecordMark = record { abbreviation = c.args._id; code = c.args.code; values = list; first = c.args._first; after = c.args._after } in
    record_taken first c.args.self.now c.add.new.self done mark was (c.is_idle.ensures.short c.if-is_idle.false) (c.is_idle.ensures.inside c.if-is_idle.false) stands adds.0 (adds.1 (left_events first done) mark refl took))
    (both_ok _ _ c.add.result c.add.ensures.stays c.add.ensures.form)
