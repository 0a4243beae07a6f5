use Rattle.std.proofs.Common.{◌≡◌, true, ◌∷◌, List, ap, subst, sym, ◌∙◌}
use Rattle.std.proofs.lemmas.Result.{err_from_is_err_and}
use Rattle.bit_grammar.specs.Blocks.{by_definition}
use Rattle.bit_grammar.specs.Definition.{has_shape}
use Rattle.bit_grammar.specs.Record.{abbreviated}
use Rattle.bit_grammar.specs.declared.op.Op.{Op}
use Rattle.bit_abbrev.specs.HeldOps.{ops_in, IsLawfulFrom}
use Rattle.bit_abbrev.specs.Values.{AddsWithin, Gains}
use Rattle.bit_abbrev.proofs.Missing.{answers_so}
use Rattle.bit_abbrev.proofs.HeldRecords.{shape_found, shapeless, shaped}
use Rattle.bit_abbrev.proofs.held_record.read_held_record.Goals as goal

pub returns-in_err-judge-clause-adds : goal.returns-in_err-judge-clause-adds
returns-in_err-judge-clause-adds g c =
    let failed = err_from_is_err_and c.from_residual.result c.from_residual.ensures.1 in
    let held = ops_in c.ops.inside.held.now in
    let found = shape_found (λ found. IsLawfulFrom held found.0 (ops_in found.1.now) found.2) c.lawful_in-lawful.result (has_shape held) (λ x is. is.shape) c.lawful_in-lawful.ensures.some c.lawful_in-lawful.ensures.none in
    let judged = rw (c.is_some.ensures ∙ found ∙ ap has_shape c.ops.view_is) at c.in_err-judge.ensures.takes in
    rw (failed.1, failed.2) (λ fault stands before t. (before, t, (shapeless c.args.first c.args.room c.args.ops (g.B.Bits.as_reader c.args.bits.now) fault before (g.B.Bits.as_reader c.judge.new.self) (judged fault stands), tt)))

pub returns-clause-adds : goal.returns-clause-adds
returns-clause-adds g c =
    let first = c.args.first in
    let room = c.args.room in
    let took = g.V.ValueTaker.took in
    let old = c.args.values.now in
    let new = c.read_by_held.new.values in
    let a = g.B.Bits.as_reader c.args.bits.now in
    let b = g.B.Bits.as_reader c.read_by_held.new.bits in
    let found = rw c.in-Some.is at c.lawful_in-lawful.ensures.some in
    let parts : c.args.ops ≡ c.in-Some.code_op ∷ ops_in c.in-Some.others.now = sym c.ops.view_is ∙ found.parts in
    let shape : has_shape c.args.ops ≡ true = ap has_shape (sym c.ops.view_is) ∙ found.shape in
    answers_so g.B.Bits.faults (λ r. Gains took old new (AddsWithin (abbreviated first room (c.in-Some.code_op ∷ ops_in c.in-Some.others.now)) room a r b)) (λ r. Gains took old new (AddsWithin (by_definition first room c.args.ops) room a r b)) c.read_by_held.result
    (λ r gains before t.
    let h = gains before t in
    (h.0, h.1, shaped first room c.args.ops a r before h.0 b shape (subst (λ (ops : List Op). AddsWithin (abbreviated first room ops) room a r b before h.0) (sym parts) h.2)))
    (rw c.in_ok-judge.ensures.same at c.read_by_held.ensures.adds)
