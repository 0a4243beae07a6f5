use Rattle.std.proofs.Common.{◌≡◌, [], ◌∷◌, ◌++◌, List, ap, refl, subst, sym, ◌∙◌}
use Rattle.std.specs.List.{AllByRecursion}
use Rattle.std.proofs.lemmas.Result.{err_from_is_err_and}
use Rattle.bit_grammar.specs.Definition.{in_order}
use Rattle.bit_grammar.specs.FormatDefinition.{HasLawfulValue}
use Rattle.bit_grammar.specs.declared.op.Op.{Op}
use Rattle.bit_grammar.specs.declared.op.Op.TheVariants.{Array, Blob}
use Rattle.bit_grammar.specs.declared.op.Place.TheVariants.{Later}
use Rattle.bit_abbrev.specs.HeldOps.{ops_in}
use Rattle.bit_abbrev.proofs.HeldRecords.{single_ordered, held_goes_on, held_fails, held_refused, held_done, tail_then}
use Rattle.bit_abbrev.proofs.held_record.read_held_values.Goals as goal

pub returns-in-Blob-clause-adds : goal.returns-in-Blob-clause-adds
returns-in-Blob-clause-adds g c =
    let others = ops_in c.in-Some.rest.now in
    let is : ops_in c.loop-op.left.now ≡ Blob ∷ others = c.in-Some.ensures.some ∙ ap (λ (op : Op). op ∷ others) c.in-Blob.is in
    tail_then g.V.ValueTaker.took c.args.values.now c.loop-op.values c.read_blob.new.values g.B.Bits.faults c.args.room (ops_in c.args.held.now) (ops_in c.loop-op.left.now) (Blob ∷ others) (g.B.Bits.as_reader c.args.bits.now) (g.B.Bits.as_reader c.loop-op.bits) (g.B.Bits.as_reader c.read_blob.new.bits) c.read_blob.result is refl c.loop-op.invariant.far (c.read_blob.ensures.adds others)

pub returns-in-Array-clause-adds : goal.returns-in-Array-clause-adds
returns-in-Array-clause-adds g c =
    let element = c.in-Some-first_in.element in
    let others = ops_in c.in-Some-first_in.field-0-1.now in
    let is : ops_in c.loop-op.left.now ≡ Array ∷ element ∷ others = c.in-Some.ensures.some ∙ ap (λ (op : Op). op ∷ ops_in c.in-Some.rest.now) c.in-Array.is ∙ ap (λ (ops : List Op). Array ∷ ops) c.in-Some-first_in.ensures.some in
    tail_then g.V.ValueTaker.took c.args.values.now c.loop-op.values c.read_array.new.values g.B.Bits.faults c.args.room (ops_in c.args.held.now) (ops_in c.loop-op.left.now) (Array ∷ element ∷ others) (g.B.Bits.as_reader c.args.bits.now) (g.B.Bits.as_reader c.loop-op.bits) (g.B.Bits.as_reader c.read_array.new.bits) c.read_array.result is refl c.loop-op.invariant.far (c.read_array.ensures.adds others)

pub returns-in_err-value-in_default-op : goal.returns-in_err-value-in_default-op
returns-in_err-value-in_default-op g c =
    let failed = err_from_is_err_and c.from_residual.result c.from_residual.ensures.1 in record {
      adds = rw (failed.1, failed.2) (λ fault stands before t.
          let h = c.loop-op.invariant.far before t in
          (h.0, h.1, (held_fails c.args.room (ops_in c.args.held.now) (ops_in c.loop-op.left.now) (ops_in c.in-Some.rest.now) c.in-Some.op (g.B.Bits.as_reader c.args.bits.now) (g.B.Bits.as_reader c.loop-op.bits) before h.0 fault (g.B.Bits.as_reader c.read_scalar.new.bits) c.in_default-op.not-Array c.in_default-op.not-Blob c.in-Some.ensures.some h.2 (c.in_err-value-in_default-op.ensures.takes fault stands), tt)));
      keeps = λ before t. let h = c.loop-op.invariant.far before t in (h.0, h.1);
    }

pub returns-in_err-keep-in_default-op : goal.returns-in_err-keep-in_default-op
returns-in_err-keep-in_default-op g c =
    let failed = err_from_is_err_and c.from_residual-in_err-keep-in_default-op.result c.from_residual-in_err-keep-in_default-op.ensures.1 in record {
      adds = rw (failed.1, failed.2) (λ fault stands before t.
          let h = c.loop-op.invariant.far before t in
          let full = c.in_err-keep-in_default-op.ensures.err fault stands in
          rw (full.0, full.1) (h.0, c.in_err-keep-in_default-op.ensures.same h.0 h.1, (held_refused c.args.room (ops_in c.args.held.now) (ops_in c.loop-op.left.now) c.in-Some.op (g.B.Bits.as_reader c.args.bits.now) (g.B.Bits.as_reader c.loop-op.bits) before h.0 c.in_ok-value-in_default-op.value (g.B.Bits.as_reader c.read_scalar.new.bits) h.2 c.in_ok-value-in_default-op.ensures.takes, tt)));
      keeps = λ before t. let h = c.loop-op.invariant.far before t in (h.0, c.in_err-keep-in_default-op.ensures.same h.0 h.1);
    }

pub loop-op-preserved : goal.loop-op-preserved
loop-op-preserved g c =
    let others = ops_in c.in-Some.rest.now in
    let is = c.in-Some.ensures.some in
    let order = single_ordered c.in-Some.op others c.in_default-op.not-Array c.in_default-op.not-Blob in
    rw c.in_ok-keep-in_default-op.ensures.ok.0 (record {
      live = c.in_ok-value-in_default-op.ensures.takes.live;
      order = sym order ∙ ap (in_order Later) (sym is) ∙ c.loop-op.invariant.order;
      lawful = (subst (AllByRecursion HasLawfulValue) is c.loop-op.invariant.lawful).1;
      far = λ before t.
          let h = c.loop-op.invariant.far before t in
          let value = c.in_ok-value-in_default-op.value in
          (h.0 ++ value ∷ [], c.in_ok-keep-in_default-op.ensures.ok.1 h.0 h.1, held_goes_on c.args.room (ops_in c.args.held.now) (ops_in c.loop-op.left.now) others c.in-Some.op (g.B.Bits.as_reader c.args.bits.now) (g.B.Bits.as_reader c.loop-op.bits) before h.0 value (g.B.Bits.as_reader c.read_scalar.new.bits) c.in_default-op.not-Array c.in_default-op.not-Blob is h.2 c.in_ok-value-in_default-op.ensures.takes);
    })

pub returns-clause-adds : goal.returns-clause-adds
returns-clause-adds g c = λ before t.
    let h = c.loop-op.invariant.far before t in
    (h.0, h.1, held_done c.args.room (ops_in c.args.held.now) (ops_in c.loop-op.left.now) (g.B.Bits.as_reader c.args.bits.now) (g.B.Bits.as_reader c.loop-op.bits) before h.0 c.in_default.ensures.none h.2)
