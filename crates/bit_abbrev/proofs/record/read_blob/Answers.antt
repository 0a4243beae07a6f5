use Rattle.std.proofs.Common.{◌+◌, ◌≤◌, ◌∷◌, length}
use Rattle.std.proofs.lemmas.Result.{err_from_is_err_and}
use Rattle.std.specs.Result.{OnOk}
use Rattle.bit_grammar.specs.Fields.{align32}
use Rattle.bit_grammar.specs.Record.{scalar, values_of}
use Rattle.bit_grammar.specs.declared.op.Op.TheVariants.{Blob}
use Rattle.bit_fields.specs.Reader.{Takes}
use Rattle.bit_abbrev.specs.Values.{Adds, Gains}
use Rattle.bit_abbrev.proofs.Missing.{answers_so}
use Rattle.bit_abbrev.proofs.Records.{blob_counted, blob_padded, blob_fails, blob_read, blob_few}
use Rattle.bit_abbrev.proofs.record.read_blob.Goals as goal

pub returns-in_err-count-clause-adds : goal.returns-in_err-count-clause-adds
returns-in_err-count-clause-adds g c = λ others.
    let failed = err_from_is_err_and c.from_residual.result c.from_residual.ensures.1 in
    rw (failed.1, failed.2) (λ fault stands before t. (before, t, (blob_counted c.args.room others (g.B.Bits.as_reader c.args.bits.now) fault before (g.B.Bits.as_reader c.read_count.new.bits) (c.in_err-count.ensures.takes fault stands), tt)))

pub returns-in_err-pad-clause-adds : goal.returns-in_err-pad-clause-adds
returns-in_err-pad-clause-adds g c = λ others.
    let failed = err_from_is_err_and c.from_residual-in_err-pad.result c.from_residual-in_err-pad.ensures.1 in
    rw (failed.1, failed.2) (λ fault stands before t. (before, t, (blob_padded c.args.room others (g.B.Bits.as_reader c.args.bits.now) c.in_ok-count.count (g.B.Bits.as_reader c.read_count.new.bits) fault before (g.B.Bits.as_reader c.pad.new.self) c.in_ok-count.ensures.takes (c.in_err-pad.ensures fault stands), tt)))

pub returns-in_err-read_runs-clause-adds : goal.returns-in_err-read_runs-clause-adds
unfolding scalar
returns-in_err-read_runs-clause-adds g c = λ others.
    let failed = err_from_is_err_and c.from_residual-in_err-read_runs.result c.from_residual-in_err-read_runs.ensures.1 in
    rw (failed.1, failed.2) (λ fault stands before t.
    let h = c.in_err-read_runs.ensures.adds fault stands before t in
    (h.0, h.1, (blob_fails c.args.room others (g.B.Bits.as_reader c.args.bits.now) c.in_ok-count.count (g.B.Bits.as_reader c.read_count.new.bits) (g.B.Bits.as_reader c.pad.new.self) fault before h.0 (g.B.Bits.as_reader c.read_runs.new.bits) c.in_ok-count.ensures.takes c.in_ok-pad.ensures h.2.0, tt)))

pub returns-clause-adds : goal.returns-clause-adds
unfolding scalar
returns-clause-adds g c = λ others.
    let e = g.B.Bits.as_reader c.read_runs.new.bits in
    let b = g.B.Bits.as_reader c.pad-2.new.self in
    answers_so g.B.Bits.faults (λ r. Takes align32 e r b) (λ r. Gains g.V.ValueTaker.took c.args.values.now c.read_runs.new.values (λ before after. Adds (values_of c.args.room (Blob ∷ others)) (g.B.Bits.as_reader c.args.bits.now) r before after b × OnOk r (length after ≤ length before + c.args.room))) c.pad-2.result
    (λ r takes before t.
    let h = c.in_ok-read_runs.ensures.adds before t in
    (h.0, h.1, (blob_read c.args.room others (g.B.Bits.as_reader c.args.bits.now) c.in_ok-count.count (g.B.Bits.as_reader c.read_count.new.bits) (g.B.Bits.as_reader c.pad.new.self) e r before h.0 b c.in_ok-count.ensures.takes c.in_ok-pad.ensures h.2.0 takes, blob_few r c.in_ok-count.count c.args.room before h.0 c.in_ok-count.ensures.few h.2.1)))
    c.pad-2.ensures
