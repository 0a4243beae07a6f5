use Rattle.std.proofs.Common.{◌≤◌, arith, rules}
use Rattle.std.proofs.lemmas.Result.{err_from_is_err_and}
use Rattle.bit_abbrev.specs.HeldOps.{ops_in}
use Rattle.bit_abbrev.proofs.Records.{record_crowded, record_coded, record_fails, record_read}
use Rattle.bit_abbrev.proofs.held_record.read_by_held.Goals as goal

pub returns-in_err-judge-clause-adds : goal.returns-in_err-judge-clause-adds
returns-in_err-judge-clause-adds g c =
    let failed = err_from_is_err_and c.from_residual.result c.from_residual.ensures.1 in
    let judged = rw c.requires.singles at c.in_err-judge.ensures.takes in
    rw (failed.1, failed.2) (λ fault stands before t. (before, t, (record_crowded c.args.first c.args.room c.args.code_op (ops_in c.args.others.now) (g.B.Bits.as_reader c.args.bits.now) fault before (g.B.Bits.as_reader c.judge.new.self) (judged fault stands), tt)))

pub returns-in_err-code-clause-adds : goal.returns-in_err-code-clause-adds
returns-in_err-code-clause-adds g c =
    let failed = err_from_is_err_and c.from_residual-in_err-code.result c.from_residual-in_err-code.ensures.1 in
    let judged = rw c.requires.singles at c.in_ok-judge.ensures.takes in
    rw (failed.1, failed.2) (λ fault stands before t. (before, t, (record_coded c.args.first c.args.room c.args.code_op (ops_in c.args.others.now) (g.B.Bits.as_reader c.args.bits.now) (g.B.Bits.as_reader c.judge.new.self) fault before (g.B.Bits.as_reader c.read_scalar.new.bits) judged (c.in_err-code.ensures.takes fault stands), tt)))

pub returns-in_err-read_held_values-clause-adds : goal.returns-in_err-read_held_values-clause-adds
returns-in_err-read_held_values-clause-adds g c =
    let failed = err_from_is_err_and c.from_residual-in_err-read_held_values.result c.from_residual-in_err-read_held_values.ensures.1 in
    let judged = rw c.requires.singles at c.in_ok-judge.ensures.takes in
    let read = rw c.requires.singles at c.in_err-read_held_values.ensures.adds in
    rw (failed.1, failed.2) (λ fault stands before t.
    let h = read fault stands before t in
    (h.0, h.1, (record_fails c.args.first c.args.room c.args.code_op (ops_in c.args.others.now) (g.B.Bits.as_reader c.args.bits.now) (g.B.Bits.as_reader c.judge.new.self) c.in_ok-code.code (g.B.Bits.as_reader c.read_scalar.new.bits) fault before h.0 (g.B.Bits.as_reader c.read_held_values.new.bits) judged c.in_ok-code.ensures.takes h.2.0, tt)))

pub returns-clause-adds : goal.returns-clause-adds
returns-clause-adds g c = λ before t.
    let judged = rw c.requires.singles at c.in_ok-judge.ensures.takes in
    let read = rw c.requires.singles at c.in_ok-read_held_values.ensures.adds in
    let fits : c.args.count ≤ c.args.room = search rules in
    let h = read before t in
    (h.0, h.1, (record_read c.args.first c.args.room c.args.code_op (ops_in c.args.others.now) (g.B.Bits.as_reader c.args.bits.now) (g.B.Bits.as_reader c.judge.new.self) c.in_ok-code.code (g.B.Bits.as_reader c.read_scalar.new.bits) before h.0 (g.B.Bits.as_reader c.read_held_values.new.bits) judged c.in_ok-code.ensures.takes h.2.0, omega (arith, h.2.1, fits, c.requires.singles)))
