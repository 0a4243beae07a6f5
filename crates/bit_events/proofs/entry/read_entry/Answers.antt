use Rattle.std.proofs.Common.{ℕ, Result, sym, ◌∙◌}
use Rattle.std.proofs.lemmas.Result.{err_from_is_err_and}
use Rattle.bit_grammar.specs.Blocks.{entry}
use Rattle.bit_grammar.specs.Record.{abbreviated, unabbreviated}
use Rattle.bit_fields.specs.declared.fault.Fault.{Fault}
use Rattle.bit_abbrev.specs.Values.{AddsWithin, Gains}
use Rattle.bit_abbrev.proofs.Missing.{answers_so}
use Rattle.bit_events.proofs.Framing.{plain_entry, short_entry, shapeless_entry, no_entry, added_as, fails_so}
use Rattle.bit_events.proofs.entry.read_entry.Goals as goal

pub returns-then-id-eq3-clause-adds : goal.returns-then-id-eq3-clause-adds
returns-then-id-eq3-clause-adds g c = λ definitions known.
    let room = c.args.room in
    let a = g.B.Bits.as_reader c.args.bits.now in
    let b = g.B.Bits.as_reader c.read_plain.new.bits in
    let took = g.V.ValueTaker.took in
    let old = c.args.values.now in
    let new = c.read_plain.new.values in
    let rule = entry room c.args.first c.args.id definitions in
    answers_so g.B.Bits.faults (λ (r : Result ℕ Fault). Gains took old new (AddsWithin (unabbreviated room) room a r b)) (λ (r : Result ℕ Fault). Gains took old new (AddsWithin rule room a r b)) c.read_plain.result
    (added_as took old new (unabbreviated room) rule room a b (λ s takes. plain_entry room c.args.first c.args.id definitions a s b c.if-id-eq3.true takes))
    c.read_plain.ensures.adds

pub returns-in_err-judge-clause-adds : goal.returns-in_err-judge-clause-adds
returns-in_err-judge-clause-adds g c = λ definitions known.
    let failed = err_from_is_err_and c.from_residual.result c.from_residual.ensures.1 in
    rw (failed.1, failed.2) (λ fault stands before t. (
      before,
      t,
      fails_so (entry c.args.room c.args.first c.args.id definitions) c.args.room (g.B.Bits.as_reader c.args.bits.now) fault (g.B.Bits.as_reader c.judge.new.self) before
          (no_entry c.args.room c.args.first c.args.id definitions (g.B.Bits.as_reader c.args.bits.now) fault (g.B.Bits.as_reader c.judge.new.self) c.if-id-eq3.false ((rw c.in_default.is at (known c.if-id-eq3.false)) _ fault stands) (c.in_err-judge.ensures.takes fault stands)),
    ))

pub returns-in_err-judge-2-clause-adds : goal.returns-in_err-judge-2-clause-adds
returns-in_err-judge-2-clause-adds g c = λ definitions known.
    let failed = err_from_is_err_and c.from_residual-in_err-judge-2.result c.from_residual-in_err-judge-2.ensures.1 in
    let judged = rw c.is_usable.ensures at c.in_err-judge-2.ensures.takes in
    rw (failed.1, failed.2) (λ fault stands before t. (
      before,
      t,
      fails_so (entry c.args.room c.args.first c.args.id definitions) c.args.room (g.B.Bits.as_reader c.args.bits.now) fault (g.B.Bits.as_reader c.judge-2.new.self) before
          (shapeless_entry c.args.room c.args.first c.args.id definitions c.in-Some.abbrev.now (g.B.Bits.as_reader c.args.bits.now) fault (g.B.Bits.as_reader c.judge-2.new.self) c.if-id-eq3.false (rw c.in-Some.is at (known c.if-id-eq3.false)) (judged fault stands)),
    ))

pub returns-clause-adds : goal.returns-clause-adds
returns-clause-adds g c = λ definitions known.
    let room = c.args.room in
    let ops = c.in-Some.abbrev.now in
    let a = g.B.Bits.as_reader c.args.bits.now in
    let b = g.B.Bits.as_reader c.read_record.new.bits in
    let took = g.V.ValueTaker.took in
    let old = c.args.values.now in
    let new = c.read_record.new.values in
    let shape = sym c.is_usable.ensures ∙ c.in_ok-judge-2.ensures.holds in
    answers_so g.B.Bits.faults (λ (r : Result ℕ Fault). Gains took old new (AddsWithin (abbreviated c.args.first room ops) room a r b)) (λ (r : Result ℕ Fault). Gains took old new (AddsWithin (entry room c.args.first c.args.id definitions) room a r b)) c.read_record.result
    (added_as took old new (abbreviated c.args.first room ops) (entry room c.args.first c.args.id definitions) room a b (λ s takes. short_entry room c.args.first c.args.id definitions ops a s b c.if-id-eq3.false (rw c.in-Some.is at (known c.if-id-eq3.false)) shape takes))
    (rw c.in_ok-judge-2.ensures.same at c.read_record.ensures.adds)
