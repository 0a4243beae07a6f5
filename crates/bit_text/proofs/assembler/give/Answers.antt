use Rattle.std.proofs.Common.{ℕ, Result, Ok, sym, subst}
use Rattle.bit_fields.specs.declared.fault.Fault.{Fault}
use Rattle.bit_text.specs.Assembling.{Writes}
use Rattle.bit_text.specs.Listings.{told_all}
use Rattle.bit_text.proofs.Finishing.{form_used, fault_used, if_ok}
use Rattle.bit_text.proofs.Spelling.{same_byte}
use Rattle.bit_text.proofs.Tellings.{told_closed, none_open}
use Rattle.bit_text.proofs.assembler.give.Goals as goal

pub returns-then-not-is_complete : goal.returns-then-not-is_complete
returns-then-not-is_complete g c = λ limits magic calls was.
    let told = if_ok c.close.result _ (sym c.if-is_err.ensures.value) c.close.ensures.told limits magic calls was in
    let none = none_open limits magic calls c.close.new.writer (told_closed limits magic calls c.close.new.writer told) in
    let done = same_byte c.close.new.writer.depth 0 none in
    let open_still = c.if-not-is_complete.ensures in
    absurd cc

pub returns-in-Ok : goal.returns-in-Ok
returns-in-Ok g c = λ limits magic calls was.
    let told = if_ok c.close.result _ (sym c.if-is_err.ensures.value) c.close.ensures.told limits magic calls was in
    let closed = told_closed limits magic calls c.close.new.writer told in
    let old = g.K.Sink.outgoing c.args.sink in
    let new = g.K.Sink.outgoing c.finish-written.result.1 in
    subst (λ (r : Result ℕ Fault). Writes (Ok (told_all magic calls)) limits old r new) c.in-Ok.is (form_used limits magic calls c.close.new.writer old new c.finish-written.result.0 closed c.finish-written.ensures.form c.finish-written.ensures.fit)

pub returns-in-Err : goal.returns-in-Err
returns-in-Err g c = λ limits magic calls was.
    let told = if_ok c.close.result _ (sym c.if-is_err.ensures.value) c.close.ensures.told limits magic calls was in
    let closed = told_closed limits magic calls c.close.new.writer told in
    let old = g.K.Sink.outgoing c.args.sink in
    let new = g.K.Sink.outgoing c.finish-written.result.1 in
    fault_used (Ok (told_all magic calls)) limits old new c.in-Err.fault (subst (λ (r : Result ℕ Fault). Writes (Ok (told_all magic calls)) limits old r new) c.in-Err.is (form_used limits magic calls c.close.new.writer old new c.finish-written.result.0 closed c.finish-written.ensures.form c.finish-written.ensures.fit))
