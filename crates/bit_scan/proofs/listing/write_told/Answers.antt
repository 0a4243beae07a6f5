use Rattle.std.proofs.Common.{ℕ, Err, ap, subst}
use Rattle.std.proofs.lemmas.Result.{err_from_is_err_and}
use Rattle.bit_grammar.specs.Terms.{Head}
use Rattle.bit_scan.specs.Lines.{listing_head}
use Rattle.bit_scan.specs.Listing.{left_text}
use Rattle.bit_scan.specs.Printing.{Printed, Prints}
use Rattle.bit_scan.proofs.Lists.{no_head, no_lines, told_ends}
use Rattle.bit_scan.proofs.listing.write_told.Goals as goal

pub returns-in_err-listing_head-clause-prints : goal.returns-in_err-listing_head-clause-prints
returns-in_err-listing_head-clause-prints g c =
    let old = c.args.writer.now.printer in
    let fault = c.in_err-listing_head.field-0.0 in
    let new = c.listing_head.new.self in
    let p = err_from_is_err_and c.from_residual.result c.from_residual.ensures.1 in
    rw (p.1, p.2)
    (no_head c.args.events.now.head.magic (left_text 0 c.args.writer.now.standing c.args.events.now.told.0) old new fault (subst (λ (n : ℕ). Prints (listing_head n) old (Err fault) new) (ap (λ (h : Head). h.magic) c.head.ensures) c.in_err-listing_head.ensures))

pub returns-in_err-write_events-clause-prints : goal.returns-in_err-write_events-clause-prints
returns-in_err-write_events-clause-prints g c =
    let old = c.args.writer.now.printer in
    let now = c.listing_head.new.self in
    let p = err_from_is_err_and c.from_residual-in_err-write_events.result c.from_residual-in_err-write_events.ensures.1 in
    rw (p.1, p.2)
    (no_lines c.args.events.now.head.magic (left_text 0 c.args.writer.now.standing c.args.events.now.told.0) old now c.write_events.new.writer.printer c.in_err-write_events.field-0.0 (subst (λ (n : ℕ). Printed (listing_head n) old now) (ap (λ (h : Head). h.magic) c.head.ensures) c.in_ok-listing_head.ensures)
    c.in_err-write_events.ensures)

pub returns-clause-prints : goal.returns-clause-prints
returns-clause-prints g c =
    let old = c.args.writer.now.printer in
    let now = c.listing_head.new.self in
    told_ends c.args.events.now.head.magic (left_text 0 c.args.writer.now.standing c.args.events.now.told.0) old now c.write_events.new.writer.printer c.finish.new.self c.finish.result (subst (λ (n : ℕ). Printed (listing_head n) old now) (ap (λ (h : Head). h.magic) c.head.ensures) c.in_ok-listing_head.ensures)
    c.in_ok-write_events.ensures c.finish.ensures.prints
