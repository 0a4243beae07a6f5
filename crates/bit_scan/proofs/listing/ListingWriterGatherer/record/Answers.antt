use Rattle.std.proofs.Common.{◌≡◌, ◌∙◌, ℕ, List, Ok, true, false, refl, sym}
use Rattle.bit_grammar.specs.Machine.{Event, notes}
use Rattle.bit_grammar.specs.Texts.{event_text}
use Rattle.bit_events.specs.Standing.{leaves}
use Rattle.bit_events.proofs.Folds.{each_list}
use Rattle.bit_scan.proofs.Lists.{left_failed, not_left, on_any, wrote_line}
use Rattle.bit_scan.proofs.Tellings.{each_lost, line_written, none_kept}
use Rattle.bit_scan.proofs.listing.ListingWriterGatherer.record.Goals as goal

pub returns-then-leaves_record-clause-gathers : goal.returns-then-leaves_record-clause-gathers
returns-then-leaves_record-clause-gathers g c =
    let old = c.args.self.now in
    let q = c.write_record-done.new.printer in
    let event : Event = notes (record { abbreviation = c.args._id; code = c.args.code; values = c.args.values.now; first = c.args._first; after = c.args._after }) in
    let is : leaves old.standing event ≡ true = sym c.leaves_record.ensures ∙ c.if-leaves_record.true in
    each_list (λ (list : List ℕ). c.args.values.now ≡ list) _ c.kept.result (λ list took.
    rw (← took) (wrote_line (λ w. w.standing) (λ w. w.around) (λ w. w.printer) (λ w. w.stopped) old (record old { printer = q; stopped = c.kept.new.stopped }) event c.kept.result
    (rw is (line_written (event_text old.around event) old.printer q c.write_record-done.result old.stopped c.kept.result c.kept.new.stopped c.write_record-done.ensures c.kept.ensures))
    (none_kept c.write_record-done.result old.stopped c.kept.result c.kept.new.stopped c.kept.ensures) (on_any c.kept.result refl) (on_any c.kept.result (rw is refl))))

pub returns-then-leaves_record-clause-fails : goal.returns-then-leaves_record-clause-fails
returns-then-leaves_record-clause-fails g c =
    let old = c.args.self.now in
    let q = c.write_record-done.new.printer in
    let event : Event = notes (record { abbreviation = c.args._id; code = c.args.code; values = c.args.values.now; first = c.args._first; after = c.args._after }) in
    let is : leaves old.standing event ≡ true = sym c.leaves_record.ensures ∙ c.if-leaves_record.true in
    each_lost (λ (list : List ℕ). c.args.values.now ≡ list) _ c.kept.result (λ list took.
    rw (← took) (left_failed old.standing old.around event old.printer q c.write_record-done.result old.stopped c.kept.result c.kept.new.stopped (rw is c.write_record-done.ensures) c.kept.ensures))

pub returns-clause-gathers : goal.returns-clause-gathers
returns-clause-gathers g c = λ list took.
    let old = c.args.self.now in
    let event : Event = notes (record { abbreviation = c.args._id; code = c.args.code; values = list; first = c.args._first; after = c.args._after }) in
    let isnt : leaves old.standing event ≡ false = sym c.leaves_record.ensures ∙ c.if-leaves_record.false in
    wrote_line (λ w. w.standing) (λ w. w.around) (λ w. w.printer) (λ w. w.stopped) old old event (Ok tt) (not_left old.standing old.around event old.printer isnt) refl refl (rw isnt refl)
