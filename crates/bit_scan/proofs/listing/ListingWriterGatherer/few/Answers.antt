use Rattle.std.proofs.Common.{◌≡◌, ◌∙◌, Ok, true, false, refl, sym}
use Rattle.bit_grammar.specs.Machine.{Event, notes}
use Rattle.bit_grammar.specs.Texts.{event_text}
use Rattle.bit_events.specs.Standing.{leaves}
use Rattle.bit_scan.proofs.Lists.{not_left, wrote_line}
use Rattle.bit_scan.proofs.Prints.{whole_printed}
use Rattle.bit_scan.proofs.listing.ListingWriterGatherer.few.Goals as goal

pub returns-then-not-leaves_record-clause-gathers : goal.returns-then-not-leaves_record-clause-gathers
returns-then-not-leaves_record-clause-gathers g c = λ added.
    let old = c.args.self.now in
    let event : Event = notes (record { abbreviation = c.args._id; code = c.args.code; values = c.args.values.now; first = c.args._first; after = c.args._after }) in
    let isnt : leaves old.standing event ≡ false = sym c.leaves_record.ensures ∙ c.if-not-leaves_record.true in
    wrote_line (λ w. w.standing) (λ w. w.around) (λ w. w.printer) (λ w. w.stopped) old old event (Ok tt) (not_left old.standing old.around event old.printer isnt) refl refl (rw isnt refl)

pub returns-in-Ok-clause-gathers : goal.returns-in-Ok-clause-gathers
returns-in-Ok-clause-gathers g c = λ added.
    let old = c.args.self.now in
    let q = c.record_line.new.self in
    let event : Event = notes (record { abbreviation = c.args._id; code = c.args.code; values = c.args.values.now; first = c.args._first; after = c.args._after }) in
    let is : leaves old.standing event ≡ true = sym c.leaves_record.ensures ∙ c.if-not-leaves_record.false in
    wrote_line (λ w. w.standing) (λ w. w.around) (λ w. w.printer) (λ w. w.stopped) old (record old { printer = q }) event (Ok tt) (rw is (whole_printed (event_text old.around event) old.printer q c.in-Ok.is_added added c.in-Ok.ensures)) refl refl (rw is refl)
