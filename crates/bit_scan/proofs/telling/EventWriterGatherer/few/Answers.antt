use Rattle.std.proofs.Common.{Ok, ap, refl}
use Rattle.bit_grammar.specs.Machine.{Event, notes}
use Rattle.bit_scan.specs.Printing.{Printing}
use Rattle.bit_scan.specs.Styles.{styled_event}
use Rattle.bit_scan.proofs.Prints.{whole_left_out, whole_printed}
use Rattle.bit_scan.proofs.Tellings.{wrote_line}
use Rattle.bit_scan.proofs.telling.EventWriterGatherer.few.Goals as goal

pub returns-in-Ok-clause-gathers : goal.returns-in-Ok-clause-gathers
returns-in-Ok-clause-gathers g c = λ added.
    let old = c.args.self.now in
    let q = c.write_few.new.printer in
    let event : Event = notes (record { abbreviation = c.args.id; code = c.args.code; values = c.args.values.now; first = c.args.first; after = c.args.after }) in
    wrote_line (λ w. w.style) (λ w. w.around) (λ w. w.printer) (λ w. w.stopped) old (record old { printer = q }) event (Ok tt) (whole_printed (styled_event old.style old.around event) old.printer q c.in-Ok.is_added added (c.in-Ok.ensures c.args.after)) refl refl refl

pub returns-in-Ok-clause-declines : goal.returns-in-Ok-clause-declines
returns-in-Ok-clause-declines g c = λ declined.
    let old = c.args.self.now in
    let event : Event = notes (record { abbreviation = c.args.id; code = c.args.code; values = c.args.values.now; first = c.args.first; after = c.args.after }) in
    ap (λ (p : Printing). record old { printer = p }) (whole_left_out (styled_event old.style old.around event) old.printer c.write_few.new.printer c.in-Ok.is_added declined (c.in-Ok.ensures c.args.after))
