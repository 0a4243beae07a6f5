use Rattle.std.proofs.Common.{◌++◌, inl, refl, subst}
use Rattle.bit_grammar.specs.Setting.{setting_of}
use Rattle.bit_fields.specs.Devices.{Incoming}
use Rattle.bit_events.specs.Events.{Begun}
use Rattle.bit_events.specs.Standing.{OpenUnder}
use Rattle.bit_scan.specs.Listing.{told_text, left_text}
use Rattle.bit_scan.specs.Lines.{listing_head}
use Rattle.bit_scan.specs.Printing.{Prints}
use Rattle.bit_scan.proofs.Prints.{sink_back}
use Rattle.bit_scan.proofs.listing.write_listing.Goals as goal

pub returns : goal.returns
returns g c =
    let events = c.in-Ok.events in
    let begun = subst (λ (i : Incoming). Begun c.args.limits i events) c.new.ensures c.in-Ok.ensures.begun in
    inl (
      begun.capped,
      (events.head, events.told),
      begun.told refl,
      sink_back (told_text (setting_of c.args.info) events.head events.told) c.write_told-answer.result (g.K.Sink.outgoing c.args.sink) (g.K.Sink.outgoing c.into_sink.result) c.new-2.result c.write_told-answer.new.writer.printer c.new-2.ensures c.into_sink.ensures
          (subst (λ (st : OpenUnder). Prints (listing_head events.head.magic ++ left_text 0 st events.told.0) c.new-2.result c.write_told-answer.result c.write_told-answer.new.writer.printer) c.new-3.ensures c.write_told-answer.ensures.prints) c.write_told-answer.ensures.all,
    )
