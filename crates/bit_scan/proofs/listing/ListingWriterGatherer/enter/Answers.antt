use Rattle.bit_grammar.specs.Machine.{enters}
use Rattle.bit_scan.proofs.Lists.{wrote_line}
use Rattle.bit_scan.proofs.listing.ListingWriterGatherer.enter.Goals as goal

pub returns-clause-gathers : goal.returns-clause-gathers
returns-clause-gathers g c = wrote_line (λ w. w.standing) (λ w. w.around) (λ w. w.printer) (λ w. w.stopped) c.args.self.now c.write.new.self (enters (record { id = c.args.id; width = c.args.width; first = c.args.first; body = c.args.body })) c.write.result c.write.ensures.written c.write.ensures.stopped c.write.ensures.stands c.write.ensures.around
