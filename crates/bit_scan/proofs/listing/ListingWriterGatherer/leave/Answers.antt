use Rattle.bit_grammar.specs.Machine.{leaves}
use Rattle.bit_scan.proofs.Lists.{wrote_line}
use Rattle.bit_scan.proofs.listing.ListingWriterGatherer.leave.Goals as goal

pub returns-clause-gathers : goal.returns-clause-gathers
returns-clause-gathers g c = wrote_line (λ w. w.standing) (λ w. w.around) (λ w. w.printer) (λ w. w.stopped) c.args.self.now c.write.new.self (leaves c.args.after) c.write.result c.write.ensures.written c.write.ensures.stopped c.write.ensures.stands c.write.ensures.around
