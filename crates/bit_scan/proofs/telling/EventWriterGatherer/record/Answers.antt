use Rattle.std.proofs.Common.{◌≡◌, ℕ, List}
use Rattle.bit_grammar.specs.Machine.{notes}
use Rattle.bit_events.proofs.Folds.{each_list}
use Rattle.bit_scan.proofs.Tellings.{wrote_line}
use Rattle.bit_scan.proofs.Tellings.{each_lost}
use Rattle.bit_scan.proofs.telling.EventWriterGatherer.record.Goals as goal

pub returns-clause-gathers : goal.returns-clause-gathers
returns-clause-gathers g c =
    each_list (λ (list : List ℕ). c.args.values.now ≡ list) _ c.write.result (λ list took.
    rw (← took) (wrote_line (λ w. w.style) (λ w. w.around) (λ w. w.printer) (λ w. w.stopped) c.args.self.now c.write.new.self (notes (record { abbreviation = c.args.id; code = c.args.code; values = c.args.values.now; first = c.args.first; after = c.args.after })) c.write.result c.write.ensures.written c.write.ensures.stopped c.write.ensures.style c.write.ensures.around))

pub returns-clause-fails : goal.returns-clause-fails
returns-clause-fails g c = each_lost (λ (list : List ℕ). c.args.values.now ≡ list) _ c.write.result (λ list took. rw (← took) c.write.ensures.fails)
