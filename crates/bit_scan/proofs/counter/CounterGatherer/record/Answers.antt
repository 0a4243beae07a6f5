use Rattle.std.proofs.Common.{◌≡◌, ◌-◌, ◌^◌, ◌∙◌, ℕ, List, length, min, leb, ap}
use Rattle.bit_grammar.specs.Machine.{Event, notes}
use Rattle.bit_grammar.specs.Counting.{count_event}
use Rattle.bit_events.proofs.Folds.{each_list}
use Rattle.bit_scan.specs.Counting.{added_here}
use Rattle.bit_scan.specs.Cut.{capped_counts}
use Rattle.bit_scan.specs.declared.rows.Addition.TheVariants as addition
use Rattle.bit_scan.proofs.Counted.{gathers_counts, then_same, same_values}
use Rattle.bit_scan.proofs.counter.CounterGatherer.record.Goals as goal

pub returns-clause-gathers : goal.returns-clause-gathers
returns-clause-gathers g c =
    each_list (λ (list : List ℕ). c.args.values.now.count ≡ min (length list) (2 ^ 64 - 1)) _ c.count_here.result (λ list took.
    let event : Event = notes (record { abbreviation = c.args.id; code = c.args.code; values = list; first = c.args.first; after = c.args.after }) in
    gathers_counts c.args.self.now c.count_here.new.self event c.count_here.result (λ counts is.
    then_same c.count_here.result c.count_here.new.self (capped_counts (added_here (addition.Record c.args.code (leb 4 c.args.id) c.count.result c.saturating_sub.result) counts)) (capped_counts (count_event event counts)) (c.count_here.ensures counts is)
    (same_values c.args.code (leb 4 c.args.id) c.count.result (length list) c.saturating_sub.result counts (c.count.ensures list took) ∙ ap (λ (bits : ℕ). capped_counts (added_here (addition.Record c.args.code (leb 4 c.args.id) (length list) bits) counts)) c.saturating_sub.ensures)))
