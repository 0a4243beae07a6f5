use Rattle.std.proofs.Common.{◌≡◌, ◌-◌, List, [], length, Some, subst, slice_get}
use Rattle.std.specs.Prelude.{IfOk}
use Rattle.std.proofs.lemmas.Result.{IfOk-weaker}
use Rattle.bit_fields.specs.PlacedView.{placed}
use Rattle.bit_grammar.specs.Machine.{Event}
use Rattle.bit_grammar.specs.Counting.{Counts, count_events, no_counts}
use Rattle.bit_events.specs.Passing.{PassesRecords, PassesRun}
use Rattle.bit_events.proofs.PassedOver.{none_gathered}
use Rattle.bit_scan.specs.Counting.{open_counts}
use Rattle.bit_scan.specs.Rows.{block_tallies}
use Rattle.bit_scan.specs.declared.counter.CountedBlock.{CountedBlock}
use Rattle.bit_scan.specs.Cut.{capped_counts}
use Rattle.bit_scan.proofs.PassedRows.{both_told, run_gathered}
use Rattle.bit_scan.proofs.counter.CounterGatherer.pass.Goals as goal

pub returns-in-Some-clause-gathers : goal.returns-in-Some-clause-gathers
returns-in-Some-clause-gathers g c =
    let opened = c.self.inside.open.items in
    let x = c.in-Some.block.now in
    let definitions = c.args.definitions.now.all in
    let innermost : Some x ≡ slice_get opened (length opened - 1) = subst (λ (blocks : List CountedBlock). Some x ≡ slice_get blocks (length blocks - 1)) c.deref.ensures.value c.in-Some.ensures.value in
    subst (λ (old : Counts). IfOk c.pass.result (λ run. PassesRun (λ (first : Counts) (events : List Event) (last : Counts). last ≡ capped_counts (count_events events no_counts)) c.args.width definitions c.args.room (placed c.args.bits) old run (record { rows = block_tallies c.pass.new.self.rows.entries; around = open_counts opened }))) c.self.view_is
    (both_told _ _ c.pass.result (IfOk-weaker c.pass.result _ _ (λ run passed. passed.1.less) c.pass.ensures)
    (run_gathered (PassesRecords c.args.width definitions c.args.room (placed c.args.bits)) c.pass.result c.self.inside.rows.rows.entries c.pass.new.self.rows.entries opened x innermost c.pass.ensures))

pub returns-in-None-clause-gathers : goal.returns-in-None-clause-gathers
returns-in-None-clause-gathers g c =
    ((c.none.ensures 0 []).less, ([], c.none.ensures c.args.width c.args.definitions.now.all, none_gathered (λ (first : Counts) (events : List Event) (last : Counts). last ≡ capped_counts (count_events events no_counts)) c.args.self.now))
