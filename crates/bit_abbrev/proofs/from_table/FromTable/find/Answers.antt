use Rattle.std.proofs.Common.{◌≡◌, ◌+◌, ◌-◌, ◌<◌, ◌≤◌, ℕ, List, length, sym, ap, ◌∙◌, arith, slice_get}
use Rattle.std.proofs.lemmas.List.{length-append}
use Rattle.bit_grammar.specs.declared.op.Op.{Op}
use Rattle.bit_abbrev.specs.declared.finished.FinishedInfo.{FinishedInfo}
use Rattle.bit_abbrev.specs.Groups.{ready_for}
use Rattle.bit_abbrev.specs.HeldLists.{all_of, held_for}
use Rattle.bit_abbrev.specs.Ready.{table_of}
use Rattle.bit_abbrev.proofs.HeldLists.{run_length, run_at}
use Rattle.bit_abbrev.proofs.Places.{in_front, behind_at, was_read}
use Rattle.bit_abbrev.proofs.from_table.FromTable.find.Goals as goal

pub returns-in-Some-clause-found : goal.returns-in-Some-clause-found
unfolding table_of
returns-in-Some-clause-found c =
    let table : FinishedInfo = c.args.self.now.table.value in
    let id = c.args.self.now.id in
    let at = was_read c.ready-ready.result.now c.args.index c.in-Some.«abbrev».now c.in-Some.ensures.lookup.3 in
    let there = ap (λ (l : List (List Op)). slice_get l c.args.index) (sym c.ready-ready.ensures) ∙ at in
    in_front (ready_for table.groups.items id) (held_for table.later id) c.args.index c.in-Some.«abbrev».now there

pub returns-then-behind-held-clause-count : goal.returns-then-behind-held-clause-count
unfolding table_of
returns-then-behind-held-clause-count c =
    let table : FinishedInfo = c.args.self.now.table.value in
    let ready = ready_for table.groups.items c.args.self.now.id in
    let held = run_length table.later c.args.self.now.id c.held-held.result c.held-held.ensures in
    omega (arith, ap length c.ready-ready.ensures, length-append ready (held_for table.later c.args.self.now.id), held)

pub returns-clause-found : goal.returns-clause-found
unfolding table_of
returns-clause-found c =
    let table : FinishedInfo = c.args.self.now.table.value in
    let id = c.args.self.now.id in
    let run = c.held-held.result in
    let ready = ready_for table.groups.items id in
    let held = held_for table.later id in
    let count : length c.ready-ready.result.now ≡ length ready = ap length c.ready-ready.ensures in
    let past : length ready ≤ c.args.index = omega (arith, count, c.in_default.ensures.lookup.3) in
    let within : c.args.index - length ready < run.end - run.start = omega (arith, count, c.if-behind-held.false) in
    let place : run.start + (c.args.index - length c.ready-ready.result.now) ≡ run.start + (c.args.index - length ready) = omega (arith, count) in
    let at = run_at table.later id run (c.args.index - length ready) c.held-held.ensures within in
    let found = ap (λ (t : FinishedInfo). slice_get (all_of t.later) (run.start + (c.args.index - length c.ready-ready.result.now))) (sym c.deref.ensures) ∙ c.at.ensures in
    behind_at ready held c.args.index past ∙ sym at ∙ ap (λ (k : ℕ). slice_get (all_of table.later) k) (sym place) ∙ found
