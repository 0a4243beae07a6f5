use Rattle.std.proofs.Common.{◌≡◌, length, sym, ap, ◌∙◌, arith}
use Rattle.std.proofs.lemmas.List.{length-append}
use Rattle.bit_abbrev.specs.declared.finished.FinishedInfo.{FinishedInfo}
use Rattle.bit_abbrev.specs.Groups.{ready_for}
use Rattle.bit_abbrev.specs.HeldLists.{held_for}
use Rattle.bit_abbrev.specs.Ready.{table_of}
use Rattle.bit_abbrev.proofs.HeldLists.{run_length}
use Rattle.bit_abbrev.proofs.Tables.{none_held}
use Rattle.bit_abbrev.proofs.from_table.FromTable.len.Goals as goal

pub returns-then-len-eq0 : goal.returns-then-len-eq0
unfolding table_of
returns-then-len-eq0 c =
    let table : FinishedInfo = c.args.self.now.table.value in
    let ready = ready_for table.groups.items c.args.self.now.id in
    let few : length table.later ≡ 0 = sym (ap (λ (t : FinishedInfo). length t.later) c.deref.ensures) ∙ sym c.len.ensures.len ∙ c.if-len-eq0.true in
    let held : length (held_for table.later c.args.self.now.id) ≡ 0 = ap length (none_held table.later c.args.self.now.id few) in
    omega (arith, ap length c.ready-ready.ensures, length-append ready (held_for table.later c.args.self.now.id), held)

pub returns : goal.returns
unfolding table_of
returns c =
    let table : FinishedInfo = c.args.self.now.table.value in
    let ready = ready_for table.groups.items c.args.self.now.id in
    let held = run_length table.later c.args.self.now.id c.held-held.result c.held-held.ensures in
    omega (arith, ap length c.ready-ready.ensures, length-append ready (held_for table.later c.args.self.now.id), held)
