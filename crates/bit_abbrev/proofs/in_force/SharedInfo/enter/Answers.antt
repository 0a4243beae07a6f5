use Rattle.std.proofs.Common.{◌≡◌, ◌≤◌, ℕ, List, [], length, refl, sym, ap, ◌∙◌, subst, arith, vec_len}
use Rattle.bit_grammar.specs.declared.op.Op.{Op}
use Rattle.bit_abbrev.specs.declared.finished.FinishedInfo.{FinishedInfo}
use Rattle.bit_abbrev.specs.Groups.{IsPlaceOf}
use Rattle.bit_abbrev.specs.Ready.{InfoLists, table_of}
use Rattle.bit_abbrev.proofs.Grouping.{none_ready}
use Rattle.bit_abbrev.proofs.Tables.{none_held}
use Rattle.bit_abbrev.proofs.in_force.SharedInfo.enter.Goals as goal

pub returns-in_default-clause-all : goal.returns-in_default-clause-all
unfolding table_of
returns-in_default-clause-all c =
    let view = rw c.in_default.is at c.self.view_is in
    c.new.ensures.all ∙ ap (λ (lists : InfoLists). table_of lists c.args.id) view

pub returns-then-len-eq0-clause-all : goal.returns-then-len-eq0-clause-all
unfolding table_of
returns-then-len-eq0-clause-all c =
    let table : FinishedInfo = c.in-Some.table.value in
    let groups = table.groups.items in
    let view = rw c.in-Some.is at c.self.view_is in
    let items = c.as_slice.ensures.value ∙ ap (λ (t : FinishedInfo). t.groups.items) c.deref.ensures in
    let is = subst (λ (g : List (ℕ × List (List Op))). IsPlaceOf g c.args.id c.place_of-place.result) items c.place_of-place.ensures in
    let many : c.len.result ≡ length groups = omega (arith, c.len.ensures, ap (λ (t : FinishedInfo). vec_len t.groups) c.deref-2.ensures, table.groups.ok.0) in
    let past : length groups ≤ c.place_of-place.result = omega (arith, many, c.if-place-len.true) in
    let few : length table.later ≡ 0 = sym (ap (λ (t : FinishedInfo). length t.later) c.deref-then-place-len.ensures) ∙ sym c.len-then-place-len.ensures.len ∙ c.if-len-eq0.true in
    let ready = none_ready groups c.args.id c.place_of-place.result is past in
    let held = none_held table.later c.args.id few in
    let none : [] ≡ table_of (record { ready = groups; later = table.later }) c.args.id = rw (ready, held) refl in
    c.new-then-len-eq0.ensures.all ∙ none ∙ ap (λ (lists : InfoLists). table_of lists c.args.id) view
