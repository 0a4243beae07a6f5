use Rattle.std.proofs.Common.{◌≡◌, ◌≢◌, ◌-◌, ℕ, Result, Some, slice_get, ap, sym, ◌∙◌}
use Rattle.std.specs.Option.{option_copied}
use Rattle.bit_grammar.specs.Blocks.{by_definition, entry}
use Rattle.bit_fields.specs.declared.fault.Fault.{Fault}
use Rattle.bit_abbrev.specs.InForce.{found_if_any}
use Rattle.bit_abbrev.specs.Values.{AddsWithin, Gains}
use Rattle.bit_events.specs.Firsts.{TookWithFirst}
use Rattle.bit_events.proofs.Framing.{added_as, by_fault, found_entry, found_is}
use Rattle.bit_events.proofs.frame.entry_in.Goals.{then-id-eq3, else-id-eq3, in-Some-Ready, in-None}
use Rattle.bit_events.proofs.frame.entry_in.Goals as goal

pub returns-in-Some-Held-clause-adds : goal.returns-in-Some-Held-clause-adds
returns-in-Some-Held-clause-adds g c =
    let all = c.args.definitions.now.all in
    let room = c.args.room in
    let ops = c.in-Some-Held.ops in
    let other : c.args.id ≢ 3 = λ three. elim c.if-id-eq3.branch [
      | then-id-eq3 w ↦ absurd (let none = w.found-is in let some = c.in-Some-Held.is in cc)
      | else-id-eq3 w ↦ w.if-id-eq3.false three
    ] in
    let found : slice_get all (c.args.id - 4) ≡ Some ops = elim c.if-id-eq3.branch [
      | then-id-eq3 w ↦ absurd (other w.if-id-eq3.true)
      | else-id-eq3 w ↦ sym w.find-found.ensures ∙ ap found_if_any (sym w.found-is ∙ c.in-Some-Held.is ∙ ap Some c.in-Some-Held.field-0-is)
    ] in
    added_as (TookWithFirst g.V.ValueTaker.took) c.args.values.now c.read_held_record.new.values (by_definition c.args.first room ops) (entry room c.args.first c.args.id all) room c.args.reader.now c.read_held_record.new.bits (λ r takes. found_entry room c.args.first c.args.id all ops c.args.reader.now r c.read_held_record.new.bits other found takes) c.read_held_record.result
    (by_fault (λ (r : Result ℕ Fault). Gains (TookWithFirst g.V.ValueTaker.took) c.args.values.now c.read_held_record.new.values (AddsWithin (by_definition c.args.first room ops) room c.args.reader.now r c.read_held_record.new.bits)) c.read_held_record.result c.read_held_record.ensures.adds)

pub returns-clause-adds : goal.returns-clause-adds
returns-clause-adds g c =
    let all = c.args.definitions.now.all in
    let ready : option_copied c.match-found.ready ≡ found_if_any c.if-id-eq3.found = elim c.match-found.branch [
      | in-Some-Ready w ↦ ap option_copied w.ready-is ∙ ap found_if_any (sym (w.in-Some-Ready.is ∙ ap Some w.in-Some-Ready.field-0-is))
      | in-None w ↦ ap option_copied w.ready-is ∙ ap found_if_any (sym w.in-None.is)
    ] in
    let known : c.args.id ≢ 3 → option_copied c.match-found.ready ≡ slice_get all (c.args.id - 4) = λ other. elim c.if-id-eq3.branch [
      | then-id-eq3 w ↦ absurd (other w.if-id-eq3.true)
      | else-id-eq3 w ↦ ready ∙ ap found_if_any w.found-is ∙ w.find-found.ensures
    ] in
    by_fault (λ (r : Result ℕ Fault). Gains (TookWithFirst g.V.ValueTaker.took) c.args.values.now c.read_entry.new.values (AddsWithin (entry c.args.room c.args.first c.args.id all) c.args.room c.args.reader.now r c.read_entry.new.bits)) c.read_entry.result
    (c.read_entry.ensures.adds all (λ other. found_is (λ (miss fault : Fault). fault ≡ miss) all c.args.id (option_copied c.match-found.ready) (known other)))
