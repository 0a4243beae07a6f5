use Rattle.std.proofs.Common.{ℕ, List, [], Option, sym, ap, ◌∙◌}
use Rattle.std.specs.Option.{option_map_or}
use Rattle.bit_grammar.specs.declared.op.Op.{Op}
use Rattle.bit_abbrev.proofs.Grouping.{ready_there, at_place}
use Rattle.bit_abbrev.proofs.from_table.FromTable.ready.Goals as goal

pub returns-in-Some : goal.returns-in-Some
returns-in-Some c =
    let groups = c.args.self.now.table.value.groups.items in
    c.ready.ensures ∙ sym (ready_there groups c.args.self.now.id c.args.self.now.place c.args.self.now.found ∙ at_place groups c.args.self.now.place c.in-Some.group.now (sym c.in-Some.ensures))

pub returns-in-None : goal.returns-in-None
returns-in-None c =
    let groups = c.args.self.now.table.value.groups.items in
    sym (ready_there groups c.args.self.now.id c.args.self.now.place c.args.self.now.found ∙ ap (λ (o : Option (ℕ × List (List Op))). option_map_or (λ g. g.1) o []) (sym c.in-None.ensures))
