use Rattle.std.proofs.Common.{◌≡◌, subst}
use Rattle.bit_grammar.specs.declared.op.Place.TheVariants.{First}
use Rattle.bit_grammar.specs.Definition.{operands}
use Rattle.bit_grammar.specs.Terms.{defined_at}
use Rattle.bit_abbrev.specs.Groups.{ready_at}
use Rattle.bit_abbrev.specs.Ready.{InfoMade, later_list, table_of}
use Rattle.bit_abbrev.proofs.Operands.{adds_so}
use Rattle.bit_abbrev.proofs.Tables.{later_more, newest_any}
use Rattle.bit_abbrev.proofs.builder.InfoBuilder.read_held.Goals as goal

pub returns : goal.returns
returns g c =
    let groups = c.self.inside.groups.items in
    let new = later_list c.read_later.new.later in
    adds_so (operands c.args.shapes c.args.count First) c.args.reader.now c.read_later.result c.read_later.new.reader (λ ops is. (
      subst (λ (old : InfoMade). table_of (record { ready = groups; later = new }) ≡ defined_at c.args.id ops (table_of old.made)) c.self.view_is (later_more groups (later_list c.self.inside.later) new c.args.id ops is.0),
      newest_any (ready_at groups c.self.inside.place) c.read_later.new.later ops is.1,
    )) c.read_later.ensures
