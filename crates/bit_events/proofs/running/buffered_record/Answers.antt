use Rattle.std.proofs.Common.{◌≡◌, ◌≢◌, ◌-◌, [], Some, IfSome, slice_get, sym, subst}
use Rattle.std.specs.Option.{option_copied}
use Rattle.bit_grammar.specs.Blocks.{entry}
use Rattle.bit_fields.specs.Buffered.{reader_at}
use Rattle.bit_events.specs.Runs.{IsDefinition}
use Rattle.bit_events.proofs.Framing.{ready_or_missed}
use Rattle.bit_events.proofs.Runs.{added_behind}
use Rattle.bit_events.proofs.running.buffered_record.Goals as goal

pub returns-in-Ok-clause-reads : goal.returns-in-Ok-clause-reads
returns-in-Ok-clause-reads g c =
    let all = c.args.definitions.now.all in
    let id = c.args.id in
    let is : IfSome c.get-abbrev.result (λ one. slice_get all (id - 4) ≡ Some one.now) = rw c.saturating_sub.ensures at c.get-abbrev.ensures in
    let known : id ≢ 3 → IsDefinition _ all id (option_copied c.get-abbrev.result) = λ other. ready_or_missed _ all id c.get-abbrev.result is in
    let added = c.in-Ok.ensures.adds all known [] c.requires.none in
    let read = added_behind (entry c.args.room c.args.first id all) c.args.room (reader_at c.args.buffered) c.in-Ok.code (reader_at c.read_entry.new.bits) [] added.0 added.2 in
    (read.0, subst (g.V.ValueTaker.took c.read_entry.new.values) read.1 added.1, (c.read_entry.new.bits, sym c.position.ensures, read.2.0, read.2.1))
