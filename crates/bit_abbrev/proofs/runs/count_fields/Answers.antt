use Rattle.bit_grammar.specs.Record.{scalar}
use Rattle.bit_fields.specs.Buffered.{reader_at}
use Rattle.bit_abbrev.proofs.Buffered.{past_gained}
use Rattle.bit_abbrev.proofs.runs.count_fields.Goals as goal

pub returns-then-pass-clause-adds : goal.returns-then-pass-clause-adds
returns-then-pass-clause-adds g c = past_gained g.V.ValueTaker.took c.args.values.now c.pass.new.self (scalar c.args.element) c.skip_fields-count.result (reader_at c.args.buffered.now) (reader_at c.skip_fields-count.new.buffered) (c.pass.ensures.yes c.if-pass.true) c.skip_fields-count.ensures.skips
