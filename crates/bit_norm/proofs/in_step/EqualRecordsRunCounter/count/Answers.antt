use Rattle.std.proofs.Common.{sym, ◌∙◌, arith}
use Rattle.bit_events.specs.Passing.{mark_of}
use Rattle.bit_norm.proofs.PassedRecords.{counted_kept, counted_out}
use Rattle.bit_norm.proofs.in_step.EqualRecordsRunCounter.count.Goals as goal

pub returns-in_ok-self-2-clause-counts : goal.returns-in_ok-self-2-clause-counts
returns-in_ok-self-2-clause-counts c = λ _ list many first done counts.
    counted_kept first c.args.self.now done (mark_of c.args.passed list) counts (omega arith) c.in_ok-self.field-0 c.in_ok-self-2.field-0 c.in_ok-self.ensures c.in_ok-self-2.ensures (sym c.leaves_record.ensures ∙ c.if-leaves_record.true)

pub returns-else-leaves_record-clause-counts : goal.returns-else-leaves_record-clause-counts
returns-else-leaves_record-clause-counts c = λ _ list many first done counts.
    counted_out first c.args.self.now done (mark_of c.args.passed list) counts (omega arith) c.in_ok-self.field-0 c.in_ok-self.ensures (sym c.leaves_record.ensures ∙ c.if-leaves_record.false)
