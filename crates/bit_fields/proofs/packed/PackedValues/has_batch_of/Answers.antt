use Rattle.std.proofs.Common.{◌∙◌, sym}
use Rattle.bit_fields.proofs.Unlike.{run_begins}
use Rattle.bit_fields.proofs.packed.PackedValues.has_batch_of.Goals as goal

pub returns : goal.returns
returns c = record {
  same = λ same.
      run_begins c.args.place c.bytes_from-first.result.now c.args.self.now c.bytes_from-first.ensures c.if-first-lt-BATCH.false
      ∙ c.are_equal.ensures same
      ∙ sym (run_begins c.args.place c.bytes_from-second.result.now c.args.other.now c.bytes_from-second.ensures c.if-second-lt-BATCH.false);
}
