use Rattle.bit_fields.proofs.Expecting.{one_taken}
use Rattle.bit_fields.proofs.expected.ExpectedValuesValueTaker.take.Goals as goal

pub returns-clause-ok : goal.returns-clause-ok
returns-clause-ok c = one_taken c.take_far.result c.args.value c.args.self.now c.take_far.new.self c.take_far.ensures.ok c.take_far.ensures.next.0
