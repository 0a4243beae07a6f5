use Rattle.bit_fields.specs.PlacedView.{loaded}
use Rattle.bit_abbrev.proofs.PassedRecords.{two_before, plain_passed}
use Rattle.bit_abbrev.proofs.plan.passing.pass_plain.Goals as goal

pub sixes_len-requires-clause-numbers : goal.sixes_len-requires-clause-numbers
sixes_len-requires-clause-numbers c = (two_before (loaded c.args.fields) c.in_ok-code.code (loaded c.in_ok-code.behind) c.in_ok-count.count (loaded c.in_ok-count.values) c.in_ok-code.ensures.reads c.in_ok-count.ensures.reads).0

pub sixes_len-requires-clause-behind : goal.sixes_len-requires-clause-behind
sixes_len-requires-clause-behind c = (two_before (loaded c.args.fields) c.in_ok-code.code (loaded c.in_ok-code.behind) c.in_ok-count.count (loaded c.in_ok-count.values) c.in_ok-code.ensures.reads c.in_ok-count.ensures.reads).1

pub returns : goal.returns
returns c = λ room few. plain_passed room c.in_ok-code.code c.in_ok-count.count c.in_ok-sixes_len.field-0 (loaded c.args.fields) (loaded c.in_ok-code.behind) (loaded c.in_ok-count.values) few c.in_ok-code.ensures.reads c.in_ok-count.ensures.reads c.in_ok-sixes_len.ensures
