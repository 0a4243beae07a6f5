use Rattle.std.proofs.Common.{Ok, take}
use Rattle.bit_scan.proofs.Batches.{first_pushed}
use Rattle.bit_scan.proofs.record_lines.put_byte_list.Goals as goal

pub returns-in-Some-clause-wrote : goal.returns-in-Some-clause-wrote
returns-in-Some-clause-wrote c =
    first_pushed c.args.values.now c.in-Some.others.now c.in-Some.first.now (Ok tt) (take c.args.at c.args.bytes.now) _ _ c.in-Some.ensures.cases.0 c.put_json_number-end.ensures.wrote c.put_byte_items.ensures.wrote
