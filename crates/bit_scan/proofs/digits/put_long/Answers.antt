use Rattle.std.proofs.Common.{◌+◌, arith}
use Rattle.bit_scan.proofs.Forwards.{digits_wrote}
use Rattle.std.specs.Prelude.{decimal}
use Rattle.bit_scan.proofs.digits.put_long.Goals as goal

pub write_digits-requires : goal.write_digits-requires
write_digits-requires c = (omega (arith, c.digits_of.ensures.count), omega (arith, c.digits_of.ensures.most, c.requires))

pub returns-clause-long : goal.returns-clause-long
returns-clause-long c =
    let w = c.write_digits in
    (digits_wrote (decimal c.args.number) c.args.at (c.args.at + c.digits_of.result) w.result c.args.bytes.now w.new.buf (omega (arith, c.digits_of.ensures.count)) (omega (arith, c.digits_of.ensures.most, c.requires)) w.ensures.start w.ensures.written w.ensures.before).0

pub returns-clause-wrote : goal.returns-clause-wrote
returns-clause-wrote c =
    let w = c.write_digits in
    (digits_wrote (decimal c.args.number) c.args.at (c.args.at + c.digits_of.result) w.result c.args.bytes.now w.new.buf (omega (arith, c.digits_of.ensures.count)) (omega (arith, c.digits_of.ensures.most, c.requires)) w.ensures.start w.ensures.written w.ensures.before).1
