use Rattle.bit_scan.proofs.Parted.{noted_whole}
use Rattle.bit_scan.proofs.telling.write_noted_whole.Goals as goal

pub returns-in-Some : goal.returns-in-Some
returns-in-Some g c =
    let n = c.args.noted in
    noted_whole c.args.values c.args.around n.first n.code n.abbreviation n.count c.args.listed.now c.in-Some.shown.now c.args.printer.now c.noted_record.result c.noted_record.new.self c.requires c.in-Some.ensures.0 c.noted_record.ensures
