use Rattle.bit_scan.proofs.Parted.{noted_whole}
use Rattle.bit_scan.proofs.telling.write_noted_few.Goals as goal

pub returns : goal.returns
returns g c =
    let n = c.args.noted in
    noted_whole c.args.values c.args.around n.first n.code n.abbreviation n.count c.args.few.now c.shown_few.result.now c.args.printer.now c.noted_record.result c.noted_record.new.self c.requires.count c.shown_few.ensures.shown c.noted_record.ensures
