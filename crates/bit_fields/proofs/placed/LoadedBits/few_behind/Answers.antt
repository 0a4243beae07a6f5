use Rattle.std.proofs.Common.{arith}
use Rattle.bit_fields.specs.PlacedView.{loaded}
use Rattle.bit_fields.proofs.TopsBehind.{has_behind}
use Rattle.bit_fields.proofs.placed.LoadedBits.few_behind.Goals as goal
use Rattle.bit_fields.proofs.placed.LoadedBits.few_behind.Goals.{then-count-gt1+then-count-gt2+then-count-gt3, then-count-gt1+then-count-gt2+else-count-gt3, then-count-gt1+else-count-gt2, else-count-gt1}

pub returns : goal.returns
returns c =
    elim c.if-count-gt1.branch [
      | then-count-gt1+then-count-gt2+then-count-gt3 w ↦ let r = has_behind c.args._width c.args.tops c.args.self.ends c.args._bits c.args.count 3 c.if-count-gt1.ends c.from.result (loaded c.args.self) c.requires.least c.requires.most c.requires.behind c.requires.tops c.args.self.word c.args.self.shows (omega arith) w.ends-is c.if-ends-eq0.false c.from.ensures in record { has = r.0; short = r.1 }
      | then-count-gt1+then-count-gt2+else-count-gt3 w ↦ let r = has_behind c.args._width c.args.tops c.args.self.ends c.args._bits c.args.count 2 c.if-count-gt1.ends c.from.result (loaded c.args.self) c.requires.least c.requires.most c.requires.behind c.requires.tops c.args.self.word c.args.self.shows (omega arith) w.ends-is c.if-ends-eq0.false c.from.ensures in record { has = r.0; short = r.1 }
      | then-count-gt1+else-count-gt2 w ↦ let r = has_behind c.args._width c.args.tops c.args.self.ends c.args._bits c.args.count 1 c.if-count-gt1.ends c.from.result (loaded c.args.self) c.requires.least c.requires.most c.requires.behind c.requires.tops c.args.self.word c.args.self.shows (omega arith) w.ends-is c.if-ends-eq0.false c.from.ensures in record { has = r.0; short = r.1 }
      | else-count-gt1 w ↦ let r = has_behind c.args._width c.args.tops c.args.self.ends c.args._bits c.args.count 0 c.if-count-gt1.ends c.from.result (loaded c.args.self) c.requires.least c.requires.most c.requires.behind c.requires.tops c.args.self.word c.args.self.shows (omega arith) w.ends-is c.if-ends-eq0.false c.from.ensures in record { has = r.0; short = r.1 }
    ]
