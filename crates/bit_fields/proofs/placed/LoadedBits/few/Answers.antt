use Rattle.std.proofs.Common.{arith}
use Rattle.bit_fields.specs.PlacedView.{loaded}
use Rattle.bit_fields.proofs.Placing.{has_few}
use Rattle.bit_fields.proofs.placed.LoadedBits.few.Goals as goal
use Rattle.bit_fields.proofs.placed.LoadedBits.few.Goals.{then-count-gt1+then-count-gt2+then-count-gt3, then-count-gt1+then-count-gt2+else-count-gt3, then-count-gt1+else-count-gt2, else-count-gt1}

pub returns : goal.returns
returns c =
    elim c.if-count-gt1.branch [
      | then-count-gt1+then-count-gt2+then-count-gt3 w ↦ let r = has_few c.args.chunks.bits c.args.chunks.tops c.args.self.ends c.args.count 3 c.if-count-gt1.ends c.from.result (loaded c.args.self) c.args.chunks.least c.args.chunks.are c.args.self.word c.args.self.shows (omega arith) w.ends-is c.if-ends-eq0.false c.from.ensures in record { has = r.0; short = r.1 }
      | then-count-gt1+then-count-gt2+else-count-gt3 w ↦ let r = has_few c.args.chunks.bits c.args.chunks.tops c.args.self.ends c.args.count 2 c.if-count-gt1.ends c.from.result (loaded c.args.self) c.args.chunks.least c.args.chunks.are c.args.self.word c.args.self.shows (omega arith) w.ends-is c.if-ends-eq0.false c.from.ensures in record { has = r.0; short = r.1 }
      | then-count-gt1+else-count-gt2 w ↦ let r = has_few c.args.chunks.bits c.args.chunks.tops c.args.self.ends c.args.count 1 c.if-count-gt1.ends c.from.result (loaded c.args.self) c.args.chunks.least c.args.chunks.are c.args.self.word c.args.self.shows (omega arith) w.ends-is c.if-ends-eq0.false c.from.ensures in record { has = r.0; short = r.1 }
      | else-count-gt1 w ↦ let r = has_few c.args.chunks.bits c.args.chunks.tops c.args.self.ends c.args.count 0 c.if-count-gt1.ends c.from.result (loaded c.args.self) c.args.chunks.least c.args.chunks.are c.args.self.word c.args.self.shows (omega arith) w.ends-is c.if-ends-eq0.false c.from.ensures in record { has = r.0; short = r.1 }
    ]
