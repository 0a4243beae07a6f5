use Rattle.std.proofs.Common.{sym, ◌∙◌, subst, arith}
use Rattle.bit_fields.specs.Buffered.{BufferedBits}
use Rattle.bit_fields.specs.Placed.{HasNumbers}
use Rattle.bit_fields.specs.PlacedView.{placed}
use Rattle.bit_fields.proofs.Placing.{further}
use Rattle.bit_fields.proofs.placed.PlacedBits.all_of.Goals as goal
use Rattle.bit_fields.proofs.placed.PlacedBits.all_of.Goals.{in-Some, in-None+in_ok-len-in-None}

pub loop-left-preserved : goal.loop-left-preserved
loop-left-preserved c =
    let has : HasNumbers c.args.chunks.bits 1 (placed c.loop-left.bits) c.match-few.len = elim c.match-few.branch [
      | in-Some w ↦ subst (HasNumbers c.args.chunks.bits 1 (placed c.loop-left.bits)) (sym w.len-is) (subst (λ (a : BufferedBits). HasNumbers c.args.chunks.bits 1 a w.in-Some.len) c.load.ensures w.in-Some.ensures.has)
      | in-None+in_ok-len-in-None w ↦ subst (HasNumbers c.args.chunks.bits 1 (placed c.loop-left.bits)) (sym w.len-is) w.in_ok-len-in-None.ensures.has
    ] in
    let f = further c.args.chunks.bits c.args.count c.loop-left.left 1 c.match-few.len c.args.self.start c.args.self.at c.loop-left.bits.at c.after-bits.result.at c.loop-left.bits.start c.after-bits.result.start c.args.self.bytes.now c.loop-left.bits.bytes.now c.after-bits.result.bytes.now
    c.loop-left.invariant.few (omega arith) c.loop-left.invariant.start c.after-bits.ensures.start c.loop-left.invariant.on c.loop-left.invariant.here c.after-bits.ensures.rest c.loop-left.invariant.has has in
    record { few = omega arith; start = c.after-bits.ensures.start ∙ c.loop-left.invariant.start; on = f.0; here = f.1; has = f.2 }
