use Rattle.std.proofs.Common.{◌≤◌, ◌*◌, ap, ℕ, length, arith}
use Rattle.std.proofs.Math.Nat.{div-mul-le_self}
use Rattle.bit_fields.proofs.LentParts.{fields_reads}
use Rattle.bit_fields.proofs.buffered.Buffered.skip_fields.Goals as goal
use Rattle.bit_fields.proofs.buffered.Buffered.skip_fields.Goals.{then-most-width, else-most-width}

pub returns-clause-reads : goal.returns-clause-reads
returns-clause-reads c =
    let there : c.if-most-width.count * c.from-width.result ≤ length c.args.self.now.bits = elim c.if-most-width.branch [
      | then-most-width w ↦ rw w.count-is (omega (arith, w.if-most-width.true, c.len-there.ensures, div-mul-le_self c.len-there.result c.from-width.result))
      | else-most-width w ↦ rw w.count-is (omega (arith, c.len-there.ensures, div-mul-le_self c.len-there.result c.from-width.result))
    ] in
    fields_reads c.args.n.bits c.if-most-width.count (c.if-most-width.count * c.from-width.result) c.args.self.now c.skip.new.self (ap (λ (n : ℕ). c.if-most-width.count * n) c.from-width.ensures) there c.skip.ensures.skipped
