use Rattle.std.proofs.Common.{inl, inr}
use Rattle.bit_abbrev.proofs.ShortOps.{short_fixed, short_vbr}
use Rattle.bit_abbrev.proofs.short_op.short_width.Goals as goal

pub returns : goal.returns
returns c = λ shapes place after.
    elim c.requires [
      | inl is ↦ rw (c.with_width.ensures.fixed is) (short_fixed shapes place after c.args.bits c.if-bits-ge256.false is)
      | inr is ↦ rw (c.with_width.ensures.vbr is) (short_vbr shapes place after c.args.bits c.if-bits-ge256.false is c.if-bits-eq20.false)
    ]
