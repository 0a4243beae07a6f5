use Rattle.std.proofs.Common.{arith, ◌/◌}
use Rattle.bit_fields.proofs.Pens.{placed_is, placed_below, put_holds}
use Rattle.bit_fields.proofs.pen.put.Goals as goal

pub overflow_add-word : goal.overflow_add-word
overflow_add-word c =
    let a = c.args in
    omega (arith, placed_is a.at a.n a.value c.requires.few c.requires.fits, placed_below a.at a.n a.value c.requires.few c.requires.fits, c.from-low.ensures, c.type_inv.bytes (a.at / 8))

pub prove-unreachable-requires : goal.prove-unreachable-requires
prove-unreachable-requires c = omega (arith, c.if-prove.true, c.from-low.ensures, c.type_inv.bytes (c.args.at / 8))

pub returns : goal.returns
returns c =
    let a = c.args in
    put_holds a.bytes.now _ a.at a.n a.value _ c.requires.few c.requires.fits c.requires.room c.if-prove.false c.from-low.ensures c.to_le_bytes-eight.ensures
