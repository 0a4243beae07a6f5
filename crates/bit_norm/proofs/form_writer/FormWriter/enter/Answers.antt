use Rattle.std.proofs.Common.{◌≡◌, true, refl, sym, ◌∙◌, add-one, arith}
use Rattle.bit_norm.specs.Telling.{begins, fits, place_of}
use Rattle.bit_norm.proofs.Telling.{told_more}
use Rattle.bit_norm.proofs.form_writer.FormWriter.enter.Goals as goal

pub overflow_add-self : goal.overflow_add-self
overflow_add-self c =
    let few = c.fits_block.ensures.few c.if-not-fits_block.false in
    omega (arith, few)

pub returns-in-Ok : goal.returns-in-Ok
returns-in-Ok c =
    let there : fits c.args.self.now.limits (place_of c.args.self.now) (begins c.args.id) ≡ true = sym c.fits_block.ensures.fits ∙ c.if-not-fits_block.false in
    told_more (begins c.args.id) c.args.self.now _ c.if-self.false there c.ranges.id.fits c.in-Ok.ensures.gathers (rw (add-one, c.of_block-self.ensures) refl) refl refl refl
