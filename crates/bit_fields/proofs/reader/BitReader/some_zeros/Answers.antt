use Rattle.std.proofs.Common.{arith, ◌≡◌, true}
use Rattle.std.proofs.lemmas.Result.{err_from_is_err_and}
use Rattle.bit_fields.proofs.Parts.{live_from}
use Rattle.bit_fields.proofs.Padding.{first_zero, zeros_took}
use Rattle.bit_fields.proofs.reader.BitReader.some_zeros.Goals as goal

pub returns-in_err-one_zero-clause-misses : goal.returns-in_err-one_zero-clause-misses
returns-in_err-one_zero-clause-misses g c =
    let p = err_from_is_err_and c.from_residual.result c.from_residual.ensures.1 in
    rw (p.1, p.2) (first_zero c.args.first c.args.most c.args.self.now c.in_err-one_zero.field-0.0 c.one_zero.new.self c.requires.some c.in_err-one_zero.ensures.takes)

pub returns-clause-takes : goal.returns-clause-takes
returns-clause-takes g c =
    let live : c.self.inside.live ≡ true = live_from c.self.inside.live c.self.inside.inflow.window c.min-count.result c.self.invariant.empty (omega arith) (omega (arith, c.bits_held.ensures.held, c.min-count.ensures)) in
    zeros_took c.self.inside.live c.args.first c.args.most c.min-count.result c.self.inside.position _ c.peek.result c.self.inside.inflow c.take.new.self c.args.self.now c.self.view_is live (omega arith) (omega (arith, c.min-count.ensures)) (omega (arith, c.bits_held.ensures.held, c.min-count.ensures)) c.if-peek-ne0.false c.peek.ensures c.take.ensures.rest (omega (arith, c.from.ensures))
