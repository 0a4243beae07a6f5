use Rattle.std.proofs.Common.{◌≡◌, true, refl, arith}
use Rattle.std.proofs.lemmas.Bool.Decides.{nat_tests}
use Rattle.bit_norm.specs.Telling.{ends, fits, place_of}
use Rattle.bit_norm.proofs.Telling.{told_more}
use Rattle.bit_norm.proofs.form_writer.FormWriter.leave.Goals as goal

pub returns-in-Ok : goal.returns-in-Ok
returns-in-Ok c =
    let there : fits c.args.self.now.limits (place_of c.args.self.now) ends ≡ true = grind (arith, nat_tests, c.if-self-eq0.false) in
    told_more ends c.args.self.now _ c.if-self.false there tt c.in-Ok.ensures.gathers refl refl refl refl
