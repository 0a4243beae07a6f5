use Rattle.std.proofs.Common.{true≢false, refl, sym}
use Rattle.clap.specs.Words.{found_of}
use Rattle.bitstool.proofs.Found.{flag_found, flag_not_found, flag_denied}
use Rattle.bitstool.proofs.parse.is_given.Goals as goal

pub returns-in-Some-true : goal.returns-in-Some-true
returns-in-Some-true c = (λ is. flag_found (found_of c.args.matches.now) c.args.name.now c.in-Some-true.field-0 c.in-Some-true.field-0-test c.in-Some-true.ensures.none c.in-Some-true.ensures.value, λ given. refl)

pub returns-in-Some-false : goal.returns-in-Some-false
returns-in-Some-false c = (λ is. absurd (true≢false (sym is)), λ given. absurd (flag_denied (found_of c.args.matches.now) c.args.name.now c.in-Some-false.field-0 c.in-Some-false.field-0-test c.in-Some-false.ensures.value given))

pub returns-in-None : goal.returns-in-None
returns-in-None c = (λ is. absurd (true≢false (sym is)), λ given. absurd (flag_not_found (found_of c.args.matches.now) c.args.name.now (λ t e. (c.in-None.ensures.value t e).1.0) given))
