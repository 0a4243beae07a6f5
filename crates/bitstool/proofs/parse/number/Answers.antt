use Rattle.std.specs.Str.Parse.{ExplainsUnsignedError, HasUnsignedDigitsIfOk, ParsesUnsigned}
use Rattle.clap.specs.Words.{found_of}
use Rattle.bitstool.proofs.Found.{number_found, number_read}
use Rattle.bitstool.proofs.parse.number.Goals as goal

pub returns-clause-number : goal.returns-clause-number
returns-clause-number c = number_found (found_of c.args.matches.now) c.args.name.now (λ bs r. ParsesUnsigned 64 10 bs r × ExplainsUnsignedError 10 bs r × HasUnsignedDigitsIfOk bs r) c.get_one.result (λ t r g. g.0) c.get_one.ensures.none c.get_one.ensures.value

pub returns-clause-found : goal.returns-clause-found
returns-clause-found c n = number_read (found_of c.args.matches.now) c.args.name.now (λ bs r. ParsesUnsigned 64 10 bs r × ExplainsUnsignedError 10 bs r × HasUnsignedDigitsIfOk bs r) c.get_one.result n (λ t r g. g.0) c.get_one.ensures.value
