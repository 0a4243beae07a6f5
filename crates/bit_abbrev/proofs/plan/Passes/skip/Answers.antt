use Rattle.std.proofs.Common.{take, arith}
use Rattle.bit_abbrev.proofs.Covering.{covers_field}
use Rattle.bit_abbrev.proofs.plan.Passes.skip.Goals as goal

pub returns-clause-adds : goal.returns-clause-adds
returns-clause-adds c = λ made ops op takes covers a len. covers_field ops op c.args.bits c.args.self.now.after c.in-Some.after (take c.args.self.now.count c.args.self.now.pass) a len (omega (arith, c.in-Some.ensures)) takes (covers a len)
