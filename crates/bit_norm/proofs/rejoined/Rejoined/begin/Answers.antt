use Rattle.std.proofs.Common.{arith}
use Rattle.bit_norm.specs.Rejoined.{held_of, owed_of}
use Rattle.bit_norm.proofs.GivenAgain.{none_again}
use Rattle.bit_norm.proofs.rejoined.Rejoined.begin.Goals as goal

pub returns-then-self-gt0-clause-failed : goal.returns-then-self-gt0-clause-failed
returns-then-self-gt0-clause-failed g c =
    none_again (held_of c.args.self.now.again) (owed_of c.args.self.now.again) c.args.self.now.pulls c.args.self.now.failures (g.S.Source.incoming c.args.self.now.source) (omega (arith, c.if-self-gt0.true)) (omega (arith, c.if-self.false, c.if-self-2.false, c.fits-self))
