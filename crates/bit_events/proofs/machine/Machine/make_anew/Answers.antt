use Rattle.std.proofs.Common.{refl}
use Rattle.bit_events.proofs.machine.Machine.make_anew.Goals as goal

pub returns-in_err-self-in-Define-clause-same : goal.returns-in_err-self-in-Define-clause-same
returns-in_err-self-in-Define-clause-same c = (c.args.self.now.made, refl)

pub returns-in-Enter-clause-same : goal.returns-in-Enter-clause-same
returns-in-Enter-clause-same c = (c.args.self.now.made, refl)

pub returns-in-Record-clause-same : goal.returns-in-Record-clause-same
returns-in-Record-clause-same c = (c.args.self.now.made, refl)

pub returns-in-Leave-clause-same : goal.returns-in-Leave-clause-same
returns-in-Leave-clause-same c = (c.args.self.now.made, refl)
