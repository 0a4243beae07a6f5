use Rattle.std.proofs.Common.{refl}
use Rattle.bit_fields.proofs.Keeping.{looked_kept}
use Rattle.bit_fields.proofs.kept.KeptSourceSource.lend.Goals as goal

pub returns : goal.returns
returns g c = (
  (refl, λ _. tt, looked_kept c.args.self.now.kept.whole c.args.self.now.kept.bytes.items (g.S.Source.incoming c.args.self.now.source) (g.S.Source.incoming c.lend.follows.lender-at-none) c.lend.follows.holds-at-none),
  record { front = c.lend.ensures.front; rests = tt },
)
