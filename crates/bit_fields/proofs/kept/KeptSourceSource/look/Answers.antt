use Rattle.bit_fields.proofs.Keeping.{looks_kept}
use Rattle.bit_fields.proofs.kept.KeptSourceSource.look.Goals as goal

pub returns-clause-looks : goal.returns-clause-looks
returns-clause-looks g c =
    looks_kept c.args.self.now.kept.whole c.args.self.now.kept.bytes.items (g.S.Source.incoming c.args.self.now.source) (g.S.Source.incoming c.look.new.self) c.look.result c.look.ensures.looks
