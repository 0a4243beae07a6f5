use Rattle.std.proofs.lemmas.Result.{err_from_is_err_and}
use Rattle.bit_fields.proofs.Keeping.{gave_kept, gave_none}
use Rattle.bit_fields.proofs.kept.KeptSource.pull_kept.Goals as goal

pub returns-in_err-count : goal.returns-in_err-count
returns-in_err-count g c =
    let p = err_from_is_err_and c.from_residual.result c.from_residual.ensures.1 in
    rw (p.1) (gave_none c.args.self.now.kept.whole c.args.self.now.kept.bytes.items (g.S.Source.incoming c.args.self.now.source) (g.S.Source.incoming c.pull.new.self) c.in_err-count.ensures)

pub returns : goal.returns
returns g c = gave_kept c.args.self.now.kept.whole c.keep.new.self.whole c.args.self.now.kept.bytes.items c.keep.new.self.bytes.items (g.S.Source.incoming c.args.self.now.source) (g.S.Source.incoming c.pull.new.self) c.in_ok-count.count c.pull.new.into c.in_ok-count.ensures c.keep.ensures
