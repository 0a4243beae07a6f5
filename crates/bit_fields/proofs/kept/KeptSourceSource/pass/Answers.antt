use Rattle.std.proofs.Common.{arith}
use Rattle.std.proofs.lemmas.Result.{err_from_is_err_and}
use Rattle.bit_fields.proofs.Words.{unseen_looked}
use Rattle.bit_fields.proofs.Keeping.{looked_kept, gave_none, unseen_buffered, failed_buffered}
use Rattle.bit_fields.proofs.kept.KeptSourceSource.pass.Goals as goal

pub returns-in_err-count : goal.returns-in_err-count
returns-in_err-count g c =
    let p = err_from_is_err_and c.from_residual.result c.from_residual.ensures.1 in
    let failed = c.in_err-count.ensures.failed in
    rw (p.1, failed.1) (gave_none c.args.self.now.kept.whole c.args.self.now.kept.bytes.items (g.S.Source.incoming c.args.self.now.source) (g.S.Source.incoming c.keep_buffered.new.self.source) failed.0)

pub returns-then-count-eq0 : goal.returns-then-count-eq0
returns-then-count-eq0 g c =
    let looked = looked_kept c.args.self.now.kept.whole c.args.self.now.kept.bytes.items (g.S.Source.incoming c.args.self.now.source) (g.S.Source.incoming c.keep_buffered.new.self.source) c.in_ok-count.ensures.looked in
    unseen_looked _ _ _ c.args.most c.pass_block.result looked (rw (c.in_ok-count.ensures.none c.if-count-eq0.true) at c.pass_block.ensures)

pub returns-in-Ok : goal.returns-in-Ok
returns-in-Ok g c =
    let buffered = c.in_ok-count.ensures.buffered (omega (arith, c.if-count-eq0.false)) in
    unseen_buffered c.args.self.now.kept c.keep_buffered.new.self.kept c.give_up.new.self (g.S.Source.incoming c.args.self.now.source) (g.S.Source.incoming c.keep_buffered.new.self.source) (g.S.Source.incoming c.pass.new.self)
    c.args.most c.in_ok-count.count c.in-Ok.done c.in_ok-count.ensures.looked buffered.1 c.in_ok-count.ensures.most c.in-Ok.ensures c.give_up.ensures.whole c.give_up.ensures.bytes

pub returns-in-Err : goal.returns-in-Err
returns-in-Err g c =
    let buffered = c.in_ok-count.ensures.buffered (omega (arith, c.if-count-eq0.false)) in
    failed_buffered c.args.self.now.kept c.keep_buffered.new.self.kept c.give_up-in-Err.new.self (g.S.Source.incoming c.args.self.now.source) (g.S.Source.incoming c.keep_buffered.new.self.source) (g.S.Source.incoming c.pass.new.self)
    c.in_ok-count.count buffered.0 c.in_ok-count.ensures.looked buffered.1 c.in-Err.ensures c.give_up-in-Err.ensures.whole c.give_up-in-Err.ensures.bytes
