use Rattle.std.proofs.Common.{Ok}
use Rattle.std.proofs.lemmas.Result.{err_from_is_err_and}
use Rattle.bit_grammar.specs.Blocks.{block_head}
use Rattle.bit_events.specs.HeadView.{head_shown}
use Rattle.bit_events.proofs.Telling.{told, why, andThen, breaks, ends, here}
use Rattle.bit_events.proofs.heads.block_head.Goals as goal

pub returns-in_err-id : goal.returns-in_err-id
unfolding block_head
returns-in_err-id g c =
    let p = err_from_is_err_and c.from_residual.result c.from_residual.ensures.1 in
    rw (p.1, p.2) (why block_head c.args.reader.now c.in_err-id.field-0.0 c.block_id.new.reader (breaks c.in_err-id.ensures))

pub returns-in_err-width : goal.returns-in_err-width
unfolding block_head
returns-in_err-width g c =
    let p = err_from_is_err_and c.from_residual-in_err-width.result c.from_residual-in_err-width.ensures.1 in
    rw (p.1, p.2) (why block_head c.args.reader.now c.in_err-width.field-0.0 c.new_width.new.reader (andThen c.in_ok-id.ensures (breaks c.in_err-width.ensures.takes)))

pub returns-in_err-pad : goal.returns-in_err-pad
unfolding block_head
returns-in_err-pad g c =
    let p = err_from_is_err_and c.from_residual-in_err-pad.result c.from_residual-in_err-pad.ensures.1 in
    rw (p.1, p.2) (why block_head c.args.reader.now c.in_err-pad.field-0.0 c.pad.new.self (andThen c.in_ok-id.ensures (andThen c.in_ok-width.ensures.takes (breaks c.in_err-pad.ensures.takes))))

pub returns-in_err-words : goal.returns-in_err-words
unfolding block_head
returns-in_err-words g c =
    let p = err_from_is_err_and c.from_residual-in_err-words.result c.from_residual-in_err-words.ensures.1 in
    rw (p.1, p.2) (why block_head c.args.reader.now c.in_err-words.field-0.0 c.fixed.new.self (andThen c.in_ok-id.ensures (andThen c.in_ok-width.ensures.takes (andThen c.in_ok-pad.ensures.takes (here _ c.position-length_at.ensures.position (breaks c.in_err-words.ensures.takes))))))

pub returns : goal.returns
unfolding block_head
returns g c =
    told block_head c.args.reader.now (Ok (head_shown (record { id = c.in_ok-id.id; width = c.in_ok-width.width; length_at = c.position-length_at.result; words = c.in_ok-words.words; body = c.position-body.result; least = c.in_ok-width.ensures.least; most = c.in_ok-width.ensures.most }))) c.fixed.new.self
    (andThen c.in_ok-id.ensures (andThen c.in_ok-width.ensures.takes (andThen c.in_ok-pad.ensures.takes (here _ c.position-length_at.ensures.position (andThen c.in_ok-words.ensures.takes (here _ c.position-body.ensures.position (ends c.in_ok-words.ensures.takes.live)))))))
