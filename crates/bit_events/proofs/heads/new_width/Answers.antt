use Rattle.std.proofs.lemmas.Result.{err_from_is_err_and}
use Rattle.std.proofs.Common.{◌≡◌, true, ◌&&◌, leb, Ok, sym, ◌∙◌}
use Rattle.std.proofs.lemmas.Bool.{leb-true, and_parts}
use Rattle.bit_grammar.specs.Blocks.{new_width}
use Rattle.bit_events.proofs.Telling.{told, why, andThen, breaks, ends, here}
use Rattle.bit_events.proofs.heads.new_width.Goals as goal

pub returns-in_err-width-clause-takes : goal.returns-in_err-width-clause-takes
unfolding new_width
returns-in_err-width-clause-takes g c =
    let p = err_from_is_err_and c.from_residual.result c.from_residual.ensures.1 in
    rw (p.1, p.2) (why new_width c.args.reader.now c.in_err-width.field-0.0 c.vbr.new.self (here _ c.position-first.ensures.position (breaks c.in_err-width.ensures.takes)))

pub returns-in_err-judge-clause-takes : goal.returns-in_err-judge-clause-takes
unfolding new_width
returns-in_err-judge-clause-takes g c =
    let p = err_from_is_err_and c.from_residual-in_err-judge.result c.from_residual-in_err-judge.ensures.1 in
    let judged = rw c.is_width.ensures at c.in_err-judge.ensures.takes in
    rw (p.1, p.2) (why new_width c.args.reader.now c.in_err-judge.field-0.0 c.judge.new.self (here _ c.position-first.ensures.position (andThen c.in_ok-width.ensures.takes (breaks judged))))

pub returns-clause-takes : goal.returns-clause-takes
unfolding new_width
returns-clause-takes g c =
    let judged = rw c.is_width.ensures at c.in_ok-judge.ensures.takes in
    told new_width c.args.reader.now (Ok c.in_ok-width.width) c.judge.new.self (here _ c.position-first.ensures.position (andThen c.in_ok-width.ensures.takes (andThen judged (ends judged.live))))

pub returns-clause-least : goal.returns-clause-least
returns-clause-least g c =
    let holds : (leb 1 c.in_ok-width.width && leb c.in_ok-width.width 32) ≡ true = sym c.is_width.ensures ∙ c.in_ok-judge.ensures.holds in
    leb-true _ _ (and_parts (leb 1 c.in_ok-width.width) (leb c.in_ok-width.width 32) holds).0

pub returns-clause-most : goal.returns-clause-most
returns-clause-most g c =
    let holds : (leb 1 c.in_ok-width.width && leb c.in_ok-width.width 32) ≡ true = sym c.is_width.ensures ∙ c.in_ok-judge.ensures.holds in
    leb-true _ _ (and_parts (leb 1 c.in_ok-width.width) (leb c.in_ok-width.width 32) holds).1
