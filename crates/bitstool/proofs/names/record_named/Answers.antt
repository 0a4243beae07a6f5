use Rattle.std.proofs.Common.{rules, ◌≡◌, None}
use Rattle.std.specs.List.{before_first}
use Rattle.bitstool.specs.Names.{is_colon}
use Rattle.bitstool.proofs.names.record_named.Goals as goal

pub returns-in_err-block : goal.returns-in_err-block
returns-in_err-block c =
    let none : c.from_residual-in_err-block.result ≡ None = search rules in
    let front : c.in_ok-front.front.now ≡ before_first is_colon c.args.text.now = search rules in
    rw none (λ name names. c.in_err-block.ensures name.block (rw front names.block))
