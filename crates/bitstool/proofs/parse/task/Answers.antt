use Rattle.std.specs.Prelude.{map, string_bytes}
use Rattle.std.proofs.lemmas.Result.{err_from_is_err_and}
use Rattle.clap.specs.Words.{app_of, kind_of, subcommand_rows_of}
use Rattle.bitstool.proofs.Meaning.{AnswersFor, faultless, faulty, found_as, meant, said}
use Rattle.bitstool.proofs.parse.task.Goals as goal

pub returns-in_err-matches-clause-err : goal.returns-in_err-matches-clause-err
returns-in_err-matches-clause-err c =
    let p = err_from_is_err_and c.from_residual-in_err-matches.result c.from_residual-in_err-matches.ensures.1 in
    rw (p.1, p.2) (faulty (app_of c.in_ok-command.command) (map string_bytes c.args.words.now) (kind_of c.in_err-matches.field-0.0) c.in_ok-command.ensures c.in_err-matches.ensures.kinds)

pub unwrap-requires : goal.unwrap-requires
unwrap-requires c =
    let words = map string_bytes c.args.words.now in
    let app = app_of c.in_ok-command.command in
    let rows = subcommand_rows_of c.in_ok-matches.matches in
    c.task_of.ensures.found (found_as app words rows c.in_ok-command.ensures c.in_ok-matches.ensures.kinds (λ simple. (c.in_ok-matches.ensures.ok.2 simple).1))

pub returns-clause-ok : goal.returns-clause-ok
returns-clause-ok c =
    let words = map string_bytes c.args.words.now in
    let app = app_of c.in_ok-command.command in
    let rows = subcommand_rows_of c.in_ok-matches.matches in
    let found : AnswersFor rows c.unwrap.result = rw c.unwrap.ensures at c.task_of.ensures.task in
    said words c.unwrap.result (faultless app words c.in_ok-command.ensures c.in_ok-matches.ensures.kinds)
    (meant app words rows (λ o. AnswersFor o c.unwrap.result) c.in_ok-command.ensures (λ simple. (c.in_ok-matches.ensures.ok.2 simple).1) found)
