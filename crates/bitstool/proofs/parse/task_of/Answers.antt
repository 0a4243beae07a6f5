use Rattle.std.proofs.Common.{◌≡◌, ℕ, true, false, Option, Some, None, arith}
use Rattle.clap.specs.Words.{found_of, rows_of}
use Rattle.clap.specs.declared.parser.matches.ArgMatches.TheViews.{out-ArgMatches}
use Rattle.bitstool.proofs.Found.{first_found, limits_found, parts_found}
use Rattle.bitstool.proofs.parse.task_of.Goals as goal

pub returns-in_err-limits-clause-found : goal.returns-in_err-limits-clause-found
returns-in_err-limits-clause-found c all =
    let name = c.in_ok-name.name.now in
    let rows = rows_of (found_of c.in_ok-name.inner.now) in
    let complete = parts_found name rows (out-ArgMatches c.args.matches.now).subcommand c.in_ok-name.ensures.name c.in_ok-name.ensures.rows all in
    let bad : false ≡ true = c.in_err-limits.ensures.found (limits_found name rows complete) in
    absurd (cc)

pub returns-in_err-number-in-same-clause-found : goal.returns-in_err-number-in-same-clause-found
returns-in_err-number-in-same-clause-found c all =
    let name = c.in_ok-name.name.now in
    let rows = rows_of (found_of c.in_ok-name.inner.now) in
    let complete = parts_found name rows (out-ArgMatches c.args.matches.now).subcommand c.in_ok-name.ensures.name c.in_ok-name.ensures.rows all in
    let n = first_found name rows complete c.in-same.is in
    let bad : ◌≡◌ {A = Option ℕ} None (Some n.0) = c.in_err-number-in-same.ensures.found n.0 n.1 (omega (arith, n.2)) in
    absurd (cc)
