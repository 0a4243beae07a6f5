use Rattle.std.proofs.lemmas.Result.{err_from_is_err_and}
use Rattle.bit_grammar.specs.Grammar.{repeat}
use Rattle.bit_grammar.specs.Record.{scalar}
use Rattle.bit_fields.specs.Buffered.{reader_at}
use Rattle.bit_fields.proofs.BufferedReads.{took_reads, shown_caught_up, shown_not_caught_up}
use Rattle.bit_abbrev.proofs.Several.{some_added, as_added}
use Rattle.bit_abbrev.proofs.runs.BitReaderRuns.some.Goals as goal

pub returns-in_err-catch_up-clause-adds : goal.returns-in_err-catch_up-clause-adds
returns-in_err-catch_up-clause-adds g c =
    let failed = err_from_is_err_and c.from_residual-in_err-catch_up.result c.from_residual-in_err-catch_up.ensures.1 in
    let buffered_parts = c.in_ok-buffered_parts.field-0 in
    let b = c.buffered_parts.follows.lender-at-none in
    let shows = rw c.in_ok-buffered_parts.was at c.buffered_parts.follows.holds-at-none in
    let here = rw c.new-buffered.ensures at c.position-first.ensures in
    let missed = rw (c.position-after.ensures, here) at c.in_err-catch_up.ensures.takes in
    let all = repeat c.in-Ok.count (scalar c.args.element) in
    rw (failed.1, failed.2) (λ fault stands before t. rw stands (some_added g.V.ValueTaker.took c.read_run.new.values (scalar c.args.element) c.in-Ok.count c.args.most (reader_at c.new-buffered.result) (reader_at c.read_run.new.buffered) c.args.self.now c.in_err-catch_up.field-0.0 c.catch_up.new.self before (c.in-Ok.ensures.adds before t)
    (λ values took. shown_not_caught_up all c.args.self.now buffered_parts values c.read_run.new.buffered b c.in_err-catch_up.field-0.0 c.catch_up.new.self (repeat c.args.most (scalar c.args.element)) shows (rw c.new-buffered.ensures at (took_reads all c.new-buffered.result values c.read_run.new.buffered took)) missed)))

pub returns-clause-adds : goal.returns-clause-adds
returns-clause-adds g c = λ before t.
    let buffered_parts = c.in_ok-buffered_parts.field-0 in
    let b = c.buffered_parts.follows.lender-at-none in
    let shows = rw c.in_ok-buffered_parts.was at c.buffered_parts.follows.holds-at-none in
    let here = rw c.new-buffered.ensures at c.position-first.ensures in
    let took_all = rw (c.position-after.ensures, here) at c.in_ok-catch_up.ensures.takes in
    let all = repeat c.in-Ok.count (scalar c.args.element) in
    as_added g.V.ValueTaker.took c.read_run.new.values (scalar c.args.element) c.in-Ok.count (reader_at c.new-buffered.result) (reader_at c.read_run.new.buffered) c.args.self.now c.catch_up.new.self before (c.in-Ok.ensures.adds before t)
    (λ values took. shown_caught_up all c.args.self.now buffered_parts values c.read_run.new.buffered b c.catch_up.new.self shows (rw c.new-buffered.ensures at (took_reads all c.new-buffered.result values c.read_run.new.buffered took)) took_all)
