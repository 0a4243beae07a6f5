use Rattle.std.proofs.Common.{◌≡◌, min, length, arith, subst, refl}
use Rattle.std.specs.Io.BufRead.{FillKeeps}
use Rattle.std.proofs.BufReadLemmas.{Consumes_shown}
use Rattle.bit_fields.proofs.Words.{front_passed}
use Rattle.bit_fields.proofs.source.BufSourceSource.pass.Goals as goal

pub returns-clause-passes : goal.returns-clause-passes
returns-clause-passes g c =
    let shown = c.in-Ok.bytes.now in
    let count : c.min-count.result ≡ min c.args.most (length c.in-Ok.bytes.now) = c.min-count.ensures in
    let rested = c.fill_buf.follows.lender-at-none in
    let filled = subst (FillKeeps _ (g.R.Read.remaining rested) (g.R.BufRead.consumable_len rested)) c.in-Ok.is c.fill_buf.follows.holds-at-none in
    let moved = Consumes_shown _ _ (g.R.Read.remaining c.consume.new.self) (g.R.BufRead.consumable_len rested) shown c.min-count.result (omega arith) c.in-Ok.ensures.front c.in-Ok.ensures.end filled.0 filled.1 c.consume.ensures.bytes in
    front_passed _ _ shown c.args.most c.min-count.result (c.is_worn.ensures.fresh c.if-is_worn.false) refl refl moved.0 (λ none. absurd (omega arith)) refl (omega arith) (omega arith)
