use Rattle.std.proofs.Common.{◌≡◌, ℕ, ◌-◌, [], arith, take, drop, length, subst}
use Rattle.std.proofs.lemmas.Result.{err_from_is_err_and}
use Rattle.bit_norm.proofs.AlikeBytes.{goes_as_lent, goes_no_further, more_none, slice_taken, takes_looked, takes_nothing, takes_passed, takes_then}
use Rattle.bit_norm.proofs.alike.take_slice.Goals as goal

pub returns-in_err-look : goal.returns-in_err-look
returns-in_err-look g c =
    let a = g.S.Source.incoming c.args.source.now in
    let failed = err_from_is_err_and c.from_residual.result c.from_residual.ensures.1 in
    rw failed.1 (record {
      mid = a;
      takes = more_none c.args.first.now c.args.slices.now a a c.requires (takes_nothing a);
      none = c.in_err-look.ensures.looks;
    })

pub returns-then-not-branch : goal.returns-then-not-branch
returns-then-not-branch g c =
    let a = g.S.Source.incoming c.args.source.now in
    let b = g.S.Source.incoming c.look.new.self in
    more_none c.args.first.now c.args.slices.now a b c.requires (takes_looked a b c.in_ok-look.ensures.looks)

pub returns-in_err-taken : goal.returns-in_err-taken
returns-in_err-taken g c =
    let a = g.S.Source.incoming c.args.source.now in
    let b = g.S.Source.incoming c.look.new.self in
    let d = g.S.Source.incoming c.lend-slice.follows.lender-at-none in
    let failed = err_from_is_err_and c.from_residual-in_err-taken.result c.from_residual-in_err-taken.ensures.1 in
    rw failed.1 (record {
      mid = d;
      takes = more_none c.args.first.now c.args.slices.now a d c.requires (takes_then a b d 0 0 [] [] (takes_looked a b c.in_ok-look.ensures.looks) (takes_looked b d c.lend-slice.follows.holds-at-none));
      none = c.in_err-taken.ensures;
    })

pub returns-then-equal-count : goal.returns-then-equal-count
returns-then-equal-count g c =
    let a = g.S.Source.incoming c.args.source.now in
    let b = g.S.Source.incoming c.look.new.self in
    let d = g.S.Source.incoming c.lend-slice.follows.lender-at-none in
    let front = c.equal_front-equal.ensures in (
      more_none c.args.first.now c.args.slices.now a d c.requires (takes_then a b d 0 0 [] [] (takes_looked a b c.in_ok-look.ensures.looks) (takes_looked b d c.lend-slice.follows.holds-at-none)),
      goes_as_lent c.args.first.now c.lend-slice.result.now c.equal_front-equal.result c.args.slices.now a b c.requires c.in_ok-look.ensures.looks c.lend-slice.ensures.front front.first front.same front.second,
    )

pub returns-then-taken-count : goal.returns-then-taken-count
returns-then-taken-count g c =
    let a = g.S.Source.incoming c.args.source.now in
    let b = g.S.Source.incoming c.look.new.self in
    let e = g.S.Source.incoming c.pass.new.self in
    let first = c.args.first.now in
    let lent = c.lend-slice.result.now in
    let bytes = c.args.slices.now.bytes in
    let rest = take (length first - bytes) (drop bytes first) in
    let taken = c.in_ok-taken.taken in
    let front = c.equal_front-equal.ensures in
    let whole : c.equal_front-equal.result ≡ length lent = omega (arith, front.first, c.if-equal-count.false) in
    let same : take (length lent) lent ≡ take (length lent) rest = subst (λ (n : ℕ). take n lent ≡ take n rest) whole front.same in
    let passed = takes_passed b (g.S.Source.incoming c.lend-slice.follows.lender-at-none) e lent rest (length lent) taken c.lend-slice.follows.holds-at-none c.lend-slice.ensures.front c.in_ok-taken.ensures (omega arith) same in
    let more = slice_taken first c.args.slices.now c.add.new.self taken a e c.add.ensures.bytes c.add.ensures.count c.requires (omega (arith, c.in_ok-taken.ensures.few, whole, front.second)) (takes_then a b e 0 1 [] (take taken rest) (takes_looked a b c.in_ok-look.ensures.looks) passed) in
    (more, goes_no_further first c.args.slices.now c.add.new.self a e more)
