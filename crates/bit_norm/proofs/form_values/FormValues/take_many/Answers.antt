use Rattle.std.proofs.Common.{◌≡◌, ◌+◌, ◌-◌, ℕ, List, ◌++◌, take, drop, sym, ap, subst, arith, ◌∙◌, append_assoc}
use Rattle.std.proofs.Math.Seq.{take-add}
use Rattle.std.proofs.lemmas.Result.{err_from_is_err_and}
use Rattle.bit_norm.specs.Building.{HasTaken}
use Rattle.bit_norm.proofs.form_values.FormValues.take_many.Goals as goal

pub returns-in_err-take_piece-clause-err : goal.returns-in_err-take_piece-clause-err
returns-in_err-take_piece-clause-err c =
    let p = err_from_is_err_and c.from_residual-in_err-take_piece.result c.from_residual-in_err-take_piece.ensures.1 in
    let some = take c.loop-done.done c.args.bytes.now in
    rw p.1 (λ values had. (some, c.in_err-take_piece.ensures.err (values ++ some) (c.loop-done.invariant.took values had)))

pub loop-done-preserved : goal.loop-done-preserved
loop-done-preserved c =
    let bytes = c.args.bytes.now in
    let done = c.loop-done.done in
    let count = c.min-count.result in
    let new = c.take_piece.new.self in
    let wide : done + count - done ≡ count = omega arith in
    let same : take done bytes ++ take (done + count - done) (drop done bytes) ≡ take (done + count) bytes
    = ap (λ (n : ℕ). take done bytes ++ take n (drop done bytes)) wide ∙ sym (take-add done count bytes) in
    record {
      none = c.take_piece.ensures.none;
      within = omega (arith, c.min-count.ensures);
      took = λ values had.
          let taken = c.in_ok-take_piece.ensures.ok (values ++ take done bytes) (c.loop-done.invariant.took values had) in
          subst (λ (s : List ℕ). HasTaken new (values ++ s)) same (subst (HasTaken new) (append_assoc values (take done bytes) (take (done + count - done) (drop done bytes))) taken);
    }
