use Rattle.std.proofs.Common.{◌≡◌, ◌-◌, ℕ, List, ◌++◌, take, drop, length, sym, subst, arith, ◌∙◌}
use Rattle.std.proofs.lemmas.List.{take_all, take_rest}
use Rattle.std.proofs.lemmas.Result.{err_from_is_err_and}
use Rattle.bit_fields.specs.Expected.{Expected, HasTaken, AreNext, further}
use Rattle.bit_fields.proofs.Expecting.{run_further, run_next, run_other, runs_taken}
use Rattle.bit_fields.proofs.expected.ExpectedValuesValueTaker.take_bytes.Goals as goal

pub returns-in_err-done-clause-err : goal.returns-in_err-done-clause-err
returns-in_err-done-clause-err c =
    let p = err_from_is_err_and c.from_residual.result c.from_residual.ensures.1 in
    let i = c.loop-done.invariant in
    rw p.1 (λ values had. (take c.loop-done.done c.args.bytes.now, runs_taken c.args.self.now c.take_some.new.self c.loop-done.done c.args.bytes.now values i.within (c.in_err-done.ensures.err.0 ∙ i.came) i.next had))

pub returns-in_err-done-clause-next : goal.returns-in_err-done-clause-next
returns-in_err-done-clause-next c =
    let p = err_from_is_err_and c.from_residual.result c.from_residual.ensures.1 in
    let i = c.loop-done.invariant in
    let rest = take_rest c.args.bytes.now c.loop-done.done in
    let none : AreNext c.loop-done.self (drop c.loop-done.done c.args.bytes.now) → ⊥ = λ next. c.in_err-done.ensures.err.1 (subst (AreNext c.loop-done.self) (sym rest) next) in
    rw p.1 (λ e. absurd cc, λ next. absurd (run_other c.args.self.now c.loop-done.self c.loop-done.done c.args.bytes.now i.within i.came none next))

pub loop-done-preserved : goal.loop-done-preserved
loop-done-preserved c =
    let count = c.in_ok-done.field-0 in
    let done = c.loop-done.done in
    let bytes = c.args.bytes.now in
    let i = c.loop-done.invariant in
    let came : AreNext (further c.args.self.now done) (take count (take (length bytes - done) (drop done bytes))) = subst (λ (e : Expected). AreNext e (take count (take (length bytes - done) (drop done bytes)))) i.came c.in_ok-done.ensures.ok.1 in
    let next : AreNext (further c.args.self.now done) (take count (drop done bytes)) = subst (λ (s : List ℕ). AreNext (further c.args.self.now done) (take count s)) (take_rest bytes done) came in
    record {
      within = omega (arith, c.in_ok-done.ensures.count);
      came = run_further c.args.self.now c.loop-done.self c.take_some.new.self done count i.came c.in_ok-done.ensures.ok.0;
      next = run_next c.args.self.now done count bytes i.within i.next next;
    }

pub returns-clause-ok : goal.returns-clause-ok
returns-clause-ok c = λ values had.
    let bytes = c.args.bytes.now in
    let i = c.loop-done.invariant in
    let all : take c.loop-done.done bytes ≡ bytes = take_all c.loop-done.done bytes (omega arith) in
    subst (λ (s : List ℕ). HasTaken c.loop-done.self (values ++ s)) all (runs_taken c.args.self.now c.loop-done.self c.loop-done.done bytes values i.within i.came i.next had)
