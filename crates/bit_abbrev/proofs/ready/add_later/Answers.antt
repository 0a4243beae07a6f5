use Rattle.std.proofs.Common.{◌≡◌, ℕ, List, Some, sym, ap, ◌∙◌}
use Rattle.bit_grammar.specs.declared.op.Op.{Op}
use Rattle.std.proofs.lemmas.Result.{on_err_weaker, on_ok_weaker}
use Rattle.std.specs.Box.{with_value}
use Rattle.bit_abbrev.proofs.Grouping.{last_behind}
use Rattle.bit_abbrev.proofs.ready.add_later.Goals as goal

pub returns-in-Some-clause-newest : goal.returns-in-Some-clause-newest
returns-in-Some-clause-newest c = on_ok_weaker c.add.result (λ is. last_behind _ c.args.id c.args.«abbrev».now is) c.add.ensures.ok

pub returns-in-Some-clause-err : goal.returns-in-Some-clause-err
returns-in-Some-clause-err c = on_err_weaker c.add.result (λ same.
    let list : with_value c.in-Some.list c.add.new.self ≡ c.in-Some.list = ap (λ (v : List (ℕ × List Op)). with_value c.in-Some.list v) (same ∙ c.deref_mut.ensures.value) in
    ap Some list ∙ sym c.in-Some.is) c.add.ensures.err
