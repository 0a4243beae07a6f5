use Rattle.std.proofs.Common.{rules, ◌≡◌, ℕ, List, [], ◌∷◌, ◌++◌, length, ◌∙◌, sym, ap, subst, Result, Ok, Err, OnErr}
use Rattle.bit_grammar.specs.declared.op.Op.{Op}
use Rattle.bit_grammar.specs.FormatDefinition.{Definable}
use Rattle.bit_abbrev.specs.declared.held.Head.{Head}
use Rattle.bit_abbrev.proofs.Heads.{all_in_more}
use Rattle.bit_abbrev.proofs.HeldLists.{same_shown, closed_held, closed_shown, not_closed, not_shown}
use Rattle.bit_abbrev.proofs.held.HeldList.add.Goals as goal

on_err : {T E P : Type 0} (r : Result T E) → P → OnErr r P
on_err (Ok x) p = tt
on_err (Err e) p = p

pub invariant_of-self : goal.invariant_of-self
invariant_of-self c = all_in_more _ _ _ c.in_err-hold.ensures.err c.self.invariant

pub returns-in_err-hold-clause-err : goal.returns-in_err-hold-clause-err
returns-in_err-hold-clause-err c = on_err _ (same_shown _ _ _ c.in_err-hold.ensures.err c.self.invariant ∙ c.self.view_is)

pub invariant_of-self-in_err-close : goal.invariant_of-self-in_err-close
invariant_of-self-in_err-close c = not_closed c.in_ok-hold.ensures.ok.more_held c.in_err-close.ensures.more c.in_err-close.ensures.same c.self.invariant

pub returns-in_err-close-clause-err : goal.returns-in_err-close-clause-err
returns-in_err-close-clause-err c = on_err _ (not_shown c.in_ok-hold.ensures.ok.more_held c.in_err-close.ensures.more c.in_err-close.ensures.same c.self.invariant ∙ c.self.view_is)

pub invariant_of-self-2 : goal.invariant_of-self-2
invariant_of-self-2 c =
    let head : Head = record { id = c.args.id; start = c.len-start.result } in
    let begins : head.start ≡ length c.self.inside.held.items = search rules in
    closed_held _ head begins c.in_ok-hold.ensures.ok c.in_ok-close.ensures.held c.in_ok-close.ensures.heads (subst Definable (sym c.ops.ensures.items) c.ops.ensures.definable) c.self.invariant

pub returns-clause-ok : goal.returns-clause-ok
returns-clause-ok c =
    let head : Head = record { id = c.args.id; start = c.len-start.result } in
    let begins : head.start ≡ length c.self.inside.held.items = search rules in
    closed_shown _ head begins c.in_ok-hold.ensures.ok c.in_ok-close.ensures.held c.in_ok-close.ensures.heads c.self.invariant
    ∙ rw c.ops.ensures.items (ap (λ (l : List (ℕ × List Op)). l ++ (c.args.id, c.args.«abbrev».now) ∷ []) c.self.view_is)
