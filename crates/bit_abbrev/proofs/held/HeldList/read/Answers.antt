use Rattle.std.proofs.Common.{rules, ◌≡◌, ℕ, List, [], ◌∷◌, ◌++◌, length, ◌∙◌, refl, sym, ap, append-nil}
use Rattle.bit_grammar.specs.declared.op.Op.{Op}
use Rattle.bit_abbrev.specs.declared.held.Head.{Head}
use Rattle.bit_abbrev.proofs.Encoded.{now_held}
use Rattle.bit_abbrev.proofs.Heads.{all_in_more}
use Rattle.bit_abbrev.proofs.HeldLists.{closed_held, closed_shown, not_closed}
use Rattle.bit_abbrev.proofs.held.HeldList.read.Goals as goal

pub read_operands-requires-clause-none : goal.read_operands-requires-clause-none
read_operands-requires-clause-none g c = now_held [] (sym (append-nil _)) refl refl tt

pub invariant_of-self : goal.invariant_of-self
invariant_of-self g c = all_in_more _ _ _ c.in_err-read_operands.ensures.1.more_held c.self.invariant

pub invariant_of-self-in-Err : goal.invariant_of-self-in-Err
invariant_of-self-in-Err g c = not_closed c.in_ok-read_operands.ensures.1.more_held c.in-Err.ensures.more c.in-Err.ensures.same c.self.invariant

pub invariant_of-self-2 : goal.invariant_of-self-2
invariant_of-self-2 g c =
    let read = c.in_ok-read_operands.ensures in
    let head : Head = record { id = c.args.id; start = c.len-start.result } in
    let begins : head.start ≡ length c.self.inside.held.items = search rules in
    closed_held _ head begins read.1 c.in-Ok.ensures.held c.in-Ok.ensures.heads read.2.0 c.self.invariant

pub returns : goal.returns
returns g c =
    let read = c.in_ok-read_operands.ensures in
    let head : Head = record { id = c.args.id; start = c.len-start.result } in
    let begins : head.start ≡ length c.self.inside.held.items = search rules in
    (read.0, read.2.1, closed_shown _ head begins read.1 c.in-Ok.ensures.held c.in-Ok.ensures.heads c.self.invariant ∙ ap (λ (l : List (ℕ × List Op)). l ++ (c.args.id, read.0) ∷ []) c.self.view_is)
