use Rattle.std.proofs.Common.{◌∷◌, [], Some, sym, ◌∙◌, arith}
use Rattle.bit_fields.specs.Expected.{AreNext}
use Rattle.bit_fields.proofs.Expecting.{none_next, other_next, value_next}
use Rattle.bit_fields.proofs.Unlike.{agree, differ}
use Rattle.bit_fields.proofs.expected.ExpectedValues.take_far.Goals as goal
use Rattle.bit_fields.proofs.expected.ExpectedValues.take_far.Goals.{then-taken-self-via-then-taken-self, then-taken-self-via-else-taken-self+then-ne}

pub returns-then-taken-self-clause-next : goal.returns-then-taken-self-clause-next
returns-then-taken-self-clause-next c =
    let s = c.self.inside in
    let at = c.taken-taken.result in
    let none : AreNext c.args.self.now (c.args.value ∷ []) → ⊥ = elim c.then-taken-self.branch [
      | then-taken-self-via-then-taken-self w ↦ none_next s.expected _ c.args.value s.others.now c.args.self.now c.self.view_is (omega arith)
      | then-taken-self-via-else-taken-self+then-ne w ↦ other_next s.expected _ at c.args.value w.get.result s.others.now c.args.self.now c.self.view_is c.taken-taken.ensures.is w.get.ensures (differ w.get.result (Some c.args.value) (sym w.ne.ensures ∙ w.if-ne.true))
    ] in (λ no. absurd cc, λ next. absurd (none next))

pub returns-clause-next : goal.returns-clause-next
returns-clause-next c =
    let s = c.self.inside in
    let at = c.taken-taken.result in
    let next : AreNext c.args.self.now (c.args.value ∷ []) = value_next s.expected _ at c.args.value s.others.now c.args.self.now c.self.view_is c.taken-taken.ensures.is (omega arith) (sym c.get.ensures ∙ agree c.get.result (Some c.args.value) (sym c.ne.ensures ∙ c.if-ne.false)) in (λ _. next, λ _. cc)
