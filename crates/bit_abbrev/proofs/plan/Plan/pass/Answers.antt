use Rattle.std.proofs.Common.{◌+◌, ℕ, take, sym, ◌∙◌, subst, arith}
use Rattle.bit_fields.specs.PlacedView.{loaded}
use Rattle.bit_abbrev.specs.Plans.{HasPasses, HasRest}
use Rattle.bit_abbrev.specs.declared.plan.Rest.{Rest}
use Rattle.bit_abbrev.proofs.PassedRecords.{covered, not_odd, shaped, singles_passed}
use Rattle.bit_abbrev.proofs.plan.Plan.pass.Goals as goal

pub returns-in-Some-clause-passes : goal.returns-in-Some-clause-passes
returns-in-Some-clause-passes c = λ first ops is few.
    let plan = c.args.self.now in
    let known = plan.one c.if-self.true in
    let p = is (not_odd plan.rest known.0) in
    let len = c.from.result + c.in-Some.len in
    let one = subst (λ (n : ℕ). HasPasses (take n plan.passes.pass) (loaded c.args.fields) c.in-Some.len) (sym known.1) c.in-Some.ensures.has in
    let values = covered p.others plan.passes (loaded c.args.fields) len p.covers (c.in-Some.len, omega (arith, c.from.ensures), one) (omega (arith, c.from.ensures, c.in-Some.ensures.few, c.requires)) in
    shaped first c.args.room ops plan.code c.from-in-Some.result len (loaded c.args.fields) p.shape
    (singles_passed first c.args.room plan.code c.from-in-Some.result len ops p.others p.tail (loaded c.args.fields) p.all (subst (λ (r : Rest). HasRest plan.width r p.tail) known.0 p.rest) (p.count ∙ sym c.from-in-Some.ensures) few values)
