use Rattle.std.proofs.Common.{◌≡◌, ◌+◌, ◌≤◌, length, sym, ap, ◌∙◌, subst, arith, rules}
use Rattle.std.proofs.lemmas.List.{length-drop}
use Rattle.bit_fields.specs.Buffered.{BufferedBits, beyond}
use Rattle.bit_fields.specs.PlacedView.{loaded}
use Rattle.bit_fields.proofs.Placing.{length_at}
use Rattle.bit_abbrev.specs.Plans.{HasArray, HasRest}
use Rattle.bit_abbrev.specs.declared.plan.Rest.{Rest}
use Rattle.bit_abbrev.specs.declared.plan.Rest.TheVariants.{Nothing, Odd}
use Rattle.bit_abbrev.proofs.PassedRecords.{covered, shaped, singles_passed, array_passed}
use Rattle.bit_abbrev.proofs.plan.Plan.pass_any.Goals as goal

pub returns-then-eq-2-clause-passes : goal.returns-then-eq-2-clause-passes
returns-then-eq-2-clause-passes c = λ first ops is few.
    let planned : c.args.self.now.rest ≡ Odd → ⊥ = search rules in
    let nothing : c.args.self.now.rest ≡ Nothing = search rules in
    let p = is planned in
    let values = covered p.others c.args.self.now.passes (loaded c.args.fields) c.in_ok-len.len p.covers c.in_ok-len.ensures.has (omega (arith, c.in_ok-len.ensures.left)) in
    shaped first c.args.room ops c.args.self.now.code c.from-count.result c.in_ok-len.len (loaded c.args.fields) p.shape
    (singles_passed first c.args.room c.args.self.now.code c.from-count.result c.in_ok-len.len ops p.others p.tail (loaded c.args.fields) p.all (subst (λ (r : Rest). HasRest c.args.self.now.width r p.tail) nothing p.rest) (p.count ∙ sym c.from-count.ensures) few values)

pub overflow_add-result : goal.overflow_add-result
overflow_add-result c =
    let here = c.after.ensures.rest ∙ ap (λ a. beyond a c.in_ok-len.len) c.bits.ensures in
    let more = subst (λ (b : BufferedBits). c.in_ok-more.more ≤ length b.bits) here c.in_ok-more.ensures.within in
    omega (arith, more, c.in_ok-len.ensures.left, length-drop c.in_ok-len.len (loaded c.args.fields).bits, c.args.fields.bits.fits, length_at c.args.fields.bits.at c.args.fields.bits.bytes.now)

pub returns-clause-passes : goal.returns-clause-passes
returns-clause-passes c = λ first ops is few.
    let planned : c.args.self.now.rest ≡ Odd → ⊥ = search rules in
    let p = is planned in
    let values = covered p.others c.args.self.now.passes (loaded c.args.fields) c.in_ok-len.len p.covers c.in_ok-len.ensures.has (omega (arith, c.in_ok-len.ensures.left)) in
    let here = c.after.ensures.rest ∙ ap (λ a. beyond a c.in_ok-len.len) c.bits.ensures in
    let array = subst (λ (b : BufferedBits). HasArray p.tail c.in_ok-more.elements b c.in_ok-more.more) here (c.in_ok-more.ensures.has p.tail p.rest) in
    shaped first c.args.room ops c.args.self.now.code (c.from-count.result + c.in_ok-more.elements) (c.in_ok-len.len + c.in_ok-more.more) (loaded c.args.fields) p.shape
    (array_passed first c.args.room c.args.self.now.code c.from-count.result c.in_ok-more.elements c.in_ok-more.more c.in_ok-len.len ops p.others p.tail (loaded c.args.fields) p.all (p.count ∙ sym c.from-count.ensures) few values array)
