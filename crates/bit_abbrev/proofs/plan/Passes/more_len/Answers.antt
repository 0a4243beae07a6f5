use Rattle.std.proofs.Common.{◌+◌, ◌-◌, ◌≤◌, length, take, drop, sym, ap, ◌∙◌, subst, arith}
use Rattle.std.proofs.lemmas.List.{length-drop}
use Rattle.bit_fields.specs.Buffered.{BufferedBits, beyond}
use Rattle.bit_fields.specs.PlacedView.{loaded}
use Rattle.bit_fields.proofs.Placing.{length_at}
use Rattle.bit_abbrev.specs.Plans.{HasPasses}
use Rattle.bit_abbrev.proofs.Covering.{passes_rest}
use Rattle.bit_abbrev.proofs.plan.Passes.more_len.Goals as goal

pub overflow_add-result : goal.overflow_add-result
overflow_add-result c =
    let here = sym c.parts-start.ensures.bits ∙ c.after.ensures.rest ∙ ap (λ b. beyond b c.args.first) c.bits.ensures in
    let left = subst (λ (b : BufferedBits). c.in_ok-more.more + 336 ≤ length b.bits) here c.in_ok-more.ensures.left in
    omega (arith, left, length-drop c.args.first (loaded c.args.fields).bits, c.args.fields.bits.fits, length_at c.args.fields.bits.at c.args.fields.bits.bytes.now)

pub overflow_add-result-2 : goal.overflow_add-result-2
overflow_add-result-2 c =
    let here = sym c.parts-start.ensures.bits ∙ c.after.ensures.rest ∙ ap (λ b. beyond b c.args.first) c.bits.ensures in
    let left = subst (λ (b : BufferedBits). c.in_ok-more.more + 336 ≤ length b.bits) here c.in_ok-more.ensures.left in
    omega (arith, left, c.from.ensures, length-drop c.args.first (loaded c.args.fields).bits, c.args.fields.bits.fits, length_at c.args.fields.bits.at c.args.fields.bits.bytes.now)

pub returns-clause-has : goal.returns-clause-has
returns-clause-has c =
    let here = sym c.parts-start.ensures.bits ∙ c.after.ensures.rest ∙ ap (λ b. beyond b c.args.first) c.bits.ensures in
    let passes = c.args.self.now.pass in
    (c.args.first + c.in_ok-more.more, omega (arith, c.from.ensures), passes_rest passes c.args.done c.args.self.now.count (loaded c.args.fields) c.args.first c.in_ok-more.more c.requires.within c.requires.has (subst (λ (b : BufferedBits). HasPasses (take (c.args.self.now.count - c.args.done) (drop c.args.done passes)) b c.in_ok-more.more) here c.in_ok-more.ensures.has))
