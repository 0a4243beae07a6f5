use Rattle.std.proofs.Common.{◌≡◌, ℕ, ◌≤◌, Some, ◌∙◌, ap, arith}
use Rattle.bit_grammar.specs.Blocks.{entry}
use Rattle.bit_fields.specs.Buffered.{BufferedBits, beyond}
use Rattle.bit_fields.specs.PlacedView.{loaded, placed}
use Rattle.bit_abbrev.specs.Plans.{PassesOver}
use Rattle.bit_events.specs.Passing.{StepsOn}
use Rattle.bit_events.proofs.PassedOver.{plain_passes, plain_within, steps_known}
use Rattle.bit_events.proofs.passing.pass_next.Goals as goal

pub count_one-requires-clause-within : goal.count_one-requires-clause-within
count_one-requires-clause-within g c =
    let here : loaded c.after.result ≡ beyond (placed c.args.bits) c.args.width = c.after.ensures ∙ ap (λ (b : BufferedBits). beyond b c.args.width) c.load.ensures in
    plain_within (Some c.in-Some.passed) c.args.width (loaded c.after.result) (placed c.args.bits) here (omega (arith, c.requires.there, c.requires.width)) c.in-Some.ensures

pub returns-then-id-eq3-clause-steps : goal.returns-then-id-eq3-clause-steps
returns-then-id-eq3-clause-steps g c =
    let b = placed c.args.bits in
    let here : loaded c.after.result ≡ beyond b c.args.width = c.after.ensures ∙ ap (λ (x : BufferedBits). beyond x c.args.width) c.load.ensures in
    let passed = c.in-Some.passed in
    steps_known (g.P.PassOne.knows c.args.by) (λ d. (first : ℕ) → passed.count ≤ c.args.room → PassesOver (entry c.args.room first c.args.id d) (beyond b c.args.width) passed) (λ step d. StepsOn g.C.RunCounter.counted c.args.width d c.args.counter.now c.args.room b c.count_one.new.counter step) c.count_one.result
    (λ d known first few. plain_passes (Some passed) (g.P.PassOne.knows c.args.by) c.args.id c.args.room (loaded c.after.result) (beyond b c.args.width) here c.if-id-eq3.true c.in-Some.ensures first d known few)
    c.count_one.ensures.steps

pub returns-clause-steps : goal.returns-clause-steps
returns-clause-steps g c =
    let b = placed c.args.bits in
    let passed = c.in-Some-pass_one.passed in
    steps_known (g.P.PassOne.knows c.args.by) (λ d. (first : ℕ) → passed.count ≤ c.args.room → PassesOver (entry c.args.room first c.args.id d) (beyond b c.args.width) passed) (λ step d. StepsOn g.C.RunCounter.counted c.args.width d c.args.counter.now c.args.room b c.count_one-2.new.counter step) c.count_one-2.result
    (λ d known first few. c.in-Some-pass_one.ensures.passes first d known few)
    c.count_one-2.ensures.steps
