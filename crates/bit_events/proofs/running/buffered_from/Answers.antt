use Rattle.std.proofs.Common.{◌≡◌, ◌-◌, refl, sym, ap, ◌∙◌, arith}
use Rattle.bit_fields.specs.Buffered.{BufferedBits, beyond}
use Rattle.bit_fields.specs.BufferedParts.{bits_of_parts}
use Rattle.bit_events.proofs.running.buffered_from.Goals as goal

pub divide-requires-clause-few : goal.divide-requires-clause-few
divide-requires-clause-few c =
    let skipped : c.skip.new.self ≡ beyond (bits_of_parts c.args.parts) (c.args.first - c.args.parts.position) = c.skip.ensures.skipped ∙ rw (c.new-buffered.ensures, c.position.ensures) refl in
    omega (arith, ap (λ (b : BufferedBits). b.position) skipped, c.requires.there)

pub divide-requires-clause-here : goal.divide-requires-clause-here
divide-requires-clause-here c =
    let skipped : c.skip.new.self ≡ beyond (bits_of_parts c.args.parts) (c.args.first - c.args.parts.position) = c.skip.ensures.skipped ∙ rw (c.new-buffered.ensures, c.position.ensures) refl in
    let place : c.skip.new.self.position - c.args.parts.position ≡ c.args.first - c.args.parts.position = omega (arith, ap (λ (b : BufferedBits). b.position) skipped) in
    skipped ∙ ap (beyond (bits_of_parts c.args.parts)) (sym place)

pub returns : goal.returns
returns c = c.divide.ensures ∙ c.skip.ensures.skipped ∙ rw (c.new-buffered.ensures, c.position.ensures) refl
