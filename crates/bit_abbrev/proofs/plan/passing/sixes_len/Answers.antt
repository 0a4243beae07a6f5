use Rattle.std.proofs.Common.{◌≡◌, ◌-◌, ◌+◌, refl, ◌∙◌, subst, arith}
use Rattle.bit_fields.specs.Buffered.{BufferedBits}
use Rattle.bit_fields.specs.Placed.{HasNumbers}
use Rattle.bit_fields.specs.PlacedView.{loaded}
use Rattle.bit_fields.proofs.Placing.{length_at, has_both}
use Rattle.bit_abbrev.proofs.plan.passing.sixes_len.Goals as goal

pub overflow_add-result : goal.overflow_add-result
overflow_add-result c =
    let there = subst (λ (b : BufferedBits). HasNumbers 6 c.args.count b c.in_ok-len.len) c.bits.ensures c.in_ok-len.ensures in
    omega (arith, there.0, c.position.ensures, c.position-2.ensures, c.args.numbers.bits.fits, length_at c.args.numbers.bits.at c.args.numbers.bits.bytes.now)

pub returns : goal.returns
returns c =
    let first : BufferedBits = loaded c.args.first in
    let x = (loaded c.args.numbers).position - first.position in
    let here = subst (λ (b : BufferedBits). HasNumbers 6 c.args.count b c.in_ok-len.len) (c.bits.ensures ∙ c.requires.behind) c.in_ok-len.ensures in
    let all : x + c.in_ok-len.len ≡ c.position.result - c.position-2.result + c.in_ok-len.len = omega (arith, c.position.ensures, c.position-2.ensures) in
    subst (HasNumbers 6 (c.args.before + c.args.count) first) all (has_both 6 c.args.before c.args.count (c.args.before + c.args.count) x c.in_ok-len.len (x + c.in_ok-len.len) first refl refl c.requires.numbers here)
