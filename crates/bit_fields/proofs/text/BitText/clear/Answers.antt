use Rattle.std.proofs.Common.{List, ℕ, length, ap, sym, subst, arith}
use Rattle.std.specs.Global.{Vec}
use Rattle.bit_fields.specs.Texts.{IsText, text_of}
use Rattle.bit_fields.proofs.Texts.{cleared_text}
use Rattle.bit_fields.proofs.text.BitText.clear.Goals as goal

pub invariant_of-self : goal.invariant_of-self
invariant_of-self c =
    let last = c.clear_first.new.bytes.items in (
      subst (λ (vs : List (Vec ℕ)). IsText vs last 0) (sym c.clear.ensures.items) (cleared_text c.self.inside.bits.last.items last c.self.invariant.0.few c.clear_first.ensures),
      omega (arith, ap (λ (vs : List (Vec ℕ)). length (text_of vs last 0)) c.clear.ensures.items),
    )

pub returns : goal.returns
returns c = ap (λ (vs : List (Vec ℕ)). text_of vs c.clear_first.new.bytes.items 0) c.clear.ensures.items
