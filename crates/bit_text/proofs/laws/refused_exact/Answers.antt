use Rattle.std.proofs.Common.{◌≡◌, ℕ, List, Err, inl, inr, ◌⊎◌, ◌∙◌, ap, sym}
use Rattle.bit_grammar.specs.Blocks.{Limits}
use Rattle.bit_grammar.specs.Normal.{Capped}
use Rattle.bit_text.specs.Listings.{reading_of}
use Rattle.bit_text.specs.Refusals.{HasNoMagic, IsRefused}
use Rattle.bit_text.specs.declared.reason.TextReason.{TextReason}
use Rattle.bit_text.specs.declared.reason.TextReason.TheVariants.{NoMagic}
use Rattle.bit_text.proofs.Refused.{refused_so, so_refused, so_ended, never_listed}
use Rattle.bit_text.proofs.laws.refused_exact.Goals as goal

either : (limits : Limits) (text : List ℕ) (reason : TextReason) (number : ℕ) → Capped limits → IsRefused limits text reason number ⊎ ((reason ≡ NoMagic) × HasNoMagic text number) → reading_of limits text ≡ Err (reason, number)
either limits text reason number capped (inl is) = so_refused limits text reason number capped is
either limits text reason number capped (inr (same, is)) = so_ended limits text number is ∙ ap (λ (r : TextReason). Err (r, number)) (sym same)

pub returns : goal.returns
returns c = record { exact = λ limits text reason number capped. (refused_so limits text reason number capped, either limits text reason number capped); never = never_listed }
