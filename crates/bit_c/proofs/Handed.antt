-- Results that are handed out.
use Rattle.std.proofs.Common.{ℕ, List, sym, subst}
use Rattle.std.specs.Prelude.{Option, Some, None}
use Rattle.bit_c.specs.declared.outcome.Outcome.{Outcome}
use Rattle.bit_c.specs.declared.outcome.Outcome.TheVariants.{Done, Different, Refused, RefusedLine, Memory, TooLong, Limits, Room, Closed, Names, Unfit}
use Rattle.bit_c.specs.Handing.{Hands, HandsKept, Makes, HandsText}

-- a text was made and handed out
given : (IsText : List ℕ → Type 0) (Stops : Outcome → Type 0) (text old new : List ℕ) (needed : ℕ) (outcome : Outcome) → Stops Memory → IsText text → HandsKept text old needed new outcome → HandsText IsText Stops old needed new outcome
given IsText Stops text old new needed Done lacks is h = (text, is, h)
given IsText Stops text old new needed Room lacks is h = (text, is, h)
given IsText Stops text old new needed Different lacks is h = absurd h
given IsText Stops text old new needed (Refused input reason bit) lacks is h = absurd h
given IsText Stops text old new needed (RefusedLine reason line) lacks is h = absurd h
given IsText Stops text old new needed Memory lacks is h = (lacks, h)
given IsText Stops text old new needed TooLong lacks is h = absurd h
given IsText Stops text old new needed Limits lacks is h = absurd h
given IsText Stops text old new needed Closed lacks is h = absurd h
given IsText Stops text old new needed Names lacks is h = absurd h
given IsText Stops text old new needed Unfit lacks is h = absurd h

-- the result of a call was handed out, or nothing was made
pub handed : (IsText : List ℕ → Type 0) (Stops : Outcome → Type 0) (made : Outcome) (text : Option (List ℕ)) (old new : List ℕ) (needed : ℕ) (outcome : Outcome)
    → Stops Memory → Makes IsText Stops made text → Hands made text old needed new outcome → HandsText IsText Stops old needed new outcome
handed IsText Stops Done (Some text) old new needed outcome lacks is h = given IsText Stops text old new needed outcome lacks is h
handed IsText Stops Done None old new needed outcome lacks is h = absurd is
handed IsText Stops Room text old new needed outcome lacks is h = absurd is
handed IsText Stops Different text old new needed outcome lacks is h = subst (HandsText IsText Stops old needed new) (sym h.1) (is, h.0)
handed IsText Stops (Refused input reason bit) text old new needed outcome lacks is h = subst (HandsText IsText Stops old needed new) (sym h.1) (is, h.0)
handed IsText Stops (RefusedLine reason line) text old new needed outcome lacks is h = subst (HandsText IsText Stops old needed new) (sym h.1) (is, h.0)
handed IsText Stops Memory text old new needed outcome lacks is h = subst (HandsText IsText Stops old needed new) (sym h.1) (is, h.0)
handed IsText Stops TooLong text old new needed outcome lacks is h = subst (HandsText IsText Stops old needed new) (sym h.1) (is, h.0)
handed IsText Stops Limits text old new needed outcome lacks is h = subst (HandsText IsText Stops old needed new) (sym h.1) (is, h.0)
handed IsText Stops Closed text old new needed outcome lacks is h = subst (HandsText IsText Stops old needed new) (sym h.1) (is, h.0)
handed IsText Stops Names text old new needed outcome lacks is h = subst (HandsText IsText Stops old needed new) (sym h.1) (is, h.0)
handed IsText Stops Unfit text old new needed outcome lacks is h = subst (HandsText IsText Stops old needed new) (sym h.1) (is, h.0)
