-- Texts that were made or not.
use Rattle.std.proofs.Common.{◌≡◌, ℕ, List, Result, Err, Some, refl, sym, subst}
use Rattle.std.specs.Prelude.{Option}
use Rattle.bit_grammar.specs.Setting.{Setting, keep}
use Rattle.bit_grammar.specs.Grammar.{at}
use Rattle.bit_grammar.specs.Blocks as blocks
use Rattle.bit_grammar.specs.Input.{BreaksInput}
use Rattle.bit_grammar.specs.Normal.{HasTree}
use Rattle.bit_fields.specs.declared.fault.Fault.{Fault}
use Rattle.bit_fields.specs.declared.fault.Fault.TheVariants as fault
use Rattle.bit_fields.specs.Devices.{Incoming, Outgoing}
use Rattle.bit_norm.specs.Whole.{Normalises}
use Rattle.bit_scan.specs.Reporting.{Reports}
use Rattle.bit_scan.specs.Showing.{Shows}
use Rattle.bit_c.specs.declared.keys.BsKeys.{BsKeys}
use Rattle.bit_c.specs.declared.outcome.Outcome.{Outcome}
use Rattle.bit_c.specs.declared.outcome.Outcome.TheVariants.{Memory}
use Rattle.bit_c.specs.declared.texts.Text.{Text}
use Rattle.bit_c.specs.declared.texts.Text.TheVariants.{Form, Report, Listing}
use Rattle.bit_c.specs.Texts.{IsTextOf, FailsText}
use Rattle.bit_c.specs.Ending.{ended_by}
use Rattle.bit_c.specs.Handing.{Makes}
use Rattle.bit_c.proofs.Inputs.{known}

-- an allocation may fail for any text
pub no_memory : (text : Text) (setting : Setting) (limits : blocks.Limits) (bytes : List ℕ) → FailsText text setting limits bytes Memory
no_memory Form setting limits bytes = tt
no_memory (Report keys) setting limits bytes = tt
no_memory Listing setting limits bytes = tt

by_fault : (setting : Setting) (limits : blocks.Limits) (i now : Incoming) (bytes : List ℕ) (old new : Outgoing) (why : Fault) (text : Option (List ℕ)) → i.to_come ≡ Some bytes
    → Normalises setting limits i old (Err why) now new → Makes (IsTextOf Form setting limits bytes) (FailsText Form setting limits bytes) (ended_by 0 why) text
by_fault setting limits i now bytes old new (fault.Refused reason bit) text is h = (refl, known i.to_come bytes (λ b. BreaksInput limits b (at reason bit)) is h.0.1)
by_fault setting limits i now bytes old new fault.OutputTooLong text is h = (h.0, known i.to_come bytes (λ b. HasTree setting limits b h.0) is (λ tells. (h.1.1 tells).0.0), h.2.0)
by_fault setting limits i now bytes old new fault.Write text is h = tt
by_fault setting limits i now bytes old new fault.Read text is h = tt
by_fault setting limits i now bytes old new fault.Memory text is h = tt
by_fault setting limits i now bytes old new fault.Failed text is h = absurd h

-- no form was made
pub not_made : (setting : Setting) (limits : blocks.Limits) (i now : Incoming) (bytes : List ℕ) (old new : Outgoing) (answer : Result ℕ Fault) (why : Fault) (outcome : Outcome) (text : Option (List ℕ))
    → i.to_come ≡ Some bytes → answer ≡ Err why → outcome ≡ ended_by 0 why → Normalises setting limits i old answer now new → Makes (IsTextOf Form setting limits bytes) (FailsText Form setting limits bytes) outcome text
not_made setting limits i now bytes old new answer why outcome text is is_err ended h =
    subst (λ (o : Outcome). Makes (IsTextOf Form setting limits bytes) (FailsText Form setting limits bytes) o text) (sym ended)
    (by_fault setting limits i now bytes old new why text is (subst (λ (a : Result ℕ Fault). Normalises setting limits i old a now new) is_err h))

-- ---- reports and listings

unreported : (keys : BsKeys) (limits : blocks.Limits) (i now : Incoming) (bytes : List ℕ) (old new : Outgoing) (why : Fault) (text : Option (List ℕ)) → i.to_come ≡ Some bytes
    → Reports limits i old (Err why) now new → Makes (IsTextOf (Report keys) keep limits bytes) (FailsText (Report keys) keep limits bytes) (ended_by 0 why) text
unreported keys limits i now bytes old new (fault.Refused reason bit) text is h = (refl, known i.to_come bytes (λ b. BreaksInput limits b (at reason bit)) is h.0.1)
unreported keys limits i now bytes old new fault.Write text is h = tt
unreported keys limits i now bytes old new fault.Read text is h = tt
unreported keys limits i now bytes old new fault.Memory text is h = tt
unreported keys limits i now bytes old new fault.OutputTooLong text is h = absurd h
unreported keys limits i now bytes old new fault.Failed text is h = absurd h

pub not_reported : (keys : BsKeys) (limits : blocks.Limits) (i now : Incoming) (bytes : List ℕ) (old new : Outgoing) (answer : Result (Unit {0}) Fault) (why : Fault) (outcome : Outcome) (text : Option (List ℕ))
    → i.to_come ≡ Some bytes → answer ≡ Err why → outcome ≡ ended_by 0 why → Reports limits i old answer now new → Makes (IsTextOf (Report keys) keep limits bytes) (FailsText (Report keys) keep limits bytes) outcome text
not_reported keys limits i now bytes old new answer why outcome text is is_err ended h =
    subst (λ (o : Outcome). Makes (IsTextOf (Report keys) keep limits bytes) (FailsText (Report keys) keep limits bytes) o text) (sym ended)
    (unreported keys limits i now bytes old new why text is (subst (λ (a : Result (Unit {0}) Fault). Reports limits i old a now new) is_err h))

unlisted : (setting : Setting) (limits : blocks.Limits) (i now : Incoming) (bytes : List ℕ) (old new : Outgoing) (why : Fault) (text : Option (List ℕ)) → i.to_come ≡ Some bytes
    → Shows setting limits i old (Err why) now new → Makes (IsTextOf Listing setting limits bytes) (FailsText Listing setting limits bytes) (ended_by 0 why) text
unlisted setting limits i now bytes old new (fault.Refused reason bit) text is h = (refl, known i.to_come bytes (λ b. BreaksInput limits b (at reason bit)) is h.0.1)
unlisted setting limits i now bytes old new fault.Write text is h = tt
unlisted setting limits i now bytes old new fault.Read text is h = tt
unlisted setting limits i now bytes old new fault.Memory text is h = tt
unlisted setting limits i now bytes old new fault.OutputTooLong text is h = absurd h
unlisted setting limits i now bytes old new fault.Failed text is h = absurd h

pub not_listed : (setting : Setting) (limits : blocks.Limits) (i now : Incoming) (bytes : List ℕ) (old new : Outgoing) (answer : Result (Unit {0}) Fault) (why : Fault) (outcome : Outcome) (text : Option (List ℕ))
    → i.to_come ≡ Some bytes → answer ≡ Err why → outcome ≡ ended_by 0 why → Shows setting limits i old answer now new → Makes (IsTextOf Listing setting limits bytes) (FailsText Listing setting limits bytes) outcome text
not_listed setting limits i now bytes old new answer why outcome text is is_err ended h =
    subst (λ (o : Outcome). Makes (IsTextOf Listing setting limits bytes) (FailsText Listing setting limits bytes) o text) (sym ended)
    (unlisted setting limits i now bytes old new why text is (subst (λ (a : Result (Unit {0}) Fault). Shows setting limits i old a now new) is_err h))
