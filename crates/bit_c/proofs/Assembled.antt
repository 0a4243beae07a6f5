-- Listings that were assembled or not.
use Rattle.std.proofs.Common.{◌≡◌, ℕ, List, [], Option, Some, Result, Ok, Err, sym, ap, subst, ◌∙◌}
use Rattle.bit_grammar.specs.Blocks.{Limits}
use Rattle.bit_grammar.specs.Forest.{Tree}
use Rattle.bit_grammar.specs.Normal.{Capped}
use Rattle.bit_fields.specs.Devices.{Incoming, Outgoing}
use Rattle.bit_fields.specs.declared.fault.Fault.TheVariants as fault
use Rattle.bit_text.specs.Assembling.{Assembles}
use Rattle.bit_text.specs.Listings.{reading_of}
use Rattle.bit_text.specs.declared.reason.TextReason.{TextReason}
use Rattle.bit_text.specs.declared.fault.AssembleFault.{AssembleFault}
use Rattle.bit_text.specs.declared.fault.AssembleFault.TheVariants.{Refused, Fault as FaultOf}
use Rattle.bit_text.proofs.Shown.{took_all, read_so}
use Rattle.bit_c.specs.Assembling.{FailsListing, IsFormOf}
use Rattle.bit_c.specs.Ending.{ended_by_listing}
use Rattle.bit_c.specs.Handing.{Makes}
use Rattle.bit_c.specs.declared.outcome.Outcome.{Outcome}
use Rattle.bit_c.proofs.Written.{form_taken}

-- ---- the form

pub assembled : (limits : Limits) (i later : Incoming) (listing text : List ℕ) (old new : Outgoing) (answer : Result ℕ AssembleFault) (count : ℕ) → Capped limits
    → i.to_come ≡ Some listing → old.bytes ≡ Some [] → new.bytes ≡ Some text → answer ≡ Ok count → Assembles limits i old answer later new → IsFormOf limits listing text
assembled limits i later listing text old new answer count capped is none all is_ok h =
    let done = subst (λ (a : Result ℕ AssembleFault). Assembles limits i old a later new) is_ok h in
    let taken = form_taken limits done.2.tree count old new text capped done.2.fit none all done.2.writes in
    (done.2.tree, ap (reading_of limits) (took_all i later listing done.0 is done.1) ∙ done.2.spells, taken.0, taken.1)

unmade : (limits : Limits) (i later : Incoming) (listing : List ℕ) (old new : Outgoing) (why : AssembleFault) (text : Option (List ℕ)) → i.to_come ≡ Some listing
    → Assembles limits i old (Err why) later new → Makes (IsFormOf limits listing) (FailsListing limits listing) (ended_by_listing why) text
unmade limits i later listing old new (Refused reason line) text is h = read_so limits i later listing (Err (reason, line)) is h.0
unmade limits i later listing old new (FaultOf fault.OutputTooLong) text is h =
    (h.2.tree, ap (reading_of limits) (took_all i later listing h.0 is h.1) ∙ h.2.spells, h.2.writes.0)
unmade limits i later listing old new (FaultOf fault.Write) text is h = tt
unmade limits i later listing old new (FaultOf fault.Read) text is h = tt
unmade limits i later listing old new (FaultOf fault.Memory) text is h = tt
unmade limits i later listing old new (FaultOf fault.Failed) text is h = absurd h
unmade limits i later listing old new (FaultOf (fault.Refused reason bit)) text is h = absurd h

-- no form was made
pub not_assembled : (limits : Limits) (i later : Incoming) (listing : List ℕ) (old new : Outgoing) (answer : Result ℕ AssembleFault) (why : AssembleFault) (outcome : Outcome) (text : Option (List ℕ))
    → i.to_come ≡ Some listing → answer ≡ Err why → outcome ≡ ended_by_listing why → Assembles limits i old answer later new → Makes (IsFormOf limits listing) (FailsListing limits listing) outcome text
not_assembled limits i later listing old new answer why outcome text is is_err ended h =
    subst (λ (o : Outcome). Makes (IsFormOf limits listing) (FailsListing limits listing) o text) (sym ended)
    (unmade limits i later listing old new why text is (subst (λ (a : Result ℕ AssembleFault). Assembles limits i old a later new) is_err h))
