-- A text from a source.
use Rattle.std.proofs.Common.{◌≡◌, refl, ℕ, ◌+◌, ◌-◌, List, [], ◌++◌, take, Result, Ok, Err, sym, ◌∙◌, ap, subst, inl, inr, append-nil}
use Rattle.std.proofs.KnownBytes.{Consumes-trans, Consumes-nil}
use Rattle.bit_grammar.specs.Blocks.{Limits}
use Rattle.bit_grammar.specs.Forest.{Tree}
use Rattle.bit_fields.specs.Devices.{Incoming, Outgoing, Gave}
use Rattle.bit_fields.specs.declared.fault.Fault.{Fault}
use Rattle.bit_fields.specs.declared.fault.Fault.TheVariants.{Read, Write, Memory, OutputTooLong, Failed, Refused as RefusedBits}
use Rattle.bit_text.specs.declared.reason.TextReason.{TextReason}
use Rattle.bit_text.specs.declared.fault.AssembleFault.{AssembleFault}
use Rattle.bit_text.specs.declared.fault.AssembleFault.TheVariants.{Refused, Fault as FaultOf}
use Rattle.bit_text.specs.declared.assembler.Assembler.{Assembler}
use Rattle.bit_text.specs.Listings.{Standing, at_start, reading_of}
use Rattle.bit_text.specs.Stops.{IsAt}
use Rattle.bit_text.specs.Assembling.{outlook, TakesBytes, TakesAll, Took, TookAll, Finishes, Assembles}

-- ---- pulls

pub took_none : (i : Incoming) → Took [] i i
took_none i = record { bytes = Consumes-nil i.to_come; failures = refl }

pub took_more : (text into : List ℕ) (count : ℕ) (i j k : Incoming) → Took text i j → Gave j k count into → Took (text ++ take count into) i k
took_more text into count i j k took gave = record {
  bytes = Consumes-trans i.to_come j.to_come k.to_come text (take count into) took.bytes gave.bytes;
  failures = gave.failures ∙ took.failures;
}

pub taken_fault : (now : Standing) (text : List ℕ) (i later : Incoming) (old new : Assembler) (fault : AssembleFault) → Took text i later → TakesBytes now text old (Err fault) new → TakesAll now i old (Err fault) later new
taken_fault now text i later old new (Refused reason line) took takes = (text, took, takes)
taken_fault now text i later old new (FaultOf fault) took takes = subst (λ (f : Fault). TakesAll now i old (Err (FaultOf f)) later new) (sym takes) took.failures

-- ---- the whole

-- at the beginning of a text
pub record Fresh (limits : Limits) (a : Assembler) : Type 0 where
  pub here : IsAt limits at_start a.writer
  pub under : a.limits ≡ limits
  pub number : a.number ≡ 0
  pub line : a.line.items ≡ []

pub fresh_at : (limits : Limits) (a : Assembler) → Fresh limits a → IsAt a.limits at_start a.writer
fresh_at limits a f = subst (λ (l : Limits). IsAt l at_start a.writer) (sym f.under) f.here

fresh_outlook : (limits : Limits) (a : Assembler) (text : List ℕ) → Fresh limits a → outlook at_start a text ≡ reading_of limits text
fresh_outlook limits a text f = rw (f.under, f.number, f.line) refl

finished : (limits : Limits) (text : List ℕ) (i later : Incoming) (old new : Outgoing) (r : Result ℕ AssembleFault) → TookAll text i later → Finishes (reading_of limits text) limits old r new → Assembles limits i old r later new
finished limits text i later old new (Ok count) took h = (text, took, h)
finished limits text i later old new (Err (Refused reason line)) took h = ((text, inl (took, h.0)), h.1)
finished limits text i later old new (Err (FaultOf Write)) took h = (text, took, h)
finished limits text i later old new (Err (FaultOf OutputTooLong)) took h = (text, took, h)
finished limits text i later old new (Err (FaultOf Memory)) took h = (took.took.failures, h)
finished limits text i later old new (Err (FaultOf Read)) took h = absurd h
finished limits text i later old new (Err (FaultOf Failed)) took h = h
finished limits text i later old new (Err (FaultOf (RefusedBits reason bit))) took h = h

pub assembled : (limits : Limits) (i later : Incoming) (old new : Outgoing) (a b : Assembler) (r : Result ℕ AssembleFault) → Fresh limits a → TakesAll at_start i a (Ok tt) later b
    → ((now : Standing) → IsAt b.limits now b.writer → Finishes (outlook now b []) b.limits old r new) → Assembles limits i old r later new
assembled limits i later old new a b r fresh all finishes =
    let text = all.0 in
    let takes = all.2 in
    let under : b.limits ≡ limits = takes.2 ∙ fresh.under in
    let read : outlook takes.0 b [] ≡ reading_of limits text =
    sym (takes.3 []) ∙ ap (outlook at_start a) (append-nil text) ∙ fresh_outlook limits a text fresh in
    let done = finishes takes.0 takes.1 in
    finished limits text i later old new r all.1
    (subst (λ (w : Result Tree (TextReason × ℕ)). Finishes w limits old r new) read (subst (λ (l : Limits). Finishes (outlook takes.0 b []) l old r new) under done))

pub not_assembled : (limits : Limits) (i later : Incoming) (old : Outgoing) (a b : Assembler) (fault : AssembleFault) → Fresh limits a → TakesAll at_start i a (Err fault) later b → Assembles limits i old (Err fault) later old
not_assembled limits i later old a b (Refused reason line) fresh all = ((all.0, inr (all.1, λ rest. sym (fresh_outlook limits a (all.0 ++ rest) fresh) ∙ all.2 rest)), refl)
not_assembled limits i later old a b (FaultOf Read) fresh all = (all, refl)
not_assembled limits i later old a b (FaultOf Memory) fresh all = (all, refl)
not_assembled limits i later old a b (FaultOf Write) fresh all = absurd all
not_assembled limits i later old a b (FaultOf OutputTooLong) fresh all = absurd all
not_assembled limits i later old a b (FaultOf Failed) fresh all = all
not_assembled limits i later old a b (FaultOf (RefusedBits reason bit)) fresh all = all
