-- Texts that go to sinks.
use Rattle.std.proofs.Common.{◌≡◌, ◌∙◌, ℕ, ◌^◌, ◌-◌, ◌<◌, List, ◌++◌, length, sym, ap, subst, append_assoc, append-nil, inl, inr, arith, Result, Ok, Err}
use Rattle.std.specs.Io.KnownBytes.{Appends}
use Rattle.std.proofs.KnownBytes.{Appends-kept, Appends-trans}
use Rattle.std.proofs.lemmas.Bool.{cases_lt}
use Rattle.std.proofs.lemmas.List.{nil_from_length}
use Rattle.bit_fields.specs.declared.sink.SinkFailed.{SinkFailed}
use Rattle.bit_fields.specs.Devices.{Accepted, Declined, Outgoing}
use Rattle.bit_scan.specs.Written.{HasFailed, TookFront, TookText}
use Rattle.bitstool.specs.Performing.{PutsAll}
use Rattle.bitstool.proofs.Known.{part_stays}

-- a failed call is a failure
pub declined_fails : (old new : Outgoing) → Declined old new → HasFailed old new
declined_fails old new h = elim (cases_lt old.failures (2 ^ 64 - 1)) [
  | inl fresh ↦ let rose = h.counted fresh in inl (omega (arith, rose))
  | inr spent ↦ inr spent
]

-- an output that failed later has failed
pub failed_after : (old mid new : Outgoing) → mid.failures ≡ old.failures → HasFailed mid new → HasFailed old new
failed_after old mid new same (inl rose) = inl (omega (arith, same, rose))
failed_after old mid new same (inr spent) = inr (omega (arith, same, spent))

-- ---- the puts of a text

-- all of it, if nothing remains
pub took_all : (old new : Outgoing) (text part rest : List ℕ) → length rest ≡ 0 → text ≡ part ++ rest → Appends old.bytes new.bytes part → new.failures ≡ old.failures → TookText text old new
took_all old new text part rest none e h same =
    let whole : part ≡ text = sym (e ∙ ap (λ (r : List ℕ). part ++ r) (nil_from_length rest none) ∙ append-nil part) in
    record { bytes = subst (λ (p : List ℕ). Appends old.bytes new.bytes p) whole h; failures = same }

-- a prefix of it, if a put failed
pub put_failed : (old mid new : Outgoing) (text part rest : List ℕ) → text ≡ part ++ rest → Appends old.bytes mid.bytes part → mid.failures ≡ old.failures → Declined mid new → TookFront text old new × HasFailed old new
put_failed old mid new text part rest e h same d = (record { front = part; rest = rest; split = e; bytes = Appends-kept old.bytes mid.bytes new.bytes part h d.bytes }, failed_after old mid new same (declined_fails mid new d))

-- or took nothing
pub put_none : (old mid new : Outgoing) (text part rest : List ℕ) (n : ℕ) → n ≡ 0 → 0 < length rest → text ≡ part ++ rest → Appends old.bytes mid.bytes part → mid.failures ≡ old.failures → Accepted mid new n rest
    → TookFront text old new × HasFailed old new
put_none old mid new text part rest n none some e h same a =
    let rose = a.failed none some in
    (record { front = part; rest = rest; split = e; bytes = part_stays old.bytes mid.bytes new.bytes part rest n none h a.bytes }, inl (omega (arith, same, rose)))

-- ---- texts in turn

pub text_then : (a b : List ℕ) (old mid new : Outgoing) (answer : Result (Unit {0}) SinkFailed) → TookText a old mid → PutsAll b mid answer new → PutsAll (a ++ b) old answer new
text_then a b old mid new (Ok _) h k = record { bytes = Appends-trans old.bytes mid.bytes new.bytes a b h.bytes k.bytes; failures = k.failures ∙ h.failures }
text_then a b old mid new (Err e) h k = (
  record {
    front = a ++ k.0.front;
    rest = k.0.rest;
    split = ap (λ (t : List ℕ). a ++ t) k.0.split ∙ sym (append_assoc a k.0.front k.0.rest);
    bytes = Appends-trans old.bytes mid.bytes new.bytes a k.0.front h.bytes k.0.bytes;
  },
  failed_after old mid new h.failures k.1,
)

pub front_of : (a b : List ℕ) (old new : Outgoing) → TookFront a old new × HasFailed old new → TookFront (a ++ b) old new × HasFailed old new
front_of a b old new h = (record { front = h.0.front; rest = h.0.rest ++ b; split = ap (λ (t : List ℕ). t ++ b) h.0.split ∙ append_assoc h.0.front h.0.rest b; bytes = h.0.bytes }, h.1)
