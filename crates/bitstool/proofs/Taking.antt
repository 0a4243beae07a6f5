-- The bytes that commands take of their input.
use Rattle.std.proofs.Common.{◌≡◌, ℕ, ◌+◌, ◌<◌, ◌≤◌, true, List, [], ◌∷◌, ◌++◌, length, Some, None, Ok, Err, refl, sym, ap, ◌∙◌, subst, inl, arith, take, length-append, length-take}
use Rattle.std.specs.Prelude.{IsSome}
use Rattle.std.specs.Io.KnownBytes.{Consumes, prepend_known}
use Rattle.std.proofs.KnownBytes.{Consumes-trans}
use Rattle.std.proofs.lemmas.List.{append_cancel_right}
use Rattle.bit_grammar.specs.Blocks.{Limits}
use Rattle.bit_fields.specs.declared.fault.Fault.{Fault}
use Rattle.bit_fields.specs.declared.fault.Fault.TheVariants as fault
use Rattle.bit_fields.specs.declared.source.SourceFailed.{SourceFailed}
use Rattle.bit_fields.specs.Devices.{Account, SaysOf, Gave, Incoming, Spends, Fails, keeps_of, known_bytes}
use Rattle.bit_fields.proofs.Keeping.{fails_within, spends_within}
use Rattle.bit_events.proofs.Kept.{Stands}
use Rattle.bit_events.specs.Reading.{ReadsWhole}
use Rattle.bitstool.specs.declared.outcome.Outcome.{Outcome}
use Rattle.bitstool.specs.declared.outcome.Outcome.TheVariants.{Done, Refused, Read, TooLong, Write, Memory}
use Rattle.bitstool.specs.declared.task.Task.{Task}
use Rattle.bitstool.specs.Performing.{outcome_of}
use Rattle.bitstool.specs.Runs.{IsDrained, Pays, PaysForRun, TakesInput, ToldBytes}
use Rattle.bitstool.proofs.Known.{if_told}

-- ---- the counts of bytes and pulls

pub spends_more : (i now : Incoming) (a b : ℕ) → a ≤ b → Spends i a now 0 → Spends i b now 0
spends_more i now a b le h = record { pulls = omega (arith, h.pulls); failures = h.failures; tells = h.tells; bytes = λ t. let few = h.bytes t in omega (arith, few); accounts = h.accounts }

pub fails_more : (i now : Incoming) (a b : ℕ) → a ≤ b → Fails i a now 0 → Fails i b now 0
fails_more i now a b le h = record { pulls = omega (arith, h.pulls); failed = h.failed; tells = h.tells; bytes = λ t. let few = h.bytes t in omega (arith, few); accounts = h.accounts }

pub spends_then : (i mid now : Incoming) (a b : ℕ) → Spends i a mid 0 → Spends mid b now 0 → Spends i (a + b) now 0
spends_then i mid now a b h k = record {
  pulls = omega (arith, h.pulls, k.pulls);
  failures = k.failures ∙ h.failures;
  tells = λ t. k.tells (h.tells t);
  bytes = λ t.
      let first = h.bytes t in
      let second = k.bytes (h.tells t) in
      omega (arith, first, second);
  accounts = λ n all says. k.accounts n all (h.accounts n all says);
}

-- pulls that succeeded, and then one that failed
pub fails_then : (i mid now : Incoming) (a b : ℕ) → Spends i a mid 0 → Fails mid b now 0 → Fails i (a + b) now 0
fails_then i mid now a b h k = record {
  pulls = omega (arith, h.pulls, k.pulls);
  failed = rw (← h.failures) k.failed;
  tells = λ t. k.tells (h.tells t);
  bytes = λ t.
      let first = h.bytes t in
      let second = k.bytes (h.tells t) in
      omega (arith, first, second);
  accounts = λ n all says. k.accounts n all (h.accounts n all says);
}

-- ---- the remaining bytes

none_left : (o : ToldBytes) → IsSome o → known_bytes o ≡ [] → o ≡ Some []
none_left None told empty = absurd (cc)
none_left (Some bytes) told empty = rw empty refl

pub drained : (i now : Incoming) → (IsSome i.to_come → IsSome now.to_come) → (IsSome i.to_come → known_bytes now.to_come ≡ []) → IsDrained i now
drained i now tells empty = if_told i.to_come (λ bytes. now.to_come ≡ Some []) (λ t. none_left now.to_come (tells t) (empty t))

-- ---- commands that read one input

module _ {A : Type 0} (Holds : List ℕ → A → Type 0) (task : Task) (limits : Limits) (pays : (i now : Incoming) (o : Outcome) → PaysForRun o i (limits.bytes + 1) now → Pays task o i now) (i now : Incoming) where
  all_read : (a : A) → ReadsWhole Holds limits i (Ok a) now → IsDrained i now
  all_read a h = drained i now h.0.tells (λ t. (h.1 t).1)

  pub takes_done : (a : A) → ReadsWhole Holds limits i (Ok a) now → TakesInput task i now Done
  takes_done a h = (pays i now Done h.0, all_read a h)

  pub takes_long : (a : A) (limit : ℕ) → ReadsWhole Holds limits i (Ok a) now → TakesInput task i now (TooLong limit)
  takes_long a limit h = (pays i now (TooLong limit) h.0, all_read a h)

  pub takes_write : (a : A) → ReadsWhole Holds limits i (Ok a) now → TakesInput task i now Write
  takes_write a h = (pays i now Write (inl h.0), tt)

  pub takes_memory : (a : A) → ReadsWhole Holds limits i (Ok a) now → TakesInput task i now Memory
  takes_memory a h = (pays i now Memory (inl h.0), tt)

  pub takes_fault : (why : Fault) → ReadsWhole Holds limits i (Err why) now → TakesInput task i now (outcome_of limits.bytes why)
  takes_fault (fault.Refused reason bit) h = (pays i now (Refused reason bit) h.0, tt)
  takes_fault fault.Read h = (pays i now Read h, tt)
  takes_fault fault.Memory h = (pays i now Memory (inl h), tt)
  takes_fault fault.Write h = absurd h
  takes_fault fault.OutputTooLong h = absurd h
  takes_fault fault.Failed h = absurd h
