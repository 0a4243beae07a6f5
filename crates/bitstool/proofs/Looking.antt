-- What a command does with an input that was looked at first.
use Rattle.std.proofs.Common.{◌≡◌, ◌∙◌, ◌⊎◌, ℕ, ◌+◌, ◌-◌, ◌^◌, ◌≤◌, Bool, List, [], Some, None, max, take, drop, length, refl, ap, subst, inl, inr, arith}
use Rattle.std.specs.Prelude.{IfSome, IsSome}
use Rattle.std.specs.Io.KnownBytes.{Keeps}
use Rattle.std.proofs.KnownBytes.{Keeps-refl}
use Rattle.std.proofs.lemmas.Bool.{cases_lt}
use Rattle.std.proofs.lemmas.Grind.{common_steps}
use Rattle.bit_grammar.specs.declared.reason.Reason.{Reason}
use Rattle.bit_grammar.specs.Forest.{Tree}
use Rattle.bit_grammar.specs.Grammar.{at}
use Rattle.bit_grammar.specs.Blocks.{Limits}
use Rattle.bit_grammar.specs.Input.{BreaksInput, Accepts}
use Rattle.bit_grammar.specs.Machine.{Ending}
use Rattle.bit_grammar.specs.Normal.{HasTree}
use Rattle.bit_grammar.specs.Outlook.{outlook}
use Rattle.bit_fields.specs.Devices.{Begins, Fails, GaveNone, Incoming, IsWorn, Looked, Outgoing, Spends, known_bytes}
use Rattle.bit_norm.specs.declared.comparing.Which.TheVariants.{First, Second}
use Rattle.bit_scan.specs.Analysing.{HasTally}
use Rattle.bit_scan.specs.declared.format.EventStyle.{EventStyle}
use Rattle.bitstool.specs.declared.outcome.Outcome.{Outcome}
use Rattle.bitstool.specs.declared.outcome.Outcome.TheVariants.{Done, Different, Refused, RefusedOf, RefusedLine, TooLong, Usage, Read, Write, Memory}
use Rattle.bitstool.specs.declared.task.Explain.TheVariants.{Word, Lines, Json}
use Rattle.bitstool.specs.declared.task.Task.{Task}
use Rattle.bitstool.specs.declared.task.Task.TheVariants.{Check, Normal, Same, Analyse, Show, Events, Assemble}
use Rattle.bitstool.specs.LeftOut.{setting_for}
use Rattle.bitstool.specs.Runs.{Answers, DifferFirst, Does, EndsAs, IsDrained, LacksMemory, LeavesOutput, LeavesRefused, LeavesUnread, Pays, PaysForRun, Refuses, StopsShort, TakesListing, TellsEvents, ToldBytes, WritesAnswer, most_taken}
use Rattle.bitstool.proofs.Taking.{fails_then, spends_then}

-- the first of the bytes that a source shows are the first that it had before it was looked at
pub begins_before : (old new : ToldBytes) (shown : List ℕ) (n : ℕ) → Keeps old new → Begins new shown → Begins old (take n shown)
begins_before None new shown n keeps begins = tt
begins_before (Some bytes) None shown n keeps begins = absurd keeps
begins_before (Some bytes) (Some same) shown n keeps begins = grind (arith, common_steps, keeps, begins)

-- no bytes are
pub begins_nothing : (told : ToldBytes) → Begins told []
begins_nothing None = tt
begins_nothing (Some bytes) = refl

-- what holds of bytes that stay known
holds_before : (old new : ToldBytes) (P : List ℕ → Type 0) → Keeps old new → IfSome new P → IfSome old P
holds_before None new P keeps holds = tt
holds_before (Some bytes) None P keeps holds = absurd keeps
holds_before (Some bytes) (Some same) P keeps holds = subst P keeps holds

kept : (old new : ToldBytes) → Keeps old new → IsSome old → new ≡ old
kept None new keeps told = absurd (cc)
kept (Some bytes) None keeps told = absurd keeps
kept (Some bytes) (Some same) keeps told = ap Some keeps

-- ---- what was taken

module _ (i mid now : Incoming) (looked : Looked i mid) where
  told : IsSome i.to_come → mid.to_come ≡ i.to_come
  told is = kept i.to_come mid.to_come looked.bytes is

  -- a look is no pull
  spends_none : Spends i 0 mid 0
  spends_none = record {
    pulls = omega (arith, looked.pulls);
    failures = looked.failures;
    tells = λ is. rw (told is) is;
    bytes = λ is.
        let same : length (known_bytes mid.to_come) ≡ length (known_bytes i.to_come) = ap (λ (o : ToldBytes). length (known_bytes o)) (told is) in
        omega (arith, same);
    accounts = looked.accounts;
  }

  spends_before : (most : ℕ) → Spends mid most now 0 → Spends i most now 0
  spends_before most spends = subst (λ n. Spends i n now 0) (omega arith) (spends_then i mid now 0 most spends_none spends)

  fails_before : (most : ℕ) → Fails mid most now 0 → Fails i most now 0
  fails_before most fails = subst (λ n. Fails i n now 0) (omega arith) (fails_then i mid now 0 most spends_none fails)

  either_before : (most : ℕ) → Spends mid most now 0 ⊎ Fails mid most now 0 → Spends i most now 0 ⊎ Fails i most now 0
  either_before most (inl spends) = inl (spends_before most spends)
  either_before most (inr fails) = inr (fails_before most fails)

  pays_run : (outcome : Outcome) (most : ℕ) → PaysForRun outcome mid most now → PaysForRun outcome i most now
  pays_run Read most pays = fails_before most pays
  pays_run Write most pays = either_before most pays
  pays_run Memory most pays = either_before most pays
  pays_run outcome most pays = spends_before most pays

  failed_before : (now.failures ≡ mid.failures + 1) ⊎ IsWorn now → (now.failures ≡ i.failures + 1) ⊎ IsWorn now
  failed_before (inl once) = inl (omega (arith, once, looked.failures))
  failed_before (inr worn) = inr worn

  pays_listing : (outcome : Outcome) → TakesListing outcome mid now → TakesListing outcome i now
  pays_listing Read takes = failed_before takes
  pays_listing Write (inl none) = inl (none ∙ looked.failures)
  pays_listing Write (inr failed) = inr (failed_before failed)
  pays_listing outcome takes = takes ∙ looked.failures

  pays_before : (task : Task) (outcome : Outcome) → Pays task outcome mid now → Pays task outcome i now
  pays_before (Assemble limits) outcome pays = pays_listing outcome pays
  pays_before task outcome pays = pays_run outcome (most_taken task outcome) pays

  drained_before : IsDrained mid now → IsDrained i now
  drained_before drained = holds_before i.to_come mid.to_come _ looked.bytes drained

  ends_before : (outcome : Outcome) → EndsAs outcome mid now → EndsAs outcome i now
  ends_before Done ends = drained_before ends
  ends_before Different ends = drained_before ends
  ends_before (TooLong limit) ends = drained_before ends
  ends_before outcome ends = tt

-- ---- what was left on the output

module _ (old new : ToldBytes) (keeps : Keeps old new) where
  before : (P : List ℕ → Type 0) → IfSome new P → IfSome old P
  before P holds = holds_before old new P keeps holds

  tells_before : (limits : Limits) (style : EventStyle) (end : Ending) (bits : List Bool) → TellsEvents limits style new end bits → TellsEvents limits style old end bits
  tells_before limits style end bits h = (h.0, h.1, h.2, before (λ bytes. outlook limits bytes ≡ h.0) h.3)

  answers_before : (task : Task) (outcome : Outcome) (bits : List Bool) → Answers task new outcome bits → Answers task old outcome bits
  answers_before (Check limits) Done bits h = (h.0, before (Accepts limits) h.1)
  answers_before (Normal limits left) Done bits h = (h.0, h.1, h.2, before (λ bytes. HasTree (setting_for left) limits bytes h.0) h.3)
  answers_before (Same first explain limits left) Done bits h =
      (h.0, before (λ bytes. (tree : Tree) × HasTree (setting_for left) limits (take first bytes) tree × HasTree (setting_for left) limits (drop first bytes) tree) h.1)
  answers_before (Same first Word limits left) Different bits h = (h.0, before _ h.1)
  answers_before (Same first Lines limits left) Different bits h = (h.0, h.1, before (λ bytes. DifferFirst (setting_for left) limits (take first bytes) (drop first bytes) h.0) h.2)
  answers_before (Same first Json limits left) Different bits h = (h.0, h.1, before (λ bytes. DifferFirst (setting_for left) limits (take first bytes) (drop first bytes) h.0) h.2)
  answers_before (Analyse limits format) Done bits h = (h.0, h.1, before (λ bytes. HasTally limits bytes h.0) h.2)
  answers_before (Show limits left) Done bits h = (h.0, h.1, before (λ bytes. HasTree (setting_for left) limits bytes h.0) h.2)
  answers_before (Events limits style) Done bits h = (h.0, tells_before limits style _ bits h.1)
  answers_before (Events limits style) (Refused reason bit) bits h = tells_before limits style _ bits h
  answers_before (Assemble limits) Done bits h = (h.0, h.1, h.2, before _ h.3)
  answers_before task outcome bits h = absurd h

  refuses_before : (task : Task) (outcome : Outcome) → Refuses task new outcome → Refuses task old outcome
  refuses_before (Check limits) (Refused reason bit) h = before (λ bytes. BreaksInput limits bytes (at reason bit)) h
  refuses_before (Normal limits left) (Refused reason bit) h = before (λ bytes. BreaksInput limits bytes (at reason bit)) h
  refuses_before (Normal limits left) (TooLong limit) h = (h.0, before _ h.1)
  refuses_before (Same first explain limits left) (RefusedOf First reason bit) h = before (λ bytes. BreaksInput limits (take first bytes) (at reason bit)) h
  refuses_before (Same first explain limits left) (RefusedOf Second reason bit) h = before (λ bytes. Accepts limits (take first bytes) × BreaksInput limits (drop first bytes) (at reason bit)) h
  refuses_before (Analyse limits format) (Refused reason bit) h = before (λ bytes. BreaksInput limits bytes (at reason bit)) h
  refuses_before (Show limits left) (Refused reason bit) h = before (λ bytes. BreaksInput limits bytes (at reason bit)) h
  refuses_before (Assemble limits) (RefusedLine reason line) h = before _ h
  refuses_before (Assemble limits) (TooLong limit) h = (h.0, before _ h.1)
  refuses_before task outcome h = absurd h

  writes_before : (task : Task) (outcome : Outcome) (was now : Outgoing) → WritesAnswer task new outcome was now → WritesAnswer task old outcome was now
  writes_before task outcome was now h = (h.0, answers_before task outcome h.0 h.1, h.2, h.3)

  stops_before : (task : Task) (was now : ToldBytes) → StopsShort task new was now → StopsShort task old was now
  stops_before task was now (inl stays) = inl stays
  stops_before task was now (inr h) = inr (h.0, h.1, answers_before task h.1 h.0 h.2, h.3)

  refused_before : (task : Task) (reason : Reason) (bit : ℕ) (was now : Outgoing) → LeavesRefused task new reason bit was now → LeavesRefused task old reason bit was now
  refused_before (Events limits style) reason bit was now h = writes_before (Events limits style) (Refused reason bit) was now h
  refused_before task reason bit was now h = (refuses_before task (Refused reason bit) h.0, h.1)

  unread_before : (task : Task) (was now : Outgoing) → LeavesUnread task new was now → LeavesUnread task old was now
  unread_before (Events limits style) was now h = (stops_before (Events limits style) was.bytes now.bytes h.0, h.1)
  unread_before task was now h = h

  memory_before : (task : Task) (was now : ToldBytes) → LacksMemory task new was now → LacksMemory task old was now
  memory_before (Analyse limits format) was now h = stops_before (Analyse limits format) was now h
  memory_before (Show limits left) was now h = stops_before (Show limits left) was now h
  memory_before (Events limits style) was now h = stops_before (Events limits style) was now h
  memory_before task was now h = h

  leaves_before : (task : Task) (was now : Outgoing) (outcome : Outcome) → LeavesOutput task new was now outcome → LeavesOutput task old was now outcome
  leaves_before task was now Done h = writes_before task Done was now h
  leaves_before task was now Different h = writes_before task Different was now h
  leaves_before task was now (Refused reason bit) h = refused_before task reason bit was now h
  leaves_before task was now (RefusedOf which reason bit) h = (refuses_before task (RefusedOf which reason bit) h.0, h.1)
  leaves_before task was now (RefusedLine reason line) h = (refuses_before task (RefusedLine reason line) h.0, h.1)
  leaves_before task was now (TooLong limit) h = (refuses_before task (TooLong limit) h.0, h.1)
  leaves_before task was now Usage h = h
  leaves_before task was now Read h = unread_before task was now h
  leaves_before task was now Write h = (stops_before task was.bytes now.bytes h.0, h.1)
  leaves_before task was now Memory h = (memory_before task was.bytes now.bytes h.0, h.1)

-- a command does the same with an input that was looked at as with one that was not
pub does_before : (task : Task) (i mid now : Incoming) (old new : Outgoing) (outcome : Outcome) → Looked i mid → Does task mid now old new outcome → Does task i now old new outcome
does_before task i mid now old new outcome looked does = ((pays_before i mid now looked task outcome does.0.0, ends_before i mid now looked outcome does.0.1), leaves_before i.to_come mid.to_come looked.bytes task old new outcome does.1)

-- ---- a look that failed

module _ (i now : Incoming) (none : GaveNone i now) where
  failed_once : (now.failures ≡ i.failures + 1) ⊎ ((now.failures ≡ i.failures) × IsWorn now)
  failed_once = elim (cases_lt (max i.pulls i.failures) (2 ^ 64 - 1)) [
    | inl fresh ↦ inl (none.counted fresh).1
    | inr worn ↦ let same = none.worn worn in inr (ap (λ (x : Incoming). x.failures) same, rw same worn)
  ]

  pulled_once : now.pulls ≤ i.pulls + 1
  pulled_once = elim (cases_lt (max i.pulls i.failures) (2 ^ 64 - 1)) [
    | inl fresh ↦ let once = (none.counted fresh).0 in omega (arith, once)
    | inr worn ↦ let same = ap (λ (x : Incoming). x.pulls) (none.worn worn) in omega (arith, same)
  ]

  fails_once : (most : ℕ) → 1 ≤ most → Fails i most now 0
  fails_once most some = record {
    pulls = omega (arith, pulled_once, some);
    failed = failed_once;
    tells = λ is. rw (kept i.to_come now.to_come none.bytes is) is;
    bytes = λ is.
        let same : length (known_bytes now.to_come) ≡ length (known_bytes i.to_come) = ap (λ (o : ToldBytes). length (known_bytes o)) (kept i.to_come now.to_come none.bytes is) in
        omega (arith, same);
    accounts = none.accounts;
  }

  listing_fails : (now.failures ≡ i.failures + 1) ⊎ ((now.failures ≡ i.failures) × IsWorn now) → (now.failures ≡ i.failures + 1) ⊎ IsWorn now
  listing_fails (inl once) = inl once
  listing_fails (inr worn) = inr worn.1

  pays_once : (task : Task) → Pays task Read i now
  pays_once (Assemble limits) = listing_fails failed_once
  pays_once task = fails_once (most_taken task Read) (omega arith)

  -- is a failed read, and leaves the output as it is
  pub does_none : (task : Task) (output : Outgoing) → Does task i now output output Read
  does_none task output = ((pays_once task, tt), unread task)
    where
      unread : (task : Task) → LeavesUnread task i.to_come output output
      unread (Events limits style) = (inl (Keeps-refl output.bytes), refl)
      unread task = (Keeps-refl output.bytes, refl)
