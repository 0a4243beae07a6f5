-- The contracts of commands, from their steps.
use Rattle.std.proofs.Common.{◌≡◌, ◌∙◌, ℕ, ◌+◌, Bool, List, Some, None, Result, Ok, Err, ◌<◌, ◌≤◌, [], ◌++◌, codes, refl, sym, ap, subst, inl, inr, arith}
use Rattle.std.specs.Prelude.{IfSome}
use Rattle.std.specs.Io.KnownBytes.{Consumes, IsAtEnd, Keeps}
use Rattle.std.proofs.lemmas.List.{append-nil}
use Rattle.std.proofs.KnownBytes.{Keeps-refl, Keeps-trans}
use Rattle.bit_grammar.specs.declared.reason.Reason.{Reason}
use Rattle.bit_grammar.specs.Bits.{bits_of_bytes}
use Rattle.bit_grammar.specs.Grammar.{at}
use Rattle.bit_grammar.specs.Forest.{Tree}
use Rattle.bit_grammar.specs.Blocks.{Limits}
use Rattle.bit_grammar.specs.Input.{BreaksInput, Accepts}
use Rattle.bit_grammar.specs.Normal.{HasTree, normal_form}
use Rattle.bit_grammar.specs.Size.{size_of}
use Rattle.bit_grammar.specs.Texts.{listing_of}
use Rattle.bit_grammar.specs.EventTexts.{outlook_end}
use Rattle.bit_grammar.specs.Machine.{Ending, accepted, broke}
use Rattle.bit_grammar.specs.Outlook.{Outlook, outlook}
use Rattle.bit_events.specs.Reading.{ReadsWhole}
use Rattle.bit_tree.specs.Reading.{HasFit}
use Rattle.bit_scan.specs.Analysing.{HasTally}
use Rattle.bit_scan.specs.declared.format.EventStyle.{EventStyle}
use Rattle.bit_scan.specs.declared.format.Format.{Format}
use Rattle.bit_scan.specs.Reporting.{ReadsAndReports, ReportsAs, ReportsNothing}
use Rattle.bit_scan.specs.Showing.{ListsNothing, ReadsAndLists, Shows}
use Rattle.bit_scan.specs.Styles.{report_as, styled_outlook}
use Rattle.bit_scan.specs.Telling.{IsTold, TellsInput}
use Rattle.bit_scan.specs.Written.{HasFailed, TookFront, WritesText}
use Rattle.bit_fields.specs.declared.fault.Fault.{Fault}
use Rattle.bit_fields.specs.declared.fault.Fault.TheVariants as fault
use Rattle.bit_fields.specs.Devices.{Incoming, Outgoing, Spends, Fails}
use Rattle.bit_text.specs.declared.fault.AssembleFault.{AssembleFault}
use Rattle.bit_text.specs.declared.fault.AssembleFault.TheVariants as text
use Rattle.bit_text.specs.declared.reason.TextReason.{TextReason}
use Rattle.bit_text.specs.Assembling.{Assembles, IsRead, Took, TookAll}
use Rattle.bit_text.specs.Listings.{reading_of}
use Rattle.bit_norm.specs.Entries.{difference_shown}
use Rattle.bit_norm.specs.declared.comparing.Which.TheVariants.{First, Second}
use Rattle.bit_norm.specs.Whole.{Normalises, ReadsTree}
use Rattle.bitstool.specs.declared.outcome.Outcome.{Outcome}
use Rattle.bitstool.specs.declared.outcome.Outcome.TheVariants.{Done, Different, Refused, RefusedOf, RefusedLine, TooLong, Usage, Read, Write, Memory}
use Rattle.bitstool.specs.declared.task.Explain.{Explain}
use Rattle.bitstool.specs.declared.task.LeftOut.{LeftOut}
use Rattle.bitstool.specs.declared.task.Task.{Task}
use Rattle.bitstool.specs.declared.task.Task.TheVariants.{Check, Normal, Same, Analyse, Show, Events, Assemble}
use Rattle.bitstool.specs.Performing.{ComparesParts, FindsForTask, Found, Judges, Settles, TellsDifference, TellsFound, TellsLine, outcome_of_assembling, outcome_of_writing, outcome_found, outcome_of}
use Rattle.bitstool.specs.Differences.{different_text, same_text}
use Rattle.bitstool.specs.LeftOut.{setting_for}
use Rattle.bitstool.specs.Runs.{IsDrained, ToldBytes, Answers, Refuses, StopsShort, LacksMemory, LeavesRefused, LeavesUnread, StaysOutput, TakesInput, LeavesOutput, Does, most_taken, Pays, PaysForRun, TakesListing}
use Rattle.bitstool.proofs.Known.{gained, gained_front, gains_front, gains_text, gains_part, gains_kept, front_kept, if_told}
use Rattle.bitstool.proofs.Comparing.{apart_answers, same_answers, unread_finds}
use Rattle.bitstool.proofs.Taking.{drained, fails_more, spends_more, takes_done, takes_fault, takes_long, takes_memory, takes_write}

-- an unchanged output
pub stays_same : (old new : Outgoing) → new ≡ old → StaysOutput old new
stays_same old new same = subst (λ (o : Outgoing). StaysOutput old o) (sym same) (Keeps-refl old.bytes, refl)

-- ---- out of memory

-- an unchanged output
memory_kept : (task : Task) (input old new : ToldBytes) → Keeps old new → LacksMemory task input old new
memory_kept (Check limits) input old new k = k
memory_kept (Normal limits out) input old new k = k
memory_kept (Same first explain limits out) input old new k = k
memory_kept (Analyse limits format) input old new k = inl k
memory_kept (Show limits out) input old new k = inl k
memory_kept (Events limits style) input old new k = inl k
memory_kept (Assemble limits) input old new k = k

-- it is a case of `StopsShort`
memory_stops : (task : Task) (input old new : ToldBytes) → LacksMemory task input old new → StopsShort task input old new
memory_stops (Check limits) input old new k = inl k
memory_stops (Normal limits out) input old new k = inl k
memory_stops (Same first explain limits out) input old new k = inl k
memory_stops (Analyse limits format) input old new h = h
memory_stops (Show limits out) input old new h = h
memory_stops (Events limits style) input old new h = h
memory_stops (Assemble limits) input old new k = inl k

-- it still holds if the output then keeps its bytes
stopped_then : (task : Task) (input old new last : ToldBytes) → StopsShort task input old new → Keeps new last → StopsShort task input old last
stopped_then task input old new last (inl k) keeps = inl (Keeps-trans old new last k keeps)
stopped_then task input old new last (inr d) keeps = inr (d.0, d.1, d.2, front_kept d.0 old new last d.3 keeps)

memory_then : (task : Task) (input old new last : ToldBytes) → LacksMemory task input old new → Keeps new last → LacksMemory task input old last
memory_then (Check limits) input old new last k keeps = Keeps-trans old new last k keeps
memory_then (Normal limits out) input old new last k keeps = Keeps-trans old new last k keeps
memory_then (Same first explain limits out) input old new last k keeps = Keeps-trans old new last k keeps
memory_then (Analyse limits format) input old new last h keeps = stopped_then (Analyse limits format) input old new last h keeps
memory_then (Show limits out) input old new last h keeps = stopped_then (Show limits out) input old new last h keeps
memory_then (Events limits style) input old new last h keeps = stopped_then (Events limits style) input old new last h keeps
memory_then (Assemble limits) input old new last k keeps = Keeps-trans old new last k keeps

-- ---- inputs that were not accepted

-- an unchanged output, if the input could not be read
unread_kept : (task : Task) (input : ToldBytes) (old new : Outgoing) → StaysOutput old new → LeavesUnread task input old new
unread_kept (Check limits) input old new stays = stays
unread_kept (Normal limits out) input old new stays = stays
unread_kept (Same first explain limits out) input old new stays = stays
unread_kept (Analyse limits format) input old new stays = stays
unread_kept (Show limits out) input old new stays = stays
unread_kept (Events limits style) input old new stays = (inl stays.0, stays.1)
unread_kept (Assemble limits) input old new stays = stays

-- it is a case of `StopsShort`
unread_stops : (task : Task) (input : ToldBytes) (old new : Outgoing) → LeavesUnread task input old new → StopsShort task input old.bytes new.bytes × (new.failures ≡ old.failures)
unread_stops (Check limits) input old new stays = (inl stays.0, stays.1)
unread_stops (Normal limits out) input old new stays = (inl stays.0, stays.1)
unread_stops (Same first explain limits out) input old new stays = (inl stays.0, stays.1)
unread_stops (Analyse limits format) input old new stays = (inl stays.0, stays.1)
unread_stops (Show limits out) input old new stays = (inl stays.0, stays.1)
unread_stops (Events limits style) input old new h = h
unread_stops (Assemble limits) input old new stays = (inl stays.0, stays.1)

refused_stops : (task : Task) (input : ToldBytes) (reason : Reason) (bit : ℕ) (old new : Outgoing) → LeavesRefused task input reason bit old new → StopsShort task input old.bytes new.bytes × (new.failures ≡ old.failures)
refused_stops (Check limits) input reason bit old new h = (inl h.1.0, h.1.1)
refused_stops (Normal limits out) input reason bit old new h = (inl h.1.0, h.1.1)
refused_stops (Same first explain limits out) input reason bit old new h = (inl h.1.0, h.1.1)
refused_stops (Analyse limits format) input reason bit old new h = (inl h.1.0, h.1.1)
refused_stops (Show limits out) input reason bit old new h = (inl h.1.0, h.1.1)
refused_stops (Events limits style) input reason bit old new h = (inr (h.0, Refused reason bit, h.1, gains_front h.0 old.bytes new.bytes h.2), h.3)
refused_stops (Assemble limits) input reason bit old new h = (inl h.1.0, h.1.1)

-- it still holds if the output then keeps its bytes
stays_then : (old new last : Outgoing) → StaysOutput old new → StaysOutput new last → StaysOutput old last
stays_then old new last h k = (Keeps-trans old.bytes new.bytes last.bytes h.0 k.0, k.1 ∙ h.1)

unread_then : (task : Task) (input : ToldBytes) (old new last : Outgoing) → LeavesUnread task input old new → StaysOutput new last → LeavesUnread task input old last
unread_then (Check limits) input old new last h stays = stays_then old new last h stays
unread_then (Normal limits out) input old new last h stays = stays_then old new last h stays
unread_then (Same first explain limits out) input old new last h stays = stays_then old new last h stays
unread_then (Analyse limits format) input old new last h stays = stays_then old new last h stays
unread_then (Show limits out) input old new last h stays = stays_then old new last h stays
unread_then (Events limits style) input old new last h stays = (stopped_then (Events limits style) input old.bytes new.bytes last.bytes h.0 stays.0, stays.1 ∙ h.1)
unread_then (Assemble limits) input old new last h stays = stays_then old new last h stays

refused_then : (task : Task) (input : ToldBytes) (reason : Reason) (bit : ℕ) (old new last : Outgoing) → LeavesRefused task input reason bit old new → StaysOutput new last → LeavesRefused task input reason bit old last
refused_then (Check limits) input reason bit old new last h stays = (h.0, stays_then old new last h.1 stays)
refused_then (Normal limits out) input reason bit old new last h stays = (h.0, stays_then old new last h.1 stays)
refused_then (Same first explain limits out) input reason bit old new last h stays = (h.0, stays_then old new last h.1 stays)
refused_then (Analyse limits format) input reason bit old new last h stays = (h.0, stays_then old new last h.1 stays)
refused_then (Show limits out) input reason bit old new last h stays = (h.0, stays_then old new last h.1 stays)
refused_then (Events limits style) input reason bit old new last h stays = (h.0, h.1, gains_kept h.0 old.bytes new.bytes last.bytes h.2 stays.0, stays.1 ∙ h.3)
refused_then (Assemble limits) input reason bit old new last h stays = (h.0, stays_then old new last h.1 stays)

-- ---- checking

abbrev Checks : Limits → Incoming → Result (Unit {0}) Fault → Incoming → Type 0
Checks limits = ReadsWhole (λ bytes done. Accepts limits bytes) limits

check_refuses : (limits : Limits) (i now : Incoming) (why : Fault) → Checks limits i (Err why) now → FindsForTask (Check limits) i.to_come (outcome_of limits.bytes why)
check_refuses limits i now (fault.Refused reason bit) h = if_told i.to_come (λ bytes. BreaksInput limits bytes (at reason bit)) h.1
check_refuses limits i now fault.Read h = tt
check_refuses limits i now fault.Memory h = tt
check_refuses limits i now fault.Write h = absurd h
check_refuses limits i now fault.OutputTooLong h = absurd h
check_refuses limits i now fault.Failed h = absurd h

pub refused_here : (limits : Limits) (i now : Incoming) (why : Fault) → Checks limits i (Err why) now → Judges (Check limits) i now (outcome_of limits.bytes why)
refused_here limits i now why h = (takes_fault {A = Unit {0}} (λ bytes done. Accepts limits bytes) (Check limits) limits (λ i now o p. p) i now why h, check_refuses limits i now why h)

-- ---- normal forms

-- the form of a tree is an answer for the input that has it
form_answers : (out : LeftOut) (limits : Limits) (i now : Incoming) (tree : Tree) → ReadsTree (setting_for out) limits i (Ok tree) now → size_of tree ≤ limits.bytes → Answers (Normal limits out) i.to_come Done (normal_form tree)
form_answers out limits i now tree h small = (tree, refl, small, if_told i.to_come (λ bytes. HasTree (setting_for out) limits bytes tree) (λ tells. (h.1 tells).0.0))

pub form_done : (out : LeftOut) (limits : Limits) (i now : Incoming) (old new : Outgoing) (count : ℕ) → Normalises (setting_for out) limits i old (Ok count) now new → Does (Normal limits out) i now old new Done
form_done out limits i now old new count h =
    let gain = h.2.2 in
    (takes_done (HasFit (setting_for out) limits) (Normal limits out) limits (λ i now o p. p) i now h.0 h.1, (normal_form h.0, form_answers out limits i now h.0 h.1 h.2.0, gained (normal_form h.0) old.bytes new.bytes gain.tells gain.bytes, gain.failures))

pub form_not_done : (out : LeftOut) (limits : Limits) (i now : Incoming) (old new : Outgoing) (why : Fault) → Normalises (setting_for out) limits i old (Err why) now new → Does (Normal limits out) i now old new (outcome_of limits.bytes why)
form_not_done out limits i now old new (fault.Refused reason bit) h =
    (takes_fault (HasFit (setting_for out) limits) (Normal limits out) limits (λ i now o p. p) i now (fault.Refused reason bit) h.0, (if_told i.to_come (λ bytes. BreaksInput limits bytes (at reason bit)) h.0.1, stays_same old new h.1))
form_not_done out limits i now old new fault.Read h = (takes_fault (HasFit (setting_for out) limits) (Normal limits out) limits (λ i now o p. p) i now fault.Read h.0, stays_same old new h.1)
form_not_done out limits i now old new fault.Memory h = (takes_fault (HasFit (setting_for out) limits) (Normal limits out) limits (λ i now o p. p) i now fault.Memory h.0, stays_same old new h.1)
form_not_done out limits i now old new fault.Write h =
    let gain = h.2.1 in (
      takes_write (HasFit (setting_for out) limits) (Normal limits out) limits (λ i now o p. p) i now h.0 h.1,
      (inr (normal_form h.0, Done, form_answers out limits i now h.0 h.1 h.2.0, gained_front (normal_form h.0) old.bytes new.bytes gain.tells gain.bytes), gain.why),
    )
form_not_done out limits i now old new fault.OutputTooLong h = (
  takes_long (HasFit (setting_for out) limits) (Normal limits out) limits (λ i now o p. p) i now h.0 limits.bytes h.1,
  ((refl, if_told i.to_come (λ bytes. (tree : Tree) × HasTree (setting_for out) limits bytes tree × (limits.bytes < size_of tree)) (λ tells. (h.0, (h.1.1 tells).0.0, h.2.0))), stays_same old new h.2.1),
)
form_not_done out limits i now old new fault.Failed h = absurd h

-- ---- assembling

-- a fact of a text is one of the input, if that is read to its end
whole_text : (text : List ℕ) (i now : Incoming) (P : List ℕ → Type 0) → TookAll text i now → P text → IfSome i.to_come P
whole_text text i now P all holds = go i.to_come now.to_come all.took.bytes all.end
  where
    go : (o left : ToldBytes) → Consumes o left text → IsAtEnd left → IfSome o P
    go None left takes none = tt
    go (Some bytes) None takes none = absurd takes
    go (Some bytes) (Some rest) takes none = subst P (sym (takes ∙ ap (λ (r : List ℕ). text ++ r) none ∙ append-nil text)) holds

text_drained : (text : List ℕ) (i now : Incoming) → TookAll text i now → IsDrained i now
text_drained text i now all = go i.to_come now.to_come all.took.bytes all.end
  where
    go : (o left : ToldBytes) → Consumes o left text → IsAtEnd left → IfSome o (λ bytes. left ≡ Some [])
    go None left takes none = tt
    go (Some bytes) None takes none = absurd takes
    go (Some bytes) (Some rest) takes none = ap Some none

-- what holds of all texts that begin with the part that was read holds of the input
begun_text : (text : List ℕ) (i now : Incoming) (P : List ℕ → Type 0) → Took text i now → ((rest : List ℕ) → P (text ++ rest)) → IfSome i.to_come P
begun_text text i now P took holds = go i.to_come now.to_come took.bytes
  where
    go : (o left : ToldBytes) → Consumes o left text → IfSome o P
    go None left takes = tt
    go (Some bytes) None takes = absurd takes
    go (Some bytes) (Some rest) takes = subst P (sym takes) (holds rest)

line_refused : (limits : Limits) (i now : Incoming) (answer : Result Tree (TextReason × ℕ)) → IsRead limits i answer now → IfSome i.to_come (λ text. reading_of limits text ≡ answer) × (now.failures ≡ i.failures)
line_refused limits i now answer (text, inl h) = (whole_text text i now (λ t. reading_of limits t ≡ answer) h.0 h.1, h.0.took.failures)
line_refused limits i now answer (text, inr h) = (begun_text text i now (λ t. reading_of limits t ≡ answer) h.0 h.1, h.0.failures)

pub assembled : (limits : Limits) (i now : Incoming) (old new : Outgoing) (answer : Result ℕ AssembleFault) → Assembles limits i old answer now new → Does (Assemble limits) i now old new (outcome_of_assembling limits.bytes answer)
assembled limits i now old new (Ok count) h =
    let w = h.2 in
    let gain = w.writes.2 in (
      (h.1.took.failures, text_drained h.0 i now h.1),
      (
        normal_form w.tree,
        (w.tree, refl, w.writes.0, whole_text h.0 i now (λ t. reading_of limits t ≡ Ok w.tree) h.1 w.spells),
        gained (normal_form w.tree) old.bytes new.bytes gain.tells gain.bytes,
        gain.failures,
      ),
    )
assembled limits i now old new (Err (text.Refused reason line)) h =
    let read = line_refused limits i now (Err (reason, line)) h.0 in
    ((read.1, tt), (read.0, stays_same old new h.1))
assembled limits i now old new (Err (text.Fault fault.Write)) h =
    let w = h.2 in
    let gain = w.writes.1 in (
      (inl h.1.took.failures, tt),
      (
        inr (
          normal_form w.tree,
          Done,
          (w.tree, refl, w.writes.0, whole_text h.0 i now (λ t. reading_of limits t ≡ Ok w.tree) h.1 w.spells),
          gained_front (normal_form w.tree) old.bytes new.bytes gain.tells gain.bytes,
        ),
        gain.why,
      ),
    )
assembled limits i now old new (Err (text.Fault fault.OutputTooLong)) h =
    let w = h.2 in (
      (h.1.took.failures, text_drained h.0 i now h.1),
      (
        (refl, whole_text h.0 i now (λ t. (tree : Tree) × (reading_of limits t ≡ Ok tree) × (limits.bytes < size_of tree)) h.1 (w.tree, w.spells, w.writes.0)),
        stays_same old new w.writes.1,
      ),
    )
assembled limits i now old new (Err (text.Fault fault.Read)) h = ((h.0, tt), stays_same old new h.1)
assembled limits i now old new (Err (text.Fault fault.Memory)) h = let same = stays_same old new h.1 in ((h.0, tt), (same.0, same.1))
assembled limits i now old new (Err (text.Fault fault.Failed)) h = absurd h
assembled limits i now old new (Err (text.Fault (fault.Refused reason bit))) h = absurd h

-- ---- reports and listings

-- an input that was not read
module _ {A : Type 0} (Holds : List ℕ → A → Type 0) (task : Task) (limits : Limits) (pays : (i now : Incoming) (o : Outcome) → PaysForRun o i (limits.bytes + 1) now → Pays task o i now) (i now : Incoming) (old new : Outgoing) where
  not_accepted : (why : Fault) → ((reason : Reason) (bit : ℕ) → IfSome i.to_come (λ bytes. BreaksInput limits bytes (at reason bit)) → LeavesRefused task i.to_come reason bit old new)
      → StaysOutput old new → ReadsWhole Holds limits i (Err why) now → Does task i now old new (outcome_of limits.bytes why)
  not_accepted (fault.Refused reason bit) refuses stays h =
      (takes_fault Holds task limits pays i now (fault.Refused reason bit) h, refuses reason bit (if_told i.to_come (λ bytes. BreaksInput limits bytes (at reason bit)) h.1))
  not_accepted fault.Read refuses stays h = (takes_fault Holds task limits pays i now fault.Read h, unread_kept task i.to_come old new stays)
  not_accepted fault.Memory refuses stays h = (takes_fault Holds task limits pays i now fault.Memory h, (memory_kept task i.to_come old.bytes new.bytes stays.0, stays.1))
  not_accepted fault.Write refuses stays h = absurd h
  not_accepted fault.OutputTooLong refuses stays h = absurd h
  not_accepted fault.Failed refuses stays h = absurd h

  -- the text of an answer was written, or a prefix of it
  text_written : (a : A) (text : List ℕ) (answer : Result (Unit {0}) Fault) → (StopsShort task i.to_come old.bytes new.bytes → LacksMemory task i.to_come old.bytes new.bytes)
      → Answers task i.to_come Done (bits_of_bytes text) → ReadsWhole Holds limits i (Ok a) now → WritesText text old answer new → Does task i now old new (outcome_of_writing limits.bytes answer)
  text_written a text (Ok _) stops answers h w = (takes_done Holds task limits pays i now a h, (bits_of_bytes text, answers, gains_text old.bytes new.bytes text w.bytes, w.failures))
  text_written a text (Err fault.Write) stops answers h w =
      (takes_write Holds task limits pays i now a h, (inr (bits_of_bytes text, Done, answers, gains_part old.bytes new.bytes text w.0.front w.0.rest w.0.split w.0.bytes), w.1))
  text_written a text (Err fault.Memory) stops answers h w =
      (takes_memory Holds task limits pays i now a h, (stops (inr (bits_of_bytes text, Done, answers, gains_part old.bytes new.bytes text w.0.front w.0.rest w.0.split w.0.bytes)), w.1))
  text_written a text (Err (fault.Refused reason bit)) stops answers h w = absurd w
  text_written a text (Err fault.Read) stops answers h w = absurd w
  text_written a text (Err fault.OutputTooLong) stops answers h w = absurd w
  text_written a text (Err fault.Failed) stops answers h w = absurd w

-- the input was analysed
reported : (format : Format) (limits : Limits) (i now : Incoming) (old new : Outgoing) (answer : Result (Unit {0}) Fault) → ReadsAndReports format limits i old answer now new → Does (Analyse limits format) i now old new (outcome_of_writing limits.bytes answer)
reported format limits i now old new answer h =
    text_written (HasTally limits) (Analyse limits format) limits (λ i now o p. p) i now old new h.0 (report_as format h.0) answer (λ s. s) (h.0, refl, if_told i.to_come (λ bytes. HasTally limits bytes h.0) (λ tells. (h.1.1 tells).0)) h.1 h.2

-- it was not analysed
not_reported : (format : Format) (limits : Limits) (i now : Incoming) (old new : Outgoing) (why : Fault) → ReportsNothing limits i old why now new → Does (Analyse limits format) i now old new (outcome_of limits.bytes why)
not_reported format limits i now old new why h = not_accepted (HasTally limits) (Analyse limits format) limits (λ i now o p. p) i now old new why (λ reason bit breaks. (breaks, stays_same old new h.1)) (stays_same old new h.1) h.0

pub told_report : (format : Format) (limits : Limits) (i now : Incoming) (old new : Outgoing) (answer : Result (Unit {0}) Fault) → ReportsAs format limits i old answer now new → Does (Analyse limits format) i now old new (outcome_of_writing limits.bytes answer)
told_report format limits i now old new (Ok _) h = reported format limits i now old new (Ok tt) h
told_report format limits i now old new (Err fault.Write) h = reported format limits i now old new (Err fault.Write) h
told_report format limits i now old new (Err fault.Memory) (inl h) = not_reported format limits i now old new fault.Memory h
told_report format limits i now old new (Err fault.Memory) (inr h) = reported format limits i now old new (Err fault.Memory) h
told_report format limits i now old new (Err (fault.Refused reason bit)) h = not_reported format limits i now old new (fault.Refused reason bit) h
told_report format limits i now old new (Err fault.Read) h = not_reported format limits i now old new fault.Read h
told_report format limits i now old new (Err fault.OutputTooLong) h = absurd h
told_report format limits i now old new (Err fault.Failed) h = absurd h

-- the tree was read
listed : (out : LeftOut) (limits : Limits) (i now : Incoming) (old new : Outgoing) (answer : Result (Unit {0}) Fault) → ReadsAndLists (setting_for out) limits i old answer now new → Does (Show limits out) i now old new (outcome_of_writing limits.bytes answer)
listed out limits i now old new answer h =
    text_written (HasFit (setting_for out) limits) (Show limits out) limits (λ i now o p. p) i now old new h.0 (listing_of h.0) answer (λ s. s) (h.0, refl, if_told i.to_come (λ bytes. HasTree (setting_for out) limits bytes h.0) (λ tells. (h.1.1 tells).0.0)) h.1 h.2

-- it was not read
not_listed : (out : LeftOut) (limits : Limits) (i now : Incoming) (old new : Outgoing) (why : Fault) → ListsNothing (setting_for out) limits i old why now new → Does (Show limits out) i now old new (outcome_of limits.bytes why)
not_listed out limits i now old new why h = not_accepted (HasFit (setting_for out) limits) (Show limits out) limits (λ i now o p. p) i now old new why (λ reason bit breaks. (breaks, stays_same old new h.1)) (stays_same old new h.1) h.0

pub showed : (out : LeftOut) (limits : Limits) (i now : Incoming) (old new : Outgoing) (answer : Result (Unit {0}) Fault) → Shows (setting_for out) limits i old answer now new → Does (Show limits out) i now old new (outcome_of_writing limits.bytes answer)
showed out limits i now old new (Ok _) h = listed out limits i now old new (Ok tt) h
showed out limits i now old new (Err fault.Write) h = listed out limits i now old new (Err fault.Write) h
showed out limits i now old new (Err fault.Memory) (inl h) = not_listed out limits i now old new fault.Memory h
showed out limits i now old new (Err fault.Memory) (inr h) = listed out limits i now old new (Err fault.Memory) h
showed out limits i now old new (Err (fault.Refused reason bit)) h = not_listed out limits i now old new (fault.Refused reason bit) h
showed out limits i now old new (Err fault.Read) h = not_listed out limits i now old new fault.Read h
showed out limits i now old new (Err fault.OutputTooLong) h = absurd h
showed out limits i now old new (Err fault.Failed) h = absurd h

-- ---- events

-- the outlook of an input gives an answer for it
told_answers : (limits : Limits) (style : EventStyle) (i : Incoming) (told : Outlook) → IsTold limits i told → (answer : Outcome) × Answers (Events limits style) i.to_come answer (bits_of_bytes (styled_outlook style told))
told_answers limits style i told is_told = go (outlook_end told) refl
  where
    known : IfSome i.to_come (λ bytes. outlook limits bytes ≡ told)
    known = if_told i.to_come (λ bytes. outlook limits bytes ≡ told) is_told

    go : (end : Ending) → outlook_end told ≡ end → (answer : Outcome) × Answers (Events limits style) i.to_come answer (bits_of_bytes (styled_outlook style told))
    go (accepted bit) is = (Done, (bit, (told, is, refl, known)))
    go (broke fault) is = (Refused fault.reason fault.bit, (told, is, refl, known))

-- a prefix of their lines
events_stop : (limits : Limits) (style : EventStyle) (i : Incoming) (old new : Outgoing) (told : Outlook) → IsTold limits i told → TookFront (styled_outlook style told) old new → StopsShort (Events limits style) i.to_come old.bytes new.bytes
events_stop limits style i old new told is_told w =
    let answers = told_answers limits style i told is_told in
    inr (bits_of_bytes (styled_outlook style told), answers.0, answers.1, gains_part old.bytes new.bytes (styled_outlook style told) w.front w.rest w.split w.bytes)

pub told_events : (limits : Limits) (style : EventStyle) (i now : Incoming) (old new : Outgoing) (answer : Result (Unit {0}) Fault) → TellsInput style limits i old answer now new → Does (Events limits style) i now old new (outcome_of_writing limits.bytes answer)
told_events limits style i now old new (Ok _) h =
    let known = if_told i.to_come (λ bytes. outlook limits bytes ≡ h.1) h.2 in
    let text = styled_outlook style h.1 in (
      (h.0, drained i now h.0.tells h.3.2),
      (bits_of_bytes text, (h.3.1.0, (h.1, h.3.1.1, refl, known)), gains_text old.bytes new.bytes text h.3.0.bytes, h.3.0.failures),
    )
told_events limits style i now old new (Err (fault.Refused reason bit)) h =
    let known = if_told i.to_come (λ bytes. outlook limits bytes ≡ h.1) h.2 in
    let text = styled_outlook style h.1 in
    ((h.0, tt), (bits_of_bytes text, (h.1, h.3.1, refl, known), gains_text old.bytes new.bytes text h.3.0.bytes, h.3.0.failures))
told_events limits style i now old new (Err fault.Read) h = ((h.0, tt), (events_stop limits style i old new h.1 h.2 h.3.0, h.3.1))
told_events limits style i now old new (Err fault.Write) h = ((h.0, tt), (events_stop limits style i old new h.1 h.2 h.3.0, h.3.1))
told_events limits style i now old new (Err fault.Memory) h = ((h.0, tt), (events_stop limits style i old new h.1 h.2 h.3.0, h.3.1))
told_events limits style i now old new (Err fault.OutputTooLong) h = absurd h.3
told_events limits style i now old new (Err fault.Failed) h = absurd h.3

-- ---- what a command takes

-- the most is taken if the output fails
most_write : (first : ℕ) (explain : Explain) (limits : Limits) (out : LeftOut) (o : Outcome) → most_taken (Same first explain limits out) o ≤ most_taken (Same first explain limits out) Write
most_write first explain limits out (RefusedOf First reason bit) = omega arith
most_write first explain limits out (RefusedOf Second reason bit) = omega arith
most_write first explain limits out Done = omega arith
most_write first explain limits out Different = omega arith
most_write first explain limits out (Refused reason bit) = omega arith
most_write first explain limits out (RefusedLine reason line) = omega arith
most_write first explain limits out (TooLong limit) = omega arith
most_write first explain limits out Usage = omega arith
most_write first explain limits out Read = omega arith
most_write first explain limits out Write = omega arith
most_write first explain limits out Memory = omega arith

paid_more : (i now : Incoming) (a b : ℕ) (o : Outcome) → a ≤ b → PaysForRun o i a now → PaysForRun Write i b now
paid_more i now a b Done le p = inl (spends_more i now a b le p)
paid_more i now a b Different le p = inl (spends_more i now a b le p)
paid_more i now a b (Refused reason bit) le p = inl (spends_more i now a b le p)
paid_more i now a b (RefusedOf which reason bit) le p = inl (spends_more i now a b le p)
paid_more i now a b (RefusedLine reason line) le p = inl (spends_more i now a b le p)
paid_more i now a b (TooLong limit) le p = inl (spends_more i now a b le p)
paid_more i now a b Usage le p = inl (spends_more i now a b le p)
paid_more i now a b Read le p = inr (fails_more i now a b le p)
paid_more i now a b Write le p = elim p [ inl spends ↦ inl (spends_more i now a b le spends) | inr fails ↦ inr (fails_more i now a b le fails) ]
paid_more i now a b Memory le p = elim p [ inl spends ↦ inl (spends_more i now a b le spends) | inr fails ↦ inr (fails_more i now a b le fails) ]

listing_write : (i now : Incoming) (o : Outcome) → TakesListing o i now → TakesListing Write i now
listing_write i now Done p = inl p
listing_write i now Different p = inl p
listing_write i now (Refused reason bit) p = inl p
listing_write i now (RefusedOf which reason bit) p = inl p
listing_write i now (RefusedLine reason line) p = inl p
listing_write i now (TooLong limit) p = inl p
listing_write i now Usage p = inl p
listing_write i now Read p = inr p
listing_write i now Write p = p
listing_write i now Memory p = inl p

-- what was taken is what is taken if the output then fails
pays_write : (task : Task) (i now : Incoming) (o : Outcome) → Pays task o i now → Pays task Write i now
pays_write (Check limits) i now o p = paid_more i now (limits.bytes + 1) (limits.bytes + 1) o (omega arith) p
pays_write (Normal limits out) i now o p = paid_more i now (limits.bytes + 1) (limits.bytes + 1) o (omega arith) p
pays_write (Same first explain limits out) i now o p =
    paid_more i now (most_taken (Same first explain limits out) o) (most_taken (Same first explain limits out) Write) o (most_write first explain limits out o) p
pays_write (Analyse limits format) i now o p = paid_more i now (limits.bytes + 1) (limits.bytes + 1) o (omega arith) p
pays_write (Show limits out) i now o p = paid_more i now (limits.bytes + 1) (limits.bytes + 1) o (omega arith) p
pays_write (Events limits style) i now o p = paid_more i now (limits.bytes + 1) (limits.bytes + 1) o (omega arith) p
pays_write (Assemble limits) i now o p = listing_write i now o p

-- ---- lines

-- a line was written for a drained input
pub done_told : (task : Task) (i now : Incoming) (old new : Outgoing) (line : List ℕ) (after : Outcome) → TakesInput task i now Done
    → Answers task i.to_come Done (bits_of_bytes line) → TellsLine Done line old after new → Does task i now old new after
done_told task i now old new line after takes answers (inl h) = rw (h.0) (takes, (bits_of_bytes line, answers, gains_text old.bytes new.bytes line h.1.bytes, h.1.failures))
done_told task i now old new line after takes answers (inr h) =
    rw (h.0) ((pays_write task i now Done takes.0, tt), (inr (bits_of_bytes line, Done, answers, gains_part old.bytes new.bytes line h.1.front h.1.rest h.1.split h.1.bytes), h.2))

pub different_told : (task : Task) (i now : Incoming) (old new : Outgoing) (line : List ℕ) (after : Outcome) → TakesInput task i now Different
    → Answers task i.to_come Different (bits_of_bytes line) → TellsLine Different line old after new → Does task i now old new after
different_told task i now old new line after takes answers (inl h) = rw (h.0) (takes, (bits_of_bytes line, answers, gains_text old.bytes new.bytes line h.1.bytes, h.1.failures))
different_told task i now old new line after takes answers (inr h) =
    rw (h.0) ((pays_write task i now Different takes.0, tt), (inr (bits_of_bytes line, Different, answers, gains_part old.bytes new.bytes line h.1.front h.1.rest h.1.split h.1.bytes), h.2))

-- an outcome that is no answer writes no line
pub no_line : (task : Task) (i now : Incoming) (old new : Outgoing) (outcome : Outcome) → (outcome ≡ Done → ⊥) → (outcome ≡ Different → ⊥) → StaysOutput old new
    → ((reason : Reason) (bit : ℕ) → Refuses task i.to_come (Refused reason bit) → LeavesRefused task i.to_come reason bit old new) → Judges task i now outcome → Does task i now old new outcome
no_line task i now old new outcome not_done not_different stays refuses judged = (judged.0, go outcome not_done not_different judged.1)
  where
    go : (o : Outcome) → (o ≡ Done → ⊥) → (o ≡ Different → ⊥) → FindsForTask task i.to_come o → LeavesOutput task i.to_come old new o
    go Done not_done not_different found = absurd (not_done refl)
    go Different not_done not_different found = absurd (not_different refl)
    go (Refused reason bit) not_done not_different found = refuses reason bit found
    go (RefusedOf which reason bit) not_done not_different found = (found, stays)
    go (RefusedLine reason line) not_done not_different found = (found, stays)
    go (TooLong limit) not_done not_different found = (found, stays)
    go Usage not_done not_different found = found
    go Read not_done not_different found = unread_kept task i.to_come old new stays
    go Write not_done not_different found = absurd found
    go Memory not_done not_different found = (memory_kept task i.to_come old.bytes new.bytes stays.0, stays.1)

-- the result for two inputs was reported
module _ (out : LeftOut) (limits : Limits) (first : ℕ) (explain : Explain) (i now : Incoming) (old new : Outgoing) (after : Outcome) where
  difference_told : (text : List ℕ) → TakesInput (Same first explain limits out) i now Different → Answers (Same first explain limits out) i.to_come Different (bits_of_bytes text) → TellsDifference text old after new → Does (Same first explain limits out) i now old new after
  difference_told text takes answers (inl told) = different_told (Same first explain limits out) i now old new text after takes answers told
  difference_told text takes answers (inr none) = rw (none.0) ((inl takes.0, tt), stays_same old new none.1)

  pub told_same : (found : Found) → TakesInput (Same first explain limits out) i now (outcome_found found) → ComparesParts (setting_for out) limits first i.to_come found → TellsFound explain found old after new
      → Does (Same first explain limits out) i now old new after
  told_same (Ok None) takes compares tells = done_told (Same first explain limits out) i now old new (same_text explain) after takes (same_answers out limits first explain i.to_come compares) tells
  told_same (Ok (Some difference)) takes compares tells = difference_told (different_text explain (difference_shown difference)) takes (apart_answers out limits first explain i.to_come difference compares) tells
  told_same (Err outcome) takes compares tells =
      let never : (other : Outcome) → ComparesParts (setting_for out) limits first i.to_come (Err outcome) → outcome ≡ other → ComparesParts (setting_for out) limits first i.to_come (Err other) = λ other h is. subst (λ (o : Outcome). ComparesParts (setting_for out) limits first i.to_come (Err o)) is h in
      rw (tells.0) (no_line (Same first explain limits out) i now old new outcome (λ is. never Done compares is) (λ is. never Different compares is) (stays_same old new tells.1) (λ reason bit refuses. (refuses, stays_same old new tells.1)) (takes, unread_finds out limits first explain i.to_come outcome compares))

-- a check never finds two inputs different
pub never_different : (limits : Limits) (i now : Incoming) (outcome : Outcome) → Judges (Check limits) i now outcome → outcome ≡ Different → ⊥
never_different limits i now outcome judged is = let it : FindsForTask (Check limits) i.to_come Different = subst (λ (o : Outcome). FindsForTask (Check limits) i.to_come o) is judged.1 in absurd it.1

-- ---- flushing

-- an output that failed before or after
failed_then : (old new last : Outgoing) → new.failures ≡ old.failures → HasFailed new last → HasFailed old last
failed_then old new last same (inl rose) = inl (omega (arith, same, rose))
failed_then old new last same (inr spent) = inr (omega (arith, same, spent))

failed_still : (old new last : Outgoing) → HasFailed old new → new.failures ≤ last.failures → HasFailed old last
failed_still old new last (inl rose) more = inl (omega (arith, rose, more))
failed_still old new last (inr spent) more = inr spent

-- a finished command stays finished if the output keeps its bytes, or the output failed
pub settled : (task : Task) (i now : Incoming) (old new last : Outgoing) (outcome after : Outcome) → Does task i now old new outcome → Settles outcome new after last → Does task i now old last after
settled task i now old new last outcome after does (inl same) = rw (same.0) (does.0, kept outcome does.1)
  where
    stays : StaysOutput new last
    stays = same.1

    kept : (o : Outcome) → LeavesOutput task i.to_come old new o → LeavesOutput task i.to_come old last o
    kept Done d = (d.0, d.1, gains_kept d.0 old.bytes new.bytes last.bytes d.2 stays.0, stays.1 ∙ d.3)
    kept Different d = (d.0, d.1, gains_kept d.0 old.bytes new.bytes last.bytes d.2 stays.0, stays.1 ∙ d.3)
    kept (Refused reason bit) d = refused_then task i.to_come reason bit old new last d stays
    kept (RefusedOf which reason bit) d = (d.0, stays_then old new last d.1 stays)
    kept (RefusedLine reason line) d = (d.0, stays_then old new last d.1 stays)
    kept (TooLong limit) d = (d.0, stays_then old new last d.1 stays)
    kept Usage d = d
    kept Read d = unread_then task i.to_come old new last d stays
    kept Memory d = (memory_then task i.to_come old.bytes new.bytes last.bytes d.0 stays.0, stays.1 ∙ d.1)
    kept Write d = (stopped_then task i.to_come old.bytes new.bytes last.bytes d.0 stays.0, failed_still old new last d.1 (omega (arith, stays.1)))
settled task i now old new last outcome after does (inr failed) =
    rw (failed.0) ((pays_write task i now outcome does.0.0, tt), lost outcome does.1)
  where
    keeps : Keeps new.bytes last.bytes
    keeps = failed.1

    short : StopsShort task i.to_come old.bytes new.bytes × (new.failures ≡ old.failures) → LeavesOutput task i.to_come old last Write
    short h = (stopped_then task i.to_come old.bytes new.bytes last.bytes h.0 keeps, failed_then old new last h.1 failed.3)

    lost : (o : Outcome) → LeavesOutput task i.to_come old new o → LeavesOutput task i.to_come old last Write
    lost Done d = (inr (d.0, Done, d.1, gains_front d.0 old.bytes last.bytes (gains_kept d.0 old.bytes new.bytes last.bytes d.2 keeps)), failed_then old new last d.3 failed.3)
    lost Different d = (inr (d.0, Different, d.1, gains_front d.0 old.bytes last.bytes (gains_kept d.0 old.bytes new.bytes last.bytes d.2 keeps)), failed_then old new last d.3 failed.3)
    lost (Refused reason bit) d = short (refused_stops task i.to_come reason bit old new d)
    lost (RefusedOf which reason bit) d = (inl (Keeps-trans old.bytes new.bytes last.bytes d.1.0 keeps), failed_then old new last d.1.1 failed.3)
    lost (RefusedLine reason line) d = (inl (Keeps-trans old.bytes new.bytes last.bytes d.1.0 keeps), failed_then old new last d.1.1 failed.3)
    lost (TooLong limit) d = (inl (Keeps-trans old.bytes new.bytes last.bytes d.1.0 keeps), failed_then old new last d.1.1 failed.3)
    lost Usage d = absurd d
    lost Read d = short (unread_stops task i.to_come old new d)
    lost Memory d = (stopped_then task i.to_come old.bytes new.bytes last.bytes (memory_stops task i.to_come old.bytes new.bytes d.0) keeps, failed_then old new last d.1 failed.3)
    lost Write d = (stopped_then task i.to_come old.bytes new.bytes last.bytes d.0 keeps, failed_still old new last d.1 failed.2)
