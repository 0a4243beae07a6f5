-- Events of a slice that are passed over.
use Rattle.std.proofs.Common.{◌≡◌, ℕ, zero, suc, ◌+◌, ◌-◌, ◌<◌, ◌≤◌, Bool, true, false, not, is_some, List, [], ◌∷◌, ◌++◌, length, map, Option, Some, None, Ok, refl, sym, ap, subst, ◌∙◌, arith, append_assoc, length-append, vec_len}
use Rattle.std.proofs.lemmas.List.{append-nil, append_cancel_left, drop-append-le}
use Rattle.bit_grammar.specs.Blocks.{Limits}
use Rattle.bit_grammar.specs.Machine as machine
use Rattle.bit_grammar.specs.Machine.{Event, enters, notes, Told}
use Rattle.bit_grammar.specs.Marks.{RecordMark}
use Rattle.bit_grammar.specs.Steps.{open_after}
use Rattle.bit_fields.specs.declared.head.Head.{Head}
use Rattle.bit_fields.specs.Buffered.{BufferedBits, Sees, beyond, reader_further}
use Rattle.bit_fields.specs.Reader.{Reader}
use Rattle.bit_fields.proofs.InflowLaws.{Spends-refl, Spends-trans}
use Rattle.bit_events.specs.declared.frame.Frame.{Frame}
use Rattle.bit_events.specs.declared.machine.Machine.{Machine}
use Rattle.bit_events.specs.declared.machine.Step.{Step}
use Rattle.bit_events.specs.Coming.{Coming, EndsEvents, GivesEvent, Goes, PassesEvents, PassesNext}
use Rattle.bit_events.specs.Events.{coming_of, stage_of}
use Rattle.bit_events.specs.Folding.{GathersSome}
use Rattle.bit_events.specs.FrameView.{frame_shown, frames_shown}
use Rattle.bit_events.specs.Gathering.{left_open, open_behind}
use Rattle.bit_events.specs.Next.{left_to_tell}
use Rattle.bit_events.specs.declared.passing.PassedRun.{PassedRun}
use Rattle.bit_events.specs.Passing.{collected, PassesRecords}
use Rattle.bit_events.specs.Runs.{GathersRun}
use Rattle.bit_events.specs.SliceEvents.{reader_seen, SeesEvents}
use Rattle.bit_events.proofs.Blocks.{none_some}
use Rattle.bit_events.proofs.Counting.{later_bits}
use Rattle.bit_events.proofs.Folds.{open_behind-push}
use Rattle.bit_events.proofs.Runs.{advanced_both}
use Rattle.bit_events.proofs.Stepping.{length-frames}

-- ---- any events

open_behind-append : (xs ys : List Event) (n : ℕ) → open_behind (xs ++ ys) n ≡ open_behind ys (open_behind xs n)
open_behind-append [] ys n = refl
open_behind-append (x ∷ xs) ys n = open_behind-append xs ys (open_after x n)

-- some, and then others
pub passes_then : (n m k : ℕ) (a b c : Coming) → n + m ≡ k → PassesEvents n a b → PassesEvents m b c → PassesEvents k a c
passes_then n m k a b c all p q = record {
  events = p.events ++ q.events;
  many = omega (arith, length-append p.events q.events, p.many, q.many, all);
  pays = Spends-trans a.incoming a.budget b.incoming b.budget c.incoming c.budget p.pays q.pays;
  head = q.head ∙ p.head;
  depth = q.depth ∙ ap (open_behind q.events) p.depth ∙ sym (open_behind-append p.events q.events a.depth);
  told = λ tells. p.told tells ∙ ap (λ (t : Told). (p.events ++ t.0, t.1)) (q.told (p.pays.tells tells)) ∙ ap (λ (es : List Event). (es, c.told.1)) (sym (append_assoc p.events q.events c.told.0));
}

-- one, whatever its values
pub passes_given : (old : Coming) (event : Event) (list : List ℕ) (new : Coming) → GivesEvent old event (record new { held = list }) → PassesEvents 1 old new
passes_given old event list new given = record { events = event ∷ []; many = refl; pays = given.pays; head = given.head; depth = given.depth; told = given.told }

passes_end : (old new : Coming) → EndsEvents old new → PassesEvents 0 old new
passes_end old new end = record { events = []; many = refl; pays = end.pays; head = end.head; depth = end.none_open ∙ sym end.depth; told = λ tells. (end.told tells).0 ∙ sym (end.told tells).1 }

-- the next one was found, or there was none
pub passes_found : (old new : Coming) (is_over live : Bool) (last : Option Event) → new.stage ≡ stage_of is_over live → Goes old (Ok last) new → PassesNext old (Ok (not is_over)) new
passes_found old new true live (Some event) stage goes = (let e = sym stage ∙ goes.goes in absurd cc)
passes_found old new true live None stage goes = (passes_end old new goes, goes.ends)
passes_found old new false live (Some event) stage goes = (passes_given old event new.held new goes, goes.goes)
passes_found old new false true None stage goes = (let e = sym stage ∙ goes.ends in absurd cc)
passes_found old new false false None stage goes = (let e = sym stage ∙ goes.ends in absurd cc)

pub passed_one : (old new : Coming) (was_one : Bool) → was_one ≡ true → PassesNext old (Ok was_one) new → PassesEvents 1 old new
passed_one old new true is passes = passes.0
passed_one old new false is passes = absurd cc

pub passed_none : (old new : Coming) (was_one : Bool) → was_one ≡ false → PassesNext old (Ok was_one) new → PassesEvents 0 old new
passed_none old new false is passes = passes.0
passed_none old new true is passes = absurd cc

-- ---- records of the innermost block

-- records leave as many blocks open
notes_level : (records : List RecordMark) (n : ℕ) → open_behind (map notes records) n ≡ n
notes_level [] n = refl
notes_level (mark ∷ records) n = notes_level records n

length-notes : (records : List RecordMark) → length (map notes records) ≡ length records
length-notes [] = refl
length-notes (mark ∷ records) = ap suc (length-notes records)

-- events that leave so many blocks open
some_open : (n : ℕ) → (done : List Event) × (left_open done ≡ n)
some_open zero = ([], refl)
some_open (suc n) =
    let event : Event = enters (record { id = 0; width = 0; first = 0; body = 0 }) in
    let less = some_open n in
    (less.0 ++ event ∷ [], open_behind-push less.0 event 0 ∙ ap suc less.1)

-- what was collected was read
are_collected : (limits : Limits) (m n : Machine) (a b : Reader) (events : List Event) (some : GathersSome collected limits m a [] n b events) → some.events ≡ events
are_collected limits m n a b events some =
    let before = some_open (vec_len m.frames) in
    append_cancel_left before.0 some.events events (some.gathers before.0 before.0 (sym (append-nil before.0)) before.1).0

-- A run of records in the bits `from`, which had been read up to a bit.
pub run_given : (limits : Limits) (f : Frame) (used : ℕ) (from bits : BufferedBits) (width room first : ℕ) (records : List RecordMark) (run : PassedRun) → width ≡ f.head.width → is_some f.info ≡ false → limits.values - used ≡ room → bits ≡ beyond from (first - from.position) → PassesRecords width f.definitions.all room bits records run
    → GathersRun collected limits f used (beyond from (first - from.position)) [] (used + (room - run.room)) run.after (map notes records)
run_given limits f used from bits width room first records run wide plain left here passes = rw (← here) (passes.passes limits f used (sym wide) (none_some f.info plain) refl left)

-- where it ends
pub run_there : (limits : Limits) (f : Frame) (used : ℕ) (first : ℕ) (from : BufferedBits) (now_used after : ℕ) (events : List Event) → from.position ≤ first → first - from.position ≤ length from.bits → GathersRun collected limits f used (beyond from (first - from.position)) [] now_used after events
    → (first ≤ after) × (after - from.position ≤ length from.bits)
run_there limits f used first from now_used after events least there run =
    let later = later_bits from (first - from.position) run.0 there run.2.passed in
    (omega (arith, later.0, run.1, least), omega (arith, later.1, run.1))

-- a reader that goes further sees the bits beyond
sees_beyond : (r : Reader) (from : BufferedBits) (n m : ℕ) → n ≡ m → m ≤ length from.bits → Sees r from → Sees (reader_further r n) (beyond from m)
sees_beyond r from n m same there sees = record {
  live = sees.live;
  position = omega (arith, sees.position, same);
  front = λ tells. (let front = sees.front tells in (front.0, rw (same, front.1) (drop-append-le m from.bits front.0 there)));
}

-- the reader after it
run_read : {is_over : Bool} {found : Option Step} (limits : Limits) (m : Machine) (f : Frame) (outer : List machine.Frame) (r : Reader) (a from : BufferedBits) (now_used after : ℕ) (events : List Event) → r.live ≡ true → frames_shown m.frames.items ≡ frame_shown f ∷ outer → SeesEvents is_over limits m found r a → Sees r from → a.position - from.position ≤ length from.bits
    → GathersRun collected limits f m.used (beyond from (a.position - from.position)) [] now_used after events
    → GathersSome collected limits m (reader_seen r a) [] (record m { used = now_used }) (reader_seen r (beyond from (after - from.position))) events
    × Sees (reader_seen r (beyond from (after - from.position))) (beyond from (after - from.position))
run_read limits m f outer r a from now_used after events live split seen sees there run =
    let b = run.0 in
    let k : ℕ = a.position - from.position in
    let later = later_bits from k b there run.2.passed in
    let here : b ≡ beyond from (after - from.position) = later.2 ∙ ap (λ (p : ℕ). beyond from (p - from.position)) run.1 in
    let same : a.position - r.position ≡ k = omega (arith, sees.position) in
    let further : reader_further (reader_seen r a) (b.position - (from.position + k)) ≡ reader_seen r b = advanced_both r (a.position - r.position) (b.position - (from.position + k)) (b.position - r.position) (omega (arith, later.0, sees.position, seen.behind live)) in
    let read = run.2.gathers m outer (reader_seen r a) split refl (sees_beyond r from (a.position - r.position) k same there sees) in
    subst (λ (x : BufferedBits). GathersSome collected limits m (reader_seen r a) [] (record m { used = now_used }) (reader_seen r x) events × Sees (reader_seen r x) x) here
    (subst (λ (x : Reader). GathersSome collected limits m (reader_seen r a) [] (record m { used = now_used }) x events × Sees x b) further read)

-- the invariant after it
pub run_seen : {is_over : Bool} {found : Option Step} (limits : Limits) (m : Machine) (f : Frame) (outer : List machine.Frame) (r : Reader) (a from : BufferedBits) (now_used after : ℕ) (events : List Event) → r.live ≡ true → frames_shown m.frames.items ≡ frame_shown f ∷ outer → SeesEvents is_over limits m found r a → Sees r from → a.position - from.position ≤ length from.bits
    → GathersRun collected limits f m.used (beyond from (a.position - from.position)) [] now_used after events
    → SeesEvents is_over limits (record m { used = now_used }) None r (beyond from (after - from.position))
run_seen limits m f outer r a from now_used after events live split seen sees there run =
    let some : 0 < vec_len m.frames = omega (arith, m.frames.ok.0, length-frames m.frames.items, ap length split) in
    let end = run_there limits f m.used a.position from now_used after events (omega (arith, sees.position, seen.behind live)) there run in
    record {
      depth = seen.depth;
      behind = λ _. omega (arith, sees.position);
      there = λ _ tells. (let front = sees.front tells in omega (arith, sees.position, end.1, ap length front.1, length-append from.bits front.0));
      sees = λ _. (run_read limits m f outer r a from now_used after events live split seen sees there run).1;
      aligned = λ _ _ none. absurd (omega (arith, some, none));
      closed = λ is. absurd (omega (arith, some, (seen.closed is).frames));
    }

-- the records were passed over
pub run_passes : {found : Option Step} (is_over : Bool) (limits : Limits) (head : Head) (m : Machine) (f : Frame) (outer : List machine.Frame) (vs ws : List ℕ) (now_found : Option Step) (r : Reader) (a from : BufferedBits) (now_used after : ℕ) (records : List RecordMark) (count : ℕ) → count ≡ length records → r.live ≡ true → frames_shown m.frames.items ≡ frame_shown f ∷ outer → SeesEvents is_over limits m found r a → Sees r from
    → a.position - from.position ≤ length from.bits → GathersRun collected limits f m.used (beyond from (a.position - from.position)) [] now_used after (map notes records)
    → PassesEvents count (coming_of is_over limits head m vs found a.position (reader_seen r a)) (coming_of is_over limits head (record m { used = now_used }) ws now_found (beyond from (after - from.position)).position (reader_seen r (beyond from (after - from.position))))
run_passes {found} is_over limits head m f outer vs ws now_found r a from now_used after records count many live split seen sees there run = go is_over refl
  where
    c : BufferedBits
    c = beyond from (after - from.position)

    read : GathersSome collected limits m (reader_seen r a) [] (record m { used = now_used }) (reader_seen r c) (map notes records)
    read = (run_read limits m f outer r a from now_used after (map notes records) live split seen sees there run).0

    some : 0 < vec_len m.frames
    some = omega (arith, m.frames.ok.0, length-frames m.frames.items, ap length split)

    go : (o : Bool) → is_over ≡ o → PassesEvents count (coming_of o limits head m vs found a.position (reader_seen r a)) (coming_of o limits head (record m { used = now_used }) ws now_found c.position (reader_seen r c))
    go true is = absurd (omega (arith, some, (seen.closed is).frames))
    go false is = record {
      events = map notes records;
      many = length-notes records ∙ sym many;
      pays = Spends-refl r.incoming r.budget;
      head = refl;
      depth = sym (notes_level records (vec_len m.frames));
      told = λ tells. subst (λ (es : List Event). left_to_tell limits m (reader_seen r a) ≡ (es ++ (left_to_tell limits (record m { used = now_used }) (reader_seen r c)).0, (left_to_tell limits (record m { used = now_used }) (reader_seen r c)).1)) (are_collected limits m (record m { used = now_used }) (reader_seen r a) (reader_seen r c) (map notes records) read) (read.told tells);
    }
