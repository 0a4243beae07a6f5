-- Events of a slice: records that are read in place, and a reader that then catches up.
use Rattle.std.proofs.Common.{◌≡◌, ℕ, ◌+◌, ◌-◌, ◌^◌, ◌<◌, ◌≤◌, min, Bool, true, false, List, [], ◌∷◌, ◌++◌, length, drop, Option, Some, None, Result, Ok, Err, refl, sym, ap, subst, ◌∙◌, arith, length-append, length-drop, vec_len}
use Rattle.bit_grammar.specs.Grammar as grammar
use Rattle.bit_grammar.specs.Grammar.{reading}
use Rattle.bit_grammar.specs.Input.{any_bits}
use Rattle.bit_grammar.specs.Blocks.{Limits}
use Rattle.bit_grammar.specs.Machine.{Event, accepted, step}
use Rattle.bit_fields.specs.declared.fault.Fault.{Fault}
use Rattle.bit_fields.specs.declared.fault.Fault.TheVariants.{Refused, Read, Write, Memory, OutputTooLong, Failed}
use Rattle.bit_fields.specs.declared.head.Head.{Head}
use Rattle.bit_fields.specs.Buffered.{BufferedBits, Reads, Sees}
use Rattle.bit_fields.specs.Ending.{Stays}
use Rattle.bit_fields.specs.Reader.{Reader, TellsBytes, Took, Why, Breaks}
use Rattle.bit_fields.proofs.Gap.{gap_whole}
use Rattle.bit_fields.proofs.BufferedReads.{reads_passed, seen_took}
use Rattle.bit_fields.proofs.InflowLaws.{Spends-refl}
use Rattle.bit_events.specs.declared.machine.Step.{Step}
use Rattle.bit_events.specs.declared.machine.Machine.{Machine}
use Rattle.bit_events.specs.Coming.{GivesEvent}
use Rattle.bit_events.specs.Events.{coming_of}
use Rattle.bit_events.specs.MachineView.{machine_shown, record_of, step_shown}
use Rattle.bit_events.specs.Next.{left_to_tell, FindsNext, FindsFault}
use Rattle.bit_events.specs.SliceEvents.{reader_seen, SeesEvents}
use Rattle.bit_events.proofs.Advancing.{Ready, pays_both, stops_after, loses_after, leaves_later, leads_behind, ends_behind, event_told, dead, IsLike}
use Rattle.bit_events.proofs.Behind.{step_behind}
use Rattle.bit_events.proofs.Runs.{advanced_both}

-- ---- records that are read in place

-- this many values come after those before
pub counted_behind : (before after list : List ℕ) (some all : ℕ) → some ≡ min (length before) (2 ^ 64 - 1) → all ≡ min (length after) (2 ^ 64 - 1) → after ≡ before ++ list → some ≤ 2 ^ 63 → length list ≤ 4294967295 → all - some ≡ length list
counted_behind before after list some all is is_all parts few short = omega (arith, is, is_all, few, short, ap length parts, length-append before list)

-- the invariant after such a record
pub seen_behind : {is_over : Bool} {found : Option Step} (limits : Limits) (m n : Machine) (r : Reader) (a b : BufferedBits) (event : Event) → r.live ≡ true → 0 < vec_len m.frames → n.frames ≡ m.frames → a.position < b.position → SeesEvents is_over limits m found r a → Reads (step limits (machine_shown m)) a (event, machine_shown n) b → SeesEvents is_over limits n None r b
seen_behind limits m n r a b event live some same forward s seen = record {
  depth = omega (arith, s.depth, ap vec_len same);
  behind = λ _. omega (arith, s.behind live, forward);
  there = there;
  sees = λ _. subst (λ (x : Reader). Sees x b) (advanced_both r (a.position - r.position) (b.position - a.position) (b.position - r.position) (omega (arith, s.behind live, forward))) (seen_took (step limits (machine_shown m)) (reader_seen r a) a (event, machine_shown n) b (s.sees live) seen).1;
  aligned = λ _ _ none. absurd (omega (arith, some, none, ap vec_len same));
  closed = λ e. absurd (omega (arith, some, (s.closed e).frames));
}
  where
    there : r.live ≡ true → TellsBytes r → b.position - r.position ≤ length r.left
    there _ k =
        let p = reads_passed (step limits (machine_shown m)) a (event, machine_shown n) b seen in
        let front = (s.sees live).front k in
        omega (arith, s.behind live, s.there live k, p.2, ap length p.1, length-append p.0 b.bits, ap length front.1, length-append a.bits front.0, length-drop (a.position - r.position) r.left)

-- it is the next event
pub seen_given : (is_over : Bool) (limits : Limits) (head : Head) (m n : Machine) (vs list : List ℕ) (found : Option Step) (r : Reader) (a b : BufferedBits) (id code first after : ℕ) → r.live ≡ true → 0 < vec_len m.frames → n.frames ≡ m.frames → a.position < b.position → b.position < 2 ^ 64 → SeesEvents is_over limits m found r a
    → Reads (step limits (machine_shown m)) a (record_of id list first (code, after), machine_shown n) b → GivesEvent (coming_of is_over limits head m vs found a.position (reader_seen r a)) (record_of id list first (code, after)) (coming_of is_over limits head n list None b.position (reader_seen r b))
seen_given is_over limits head m n vs list found r a b id code first after live some same forward below s seen = go is_over refl
  where
    event : Event
    event = record_of id list first (code, after)

    x : Reader
    x = reader_seen r a

    taken : Took (step limits (machine_shown m)) x (event, machine_shown n) (reader_seen r b)
    taken = subst (λ (y : Reader). Took (step limits (machine_shown m)) x (event, machine_shown n) y) (advanced_both r (a.position - r.position) (b.position - a.position) (b.position - r.position) (omega (arith, s.behind live, forward))) (seen_took (step limits (machine_shown m)) x a (event, machine_shown n) b (s.sees live) seen).0

    ready : Ready m x x
    ready = (record { was_live = live; live = live; goes_on = Spends-refl r.incoming r.budget; position = refl; end = refl; limit = refl; extent = λ k. refl; left = λ k. refl }, λ none. absurd (omega (arith, some, none)))

    place : x.position ≡ a.position
    place = omega (arith, s.behind live)

    go : (o : Bool) → is_over ≡ o → GivesEvent (coming_of o limits head m vs found a.position x) event (coming_of o limits head n list None b.position (reader_seen r b))
    go true e = absurd (omega (arith, some, (s.closed e).frames))
    go false e = record {
      went = rw live refl;
      goes = rw live refl;
      pays = Spends-refl r.incoming r.budget;
      head = refl;
      stands = some;
      depth = ap vec_len same;
      deepest = refl;
      held = refl;
      position = omega (arith, s.behind live, forward, step_behind limits (machine_shown m) (machine_shown n) x.position (reader_seen r b).position event taken.spells);
      forward = forward;
      below = below;
      told = λ tells. event_told limits m n event x x (reader_seen r b) ready taken tells;
    }

-- ---- a reader that catches up

any_whole : (n p : ℕ) (bits : List Bool) → n ≤ length bits → reading (any_bits n) p bits ≡ Ok (tt, p + n, drop n bits)
unfolding any_bits
any_whole n p bits enough = gap_whole n p p bits enough

same_left : (x y : (Unit {0}) × ℕ × List Bool) (r : Result ((Unit {0}) × ℕ × List Bool) grammar.Fault) → r ≡ Ok x → r ≡ Ok y → x.2 ≡ y.2
same_left x y r p q = (let e = sym p ∙ q in cc)

caught : (r : Reader) (a : BufferedBits) (s : Reader) → Took (any_bits (a.position - r.position)) r tt s → a.position - r.position ≤ length r.left → TellsBytes r → s.left ≡ drop (a.position - r.position) r.left
caught r a s t there k = go (reading (any_bits n) r.position r.left) (any_whole n r.position r.left there) (t.reads k)
  where
    n : ℕ
    n = a.position - r.position

    go : (x : Result ((Unit {0}) × ℕ × List Bool) grammar.Fault) → x ≡ Ok (tt, r.position + n, drop n r.left) → x ≡ Ok (tt, s.position, s.left) → s.left ≡ drop n r.left
    go x e f = sym (same_left (tt, r.position + n, drop n r.left) (tt, s.position, s.left) x e f)

-- it is then at the same position
caught_up_to : {is_over : Bool} {limits : Limits} {m : Machine} {found : Option Step} (r : Reader) (a : BufferedBits) (s : Reader) → r.live ≡ true → SeesEvents is_over limits m found r a → Took (any_bits (a.position - r.position)) r tt s → s.position ≡ r.position + (a.position - r.position) → Stays (reader_seen r a) s
caught_up_to r a s live sees t place = record {
  was_live = live;
  live = t.live;
  goes_on = t.goes_on;
  position = place;
  end = t.end;
  limit = t.limit;
  extent = t.extent;
  left = λ k. caught r a s t (sees.there live k) k;
}

-- ---- the next event

same_told : (limits : Limits) (m : Machine) (a b : Reader) → Stays a b → TellsBytes a → left_to_tell limits m a ≡ left_to_tell limits m b
same_told limits m a b p k = rw (p.extent k, p.position, p.left k) refl

-- what a reader finds that took nothing before
finds_behind : (limits : Limits) (m n : Machine) (a b c : Reader) (list : List ℕ) (result : Result (Option Step) Fault) → Stays a b → FindsNext limits m b list result n c → FindsNext limits m a list result n c
finds_behind limits m n a b c list (Ok (Some step)) p (h, forward) = (
  record {
    was_live = p.was_live;
    live = h.live;
    pays = pays_both a b c p.goes_on h.pays;
    leaves = leaves_later a b c (omega (arith, p.position)) h.leaves;
    position = h.position;
    told = λ k. same_told limits m a b p k ∙ h.told (p.goes_on.tells k);
    leads = leads_behind limits m n (step_shown n list step ∷ []) a b c p h.leads;
  },
  omega (arith, p.position, forward),
)
finds_behind limits m n a b c list (Ok None) p h = record {
  stops = stops_after a b c p h.stops;
  position = h.position ∙ p.position;
  outside = h.outside;
  ends = ends_behind a b p h.ends;
  same = h.same;
  told = λ k. same_told limits m a b p k ∙ h.told (p.goes_on.tells k) ∙ ap (λ (q : ℕ). ([], accepted q)) p.position;
  none = λ k. h.none (p.goes_on.tells k);
}
finds_behind limits m n a b c list (Err (Refused reason bit)) p (s, told) = (stops_after a b c p s, λ k. same_told limits m a b p k ∙ told (p.goes_on.tells k))
finds_behind limits m n a b c list (Err Read) p s = loses_after a b c p s
finds_behind limits m n a b c list (Err Memory) p s = stops_after a b c p s
finds_behind limits m n a b c list (Err Failed) p h = h
finds_behind limits m n a b c list (Err Write) p h = h
finds_behind limits m n a b c list (Err OutputTooLong) p h = h

-- its position is where the buffered bits begin
pub seen_at : {is_over : Bool} {limits : Limits} {m : Machine} {found : Option Step} {r : Reader} {a : BufferedBits} → r.live ≡ true → SeesEvents is_over limits m found r a → (reader_seen r a).position ≡ a.position
seen_at live sees = omega (arith, sees.behind live)

-- what a reader finds that caught up
pub found_behind : {is_over : Bool} {found : Option Step} (limits : Limits) (m n : Machine) (r : Reader) (a : BufferedBits) (s c : Reader) (list : List ℕ) (bits : ℕ) (result : Result (Option Step) Fault) → r.live ≡ true → SeesEvents is_over limits m found r a → bits ≡ a.position - r.position → Took (any_bits bits) r tt s → s.position ≡ r.position + bits
    → FindsNext limits m s list result n c → FindsNext limits m (reader_seen r a) list result n c
found_behind limits m n r a s c list bits result live sees is took place finds =
    finds_behind limits m n (reader_seen r a) s c list result (caught_up_to r a s live sees (subst (λ (k : ℕ). Took (any_bits k) r tt s) is took) (omega (arith, place, is))) finds

-- a reader of which nothing was read from the buffer
pub nothing_seen : (c : Reader) (a : BufferedBits) → c.position ≡ a.position → reader_seen c a ≡ c
nothing_seen c a same =
    let none : a.position - c.position ≡ 0 = omega (arith, same) in
    let place : c.position + 0 ≡ c.position = omega arith in
    rw (none, place) refl

-- the position of a reader after the buffered bits does not matter once it has failed
pub like_seen : (c : Reader) (a : BufferedBits) → IsLike c (reader_seen c a)
like_seen c a = record { live = refl; incoming = refl; budget = refl }

-- it failed to catch up, which only a failed source causes
pub not_caught : {is_over : Bool} {found : Option Step} (limits : Limits) (m : Machine) (r : Reader) (a : BufferedBits) (fault : Fault) (s : Reader) → r.live ≡ true → SeesEvents is_over limits m found r a → Why (any_bits (a.position - r.position)) r fault s → FindsFault limits m (reader_seen r a) fault s
not_caught limits m r a (Refused reason bit) s live sees (t, breaks) = (
  record { was_live = live; failed = t.failed; goes_on = t.goes_on },
  λ k. absurd (subst (λ (x : Result ((Unit {0}) × ℕ × List Bool) grammar.Fault). Breaks r.extent x reason bit) (any_whole (a.position - r.position) r.position r.left (sees.there live k)) (breaks k)),
)
not_caught limits m r a Read s live sees t = record { was_live = live; failed = t.failed; fails = t.fails }
not_caught limits m r a Memory s live sees t = record { was_live = live; failed = t.failed; goes_on = t.goes_on }
not_caught limits m r a Failed s live sees t = dead r.live live t.0
not_caught limits m r a Write s live sees t = t
not_caught limits m r a OutputTooLong s live sees t = t
