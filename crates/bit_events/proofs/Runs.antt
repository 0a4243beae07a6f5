-- Buffered records, gathered one after another.
use Rattle.std.proofs.Common.{inr, ◌≡◌, ℕ, ◌+◌, ◌-◌, ◌<◌, ◌≤◌, Bool, List, [], ◌∷◌, ◌++◌, length, None, Some, Option, Ok, Err, refl, sym, ap, subst, ◌∙◌, arith, append_assoc, length-append, vec_len, get_or, suc}
use Rattle.bit_grammar.specs.Grammar.{Grammar, gives, ◌>>=◌}
use Rattle.bit_grammar.specs.Fields.{fixed}
use Rattle.bit_grammar.specs.Terms.{CodeAndValues}
use Rattle.bit_grammar.specs.Blocks as blocks
use Rattle.bit_grammar.specs.Terms as terms
use Rattle.bit_grammar.specs.Blocks.{Limits, Handed, Scope, entry}
use Rattle.bit_grammar.specs.Machine as machine
use Rattle.bit_grammar.specs.Machine.{Event, scope_of, step, step_of}
use Rattle.bit_fields.specs.Buffered.{BufferedBits, Reads, Sees, reader_further, reader_at}
use Rattle.bit_fields.specs.declared.fault.Fault.{Fault}
use Rattle.bit_fields.specs.Reader.{Reader, Took, Why}
use Rattle.bit_fields.proofs.Composing.{same_reading, fault_then}
use Rattle.bit_fields.proofs.BitLaws.{drop_more}
use Rattle.bit_fields.proofs.BufferedReads.{reads_forward, reads_passed, took_reads, seen_took}
use Rattle.bit_abbrev.specs.Values.{AddsWithin}
use Rattle.bit_abbrev.proofs.Buffered.{took_at}
use Rattle.bit_events.specs.declared.frame.Frame.{Frame}
use Rattle.bit_events.specs.declared.machine.Machine.{Machine}
use Rattle.bit_events.specs.FrameView.{frame_shown, frames_shown, info_shown}
use Rattle.bit_events.specs.Folding.{GathersSome}
use Rattle.bit_events.specs.Gathering.{Gathers}
use Rattle.bit_events.specs.MachineView.{handed_shown, machine_shown, record_of, record_rule, LeavesMachine}
use Rattle.bit_events.specs.Next.{FindsEvent}
use Rattle.bit_events.specs.Runs.{AddsBehind, ReadsTo, after_record, Passed, GathersTo, StopsRun}
use Rattle.bit_events.proofs.Advancing.{finds_event}
use Rattle.bit_events.proofs.Folds.{first_after, first_bits, first_event, in_block, none_yet, one_event, some_then}
use Rattle.bit_events.proofs.Framing.{none_described}
use Rattle.bit_events.proofs.Framing as framing
use Rattle.bit_events.proofs.Stepping.{in_then, innermost, after_record as record_follows, record_took, other_than, length-frames}

-- ---- one record

-- a record of a block that is no BLOCKINFO block, after the id
pub rule_seen : (limit : ℕ) (f : machine.Frame) (outer : List machine.Frame) (handed : Handed) (first id code : ℕ) (list : List ℕ) (b c : BufferedBits) → f.info ≡ None → Took (entry (limit - handed.used) first id f.definitions) (reader_at b) (record { code = code; values = list }) (reader_at c)
    → Took (record_rule limit f outer first id handed) (reader_at b) (record_of id list first (code, c.position), after_record f outer handed list) (reader_at c)
rule_seen limit f outer handed first id code list b c none t =
    record_took limit f outer first id handed (reader_at b) (record { abbreviation = id; code = code; values = list; first = first; after = c.position }) (record scope { info = None; handed = more }) (reader_at c) new
    (framing.record_took limit first id scope (reader_at b) (record { code = code; values = list }) (reader_at c) c.position None (reader_at c) t refl described) made
  where
    scope : Scope
    scope = scope_of f handed

    more : Handed
    more = record { table = handed.table; used = handed.used + length list }

    new : machine.Machine
    new = after_record f outer handed list

    described : Took (blocks.describe scope.info first (record { code = code; values = list })) (reader_at c) None (reader_at c)
    described = rw none (none_described first (record { code = code; values = list }) (reader_at c) refl)

    made : new ≡ machine.inside f.head outer (record scope { info = None; handed = more })
    made = ap (λ (info : Option terms.BlockInfo). record { frames = record { head = f.head; definitions = f.definitions; info = info } ∷ outer; handed = more }) none

-- the same record with its id
pub record_seen : (limits : Limits) (f : machine.Frame) (outer : List machine.Frame) (handed : Handed) (id code : ℕ) (list : List ℕ) (a b c : BufferedBits) → f.info ≡ None → 3 ≤ id → Reads (fixed f.head.width) a id b → Took (entry (limits.values - handed.used) a.position id f.definitions) (reader_at b) (record { code = code; values = list }) (reader_at c)
    → Reads (step_of limits (f ∷ outer) handed) a (record_of id list a.position (code, c.position), after_record f outer handed list) c
record_seen limits f outer handed id code list a b c none most seen t =
    took_reads (step_of limits (f ∷ outer) handed) a (event, new) c
    (in_then limits f.head outer (scope_of f handed) (reader_at a) id (reader_at b) a.position (Ok (event, new)) (reader_at c) refl (took_at (fixed f.head.width) a id b seen)
    (record_follows limits f outer a.position id handed (reader_at b) (Ok (event, new)) (reader_at c) (other_than id 0 most (omega arith)) (other_than id 1 most (omega arith)) (other_than id 2 most (omega arith))
    (rule_seen limits.values f outer handed a.position id code list b c none t)))
  where
    event : Event
    event = record_of id list a.position (code, c.position)

    new : machine.Machine
    new = after_record f outer handed list

-- a record of the innermost block, as the machine holds it
pub held_seen : (limit : ℕ) (m : Machine) (k : ℕ) (f : Frame) (shown : machine.Frame) (outer : List machine.Frame) (room first id code : ℕ) (list : List ℕ) (after used : ℕ) (a : BufferedBits) → length m.frames.items ≡ suc k → f ≡ get_or m.frames.items k f → frames_shown m.frames.items ≡ shown ∷ outer → f.info ≡ None → limit - m.used ≡ room → used ≡ m.used + length list → (reads : ReadsTo f.definitions.all room id first a code list after)
    → Reads (record_rule limit shown outer first id (handed_shown m)) a (record_of id list first (code, after), machine_shown (record m { used = used })) reads.0
held_seen limit m k f shown outer room first id code list after used a n is split none same more reads =
    let inner = innermost m.frames.items k f shown outer n is split in
    let read : Took (entry (limit - m.used) first id shown.definitions) (reader_at a) (record { code = code; values = list }) (reader_at reads.0) = subst (λ (x : machine.Frame). Took (entry (limit - m.used) first id x.definitions) (reader_at a) (record { code = code; values = list }) (reader_at reads.0)) inner (rw same reads.3) in
    let plain : shown.info ≡ None = subst (λ (x : machine.Frame). x.info ≡ None) inner (ap info_shown none) in
    rw (more, split, ← reads.1) (took_reads (record_rule limit shown outer first id (handed_shown m)) a (record_of id list first (code, reads.0.position), after_record shown outer (handed_shown m) list) reads.0
    (rule_seen limit shown outer (handed_shown m) first id code list a reads.0 plain read))

-- a fault of a call that reads no bits is a fault for any rule
pub nothing_missed : {A : Type 0} (rule : Grammar A) (a : Reader) (fault : Fault) (b : Reader) → Why (gives (tt {0})) a fault b → Why rule a fault b
nothing_missed rule a fault b w = same_reading (gives (tt {0}) >>= λ v. rule) rule a (Err fault) b (λ p r. refl) (fault_then (gives (tt {0})) (λ v. rule) a fault b w)

-- the values added come after the earlier ones
pub added_behind : (rule : Grammar CodeAndValues) (room : ℕ) (a : Reader) (code : ℕ) (b : Reader) (before after : List ℕ) → AddsWithin rule room a (Ok code) b before after → AddsBehind (λ list. (length list ≤ room) × Took rule a (record { code = code; values = list }) b) before after
added_behind rule room a code b before after h = (h.0.0, h.0.1, (omega (arith, h.1, ap length h.0.1, length-append before h.0.0), h.0.2))

-- ---- several

pub advanced_both : (r : Reader) (n m k : ℕ) → n + m ≡ k → reader_further (reader_further r n) m ≡ reader_further r k
advanced_both r n m k all =
    let place : r.position + n + m ≡ r.position + k = omega (arith, all) in
    rw (place, drop_more n m r.left, all) refl

pub passed_forward : (a b : BufferedBits) → Passed a b → a.position ≤ b.position
passed_forward a b p = omega (arith, p.2)

pub passed_both : (a b c : BufferedBits) → Passed a b → Passed b c → Passed a c
passed_both a b c p q = (p.0 ++ q.0, p.1 ∙ ap (λ (s : List Bool). p.0 ++ s) q.1 ∙ sym (append_assoc p.0 q.0 c.bits), omega (arith, p.2, q.2, length-append p.0 q.0))

-- no record
pub gathers_none : {G : Type 0} (gathered : G → List Event → G → Type 0) (limits : Limits) (f : Frame) (used : ℕ) (a : BufferedBits) (g : G) → GathersTo gathered limits f used a g used a g
gathers_none gathered limits f used a g = record {
  passed = ([], refl, omega arith);
  gathers = λ m outer r split is sees.
      let none : a.position - a.position ≡ 0 = omega arith in
      let same : r.position + 0 ≡ r.position = omega arith in
      rw (none, same, ← is) (none_yet gathered limits m r g sees.live (λ closed. absurd (omega (arith, closed, m.frames.ok.0, length-frames m.frames.items, ap length split))), sees);
}

-- a step that was seen, after bits that were skipped
passed_more : {A : Type 0} (rule : Grammar A) (a b : BufferedBits) (value : A) (c : BufferedBits) → Passed a b → Reads rule b value c → Passed a c
passed_more rule a b value c p seen = (let q = reads_passed rule b value c seen in passed_both a b c p (q.0, q.1, q.2))

-- a step of the innermost block, by a reader before these bits
one_found : (limits : Limits) (m n : Machine) (outer : List machine.Frame) (f : machine.Frame) (id code : ℕ) (list : List ℕ) (r : Reader) (b c : BufferedBits) → frames_shown m.frames.items ≡ f ∷ outer → n.frames ≡ m.frames → machine_shown n ≡ after_record f outer (machine_shown m).handed list → b.position ≤ c.position
    → Sees r b → Reads (step_of limits (f ∷ outer) (machine_shown m).handed) b (record_of id list b.position (code, c.position), after_record f outer (machine_shown m).handed list) c → FindsEvent limits m r (record_of id list b.position (code, c.position)) n (reader_further r (c.position - b.position))
one_found limits m n outer f id code list r b c split same made forward sees seen = finds_event limits m n event r r after (in_block m r sees.live some) took leaves
  where
    event : Event
    event = record_of id list b.position (code, c.position)

    after : Reader
    after = reader_further r (c.position - b.position)

    some : 0 < vec_len m.frames
    some = omega (arith, m.frames.ok.0, length-frames m.frames.items, ap length split)

    took : Took (step_of limits (machine_shown m).frames (machine_shown m).handed) r (event, machine_shown n) after
    took = rw (split, made) (seen_took (step_of limits (f ∷ outer) (machine_shown m).handed) r b (event, after_record f outer (machine_shown m).handed list) c sees seen).0

    leaves : LeavesMachine limits.depth m r event n after
    leaves = record { stands = some; opens = ap vec_len same; forward = omega arith; aligned = λ none. absurd (omega (arith, some, none, ap vec_len same)); holds = tt }

-- one more
pub gathers_more : {G : Type 0} (gathered : G → List Event → G → Type 0) (limits : Limits) (f : Frame) (used : ℕ) (a : BufferedBits) (g : G) (now_used : ℕ) (b : BufferedBits) (h : G) (id code : ℕ) (list : List ℕ) (c : BufferedBits) (k : G) (more_used : ℕ) → GathersTo gathered limits f used a g now_used b h → more_used ≡ now_used + length list
    → ((outer : List machine.Frame) (handed : Handed) → handed.used ≡ now_used → Reads (step_of limits (frame_shown f ∷ outer) handed) b (record_of id list b.position (code, c.position), after_record (frame_shown f) outer handed list) c)
    → Gathers gathered h (record_of id list b.position (code, c.position)) k → GathersTo gathered limits f used a g more_used c k
gathers_more {G = G} gathered limits f used a g now_used b h id code list c k more_used so is step gathers = record {
  passed = passed_more rule a b value c so.passed seen;
  gathers = λ m outer r split same sees.
      let before = so.gathers m outer r split same sees in
      let n : Machine = record m { used = now_used } in
      let o : Machine = record m { used = more_used } in
      let there : Reader = reader_further r (b.position - a.position) in
      let here = step outer (machine_shown n).handed refl in
      let made : machine_shown o ≡ after_record (frame_shown f) outer (machine_shown n).handed list = rw (split, is) refl in
      let one = one_event gathered limits n there h (record_of id list b.position (code, c.position)) o (reader_further there (c.position - b.position)) k (one_found limits n o outer (frame_shown f) id code list there b c split refl made forward before.1 here) gathers in
      let e : reader_further there (c.position - b.position) ≡ reader_further r (c.position - a.position) = advanced_both r (b.position - a.position) (c.position - b.position) (c.position - a.position) (omega (arith, passed_forward a b so.passed, forward)) in (
        subst (λ (t : Reader). GathersSome gathered limits m r g o t k) e (some_then gathered limits m r g n there h o (reader_further there (c.position - b.position)) k before.0 one),
        subst (λ (t : Reader). Sees t c) e (seen_took (step_of limits (frame_shown f ∷ outer) (machine_shown n).handed) there b (record_of id list b.position (code, c.position), after_record (frame_shown f) outer (machine_shown n).handed list) c before.1 here).1,
      );
}
  where
    some : Handed
    some = record { table = λ id. []; used = now_used }

    rule : Grammar (Event × machine.Machine)
    rule = step_of limits (frame_shown f ∷ []) some

    value : Event × machine.Machine
    value = (record_of id list b.position (code, c.position), after_record (frame_shown f) [] some list)

    seen : Reads rule b value c
    seen = step [] some refl

    forward : b.position ≤ c.position
    forward = reads_forward rule b value c seen

-- a run after another one
pub gathers_then : {G : Type 0} (gathered : G → List Event → G → Type 0) (limits : Limits) (f : Frame) (used : ℕ) (a : BufferedBits) (g : G) (now_used : ℕ) (b : BufferedBits) (h : G) (more_used : ℕ) (c : BufferedBits) (k : G) → GathersTo gathered limits f used a g now_used b h → GathersTo gathered limits f now_used b h more_used c k → GathersTo gathered limits f used a g more_used c k
gathers_then gathered limits f used a g now_used b h more_used c k one two = record {
  passed = passed_both a b c one.passed two.passed;
  gathers = λ m outer r split same sees.
      let before = one.gathers m outer r split same sees in
      let n : Machine = record m { used = now_used } in
      let there : Reader = reader_further r (b.position - a.position) in
      let later = two.gathers n outer there split refl before.1 in
      let e : reader_further there (c.position - b.position) ≡ reader_further r (c.position - a.position) = advanced_both r (b.position - a.position) (c.position - b.position) (c.position - a.position) (omega (arith, passed_forward a b one.passed, passed_forward b c two.passed)) in (
        subst (λ (t : Reader). GathersSome gathered limits m r g (record m { used = more_used }) t k) e (some_then gathered limits m r g n there h (record m { used = more_used }) (reader_further there (c.position - b.position)) k before.0 later.0),
        subst (λ (t : Reader). Sees t c) e later.1,
      );
}

-- ---- where it stopped

-- after some records
pub stop_later : {G : Type 0} (gathered : G → List Event → G → Type 0) (fails : G → Option Event → G → Type 0) (limits : Limits) (f : Frame) (used : ℕ) (a : BufferedBits) (g : G) (now_used : ℕ) (b : BufferedBits) (h k : G) → GathersTo gathered limits f used a g now_used b h → StopsRun gathered fails limits f now_used b h k → StopsRun gathered fails limits f used a g k
stop_later gathered fails limits f used a g now_used b h k so later = λ m outer split same r sees.
    let there : Reader = reader_further r (b.position - a.position) in
    let n : Machine = record m { used = now_used } in
    let before = so.gathers m outer r split same sees in
    first_after gathered fails limits m r g n there h k before.0 (later n outer split refl there before.1)

-- at bits
pub stop_bits : {G : Type 0} (gathered : G → List Event → G → Type 0) (fails : G → Option Event → G → Type 0) (limits : Limits) (f : Frame) (used : ℕ) (a : BufferedBits) (g h : G) → fails g None h → StopsRun gathered fails limits f used a g h
stop_bits gathered fails limits f used a g h failed = λ m outer split same r sees. first_bits gathered fails limits m r g h failed

-- at a record
pub stop_record : {G : Type 0} (gathered : G → List Event → G → Type 0) (fails : G → Option Event → G → Type 0) (limits : Limits) (f : Frame) (used : ℕ) (a : BufferedBits) (g h : G) (id code : ℕ) (list : List ℕ) (c : BufferedBits)
    → ((outer : List machine.Frame) (handed : Handed) → handed.used ≡ used → Reads (step_of limits (frame_shown f ∷ outer) handed) a (record_of id list a.position (code, c.position), after_record (frame_shown f) outer handed list) c)
    → fails g (Some (record_of id list a.position (code, c.position))) h → StopsRun gathered fails limits f used a g h
stop_record gathered fails limits f used a g h id code list c step failed = λ m outer split same r sees.
    let n : Machine = record m { used = m.used + length list } in
    let here = step outer (machine_shown m).handed same in
    let made : machine_shown n ≡ after_record (frame_shown f) outer (machine_shown m).handed list = rw split refl in
    let forward = reads_forward (step_of limits (frame_shown f ∷ outer) (machine_shown m).handed) a (record_of id list a.position (code, c.position), after_record (frame_shown f) outer (machine_shown m).handed list) c here in
    first_event gathered fails limits m r g h (record_of id list a.position (code, c.position)) n (reader_further r (c.position - a.position)) (one_found limits m n outer (frame_shown f) id code list r a c split refl made forward sees here) (inr failed)
