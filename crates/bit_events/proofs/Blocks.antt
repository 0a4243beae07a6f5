-- Beginnings and ends of blocks that are buffered, and what is gathered with them.
use Rattle.std.proofs.Common.{◌≡◌, ℕ, ◌+◌, ◌-◌, ◌%◌, ◌<◌, ◌≤◌, suc, is_none, is_some, Bool, true, false, List, [], ◌∷◌, ◌++◌, length, length-append, get_or, vec_len, drop, None, Some, Option, Result, Ok, Err, refl, sym, ap, subst, ◌∙◌, arith, ltb}
use Rattle.std.specs.Prelude.{IfNone, IfSome, IsNone, OnOk}
use Rattle.std.proofs.lemmas.List.{append-nil, drop_at}
use Rattle.std.proofs.lemmas.Bool.{lt-ltb}
use Rattle.bit_grammar.specs.declared.reason.Reason.TheVariants.{TooDeep, TopLevel, NestedInBlockInfo}
use Rattle.bit_grammar.specs.Grammar as grammar
use Rattle.bit_grammar.specs.Grammar.{Grammar, ◌>>=◌, at, gives, reading, test}
use Rattle.bit_grammar.specs.Input.{any_bits}
use Rattle.bit_grammar.specs.Fields.{fixed}
use Rattle.bit_grammar.specs.Blocks.{Limits, block_head, end_of_block, enter, leave}
use Rattle.bit_grammar.specs.Machine as machine
use Rattle.bit_grammar.specs.Machine.{Event, Told, enters, leaves, inside, open_block, scope_of, step}
use Rattle.bit_fields.specs.Buffered.{BufferedBits, Reads, Sees, beyond, reader_at, reader_further}
use Rattle.bit_fields.specs.declared.fault.Fault.{Fault}
use Rattle.bit_fields.specs.declared.fault.Fault.TheVariants.{Refused, Read, Write, Memory, OutputTooLong, Failed}
use Rattle.bit_fields.specs.Reader.{Reader, TellsBytes, Took, Takes, Why}
use Rattle.bit_fields.specs.Short.{TookNothing}
use Rattle.bit_fields.proofs.Gap.{gap_whole}
use Rattle.bit_fields.proofs.Composing.{same_reading, took_nothing, took_then}
use Rattle.bit_fields.proofs.BufferedReads.{not_caught_up, reads_forward, reads_passed, reads_there, reads_took, seen_took, took_reads}
use Rattle.bit_events.specs.declared.frame.Frame.{Frame}
use Rattle.bit_events.specs.declared.head.BlockHead.{BlockHead}
use Rattle.bit_events.specs.declared.machine.Machine.{Machine}
use Rattle.bit_events.specs.declared.machine.Step.{Step}
use Rattle.bit_events.specs.FrameView.{info_shown, frame_shown, frames_shown}
use Rattle.bit_events.specs.HeadView.{head_shown}
use Rattle.bit_events.specs.MachineView.{bit_after, handed_shown, machine_shown, step_shown, end_rule, InBlock, LeavesMachine}
use Rattle.bit_events.specs.Folding.{GathersSome, Lost, MissesEvents, TakesRun}
use Rattle.bit_events.specs.Gathering.{FailsAt, Gathers}
use Rattle.bit_events.specs.Next.{left_to_tell, FindsEvent}
use Rattle.bit_events.specs.Runs.{FindsHere, GathersOn, GathersRun, GathersUpTo, Passed, StepsHere, StopsOn}
use Rattle.bit_events.proofs.Advancing.{dead, finds_event, leaves_later, none_shown}
use Rattle.bit_events.proofs.Folds.{before_none, first_after, first_event, first_none, first_some, loses_later, none_yet, one_event, some_then, stays_same, stops_later}
use Rattle.bit_events.proofs.Runs.{advanced_both, passed_both, passed_forward}
use Rattle.bit_events.proofs.Stepping.{innermost, frames-pop, length-frames, open_took, end_took, top_opens, nested_opens, in_then, after_end, after_nested}

pub none_some : {A : Type 0} (o : Option A) → is_some o ≡ false → o ≡ None
none_some None e = refl
none_some (Some x) e = absurd cc

-- the innermost block, which is no BLOCKINFO block, as its frame holds it
pub plain_width : (m : Machine) (k : ℕ) (f : Frame) (width : ℕ) → length m.frames.items ≡ suc k → f ≡ get_or m.frames.items k f → is_some f.info ≡ false → width ≡ f.head.width → InBlock m (λ shown outer. (shown.info ≡ None) × (width ≡ shown.head.width))
plain_width m k f width count is plain same = λ shown outer split.
    let inner = innermost m.frames.items k f shown outer count is split in
    (subst (λ (x : machine.Frame). x.info ≡ None) inner (ap info_shown (none_some f.info plain)), same ∙ ap (λ (x : machine.Frame). x.head.width) inner)

-- ---- a step by a part of its rule

pub judged : (holds : Bool) (fault : grammar.Fault) (a : Reader) → holds ≡ true → a.live ≡ true → Took (test holds fault) a tt a
judged holds fault a is live = same_reading (gives (tt {0})) (test holds fault) a (Ok (tt {0})) a (λ p r. rw is refl) (took_nothing (tt {0}) a live)

-- a block begins
pub opens_here : (limits : Limits) (m : Machine) (first : ℕ) (a : BufferedBits) (head : BlockHead) (b : BufferedBits) (n : Machine) → vec_len m.frames < limits.depth → Reads block_head a (head_shown head) b → machine_shown n ≡ inside (head_shown head) (frames_shown m.frames.items) (enter head.id (handed_shown m)) → vec_len n.frames ≡ vec_len m.frames + 1
    → FindsHere (open_block limits (frames_shown m.frames.items) first (handed_shown m)) limits.depth m a (enters (record { id = head.id; width = head.width; first = first; body = head.body })) n b
opens_here limits m first a head b n fits reads made more = record {
  reads = took_reads (open_block limits (frames_shown m.frames.items) first (handed_shown m)) a (enters (record { id = head.id; width = head.width; first = first; body = head.body }), machine_shown n) b
      (open_took limits (frames_shown m.frames.items) first (handed_shown m) (reader_at a) (reader_at a) (head_shown head) (reader_at b) (reader_at b) (machine_shown n) (judged (ltb (length (frames_shown m.frames.items)) limits.depth) (at TooDeep first) (reader_at a) (lt-ltb (length (frames_shown m.frames.items)) limits.depth (omega (arith, fits, length-frames m.frames.items, m.frames.ok.0))) refl)
      (reads_took block_head a (head_shown head) b reads forward) refl made);
  leaves = record { stands = fits; opens = omega (arith, more); forward = forward; aligned = λ none. absurd (omega (arith, more, none)); holds = tt };
}
  where
    forward : a.position ≤ b.position
    forward = reads_forward block_head a (head_shown head) b reads

-- the innermost block ends, and it is no BLOCKINFO block
pub ends_here : (deepest : ℕ) (m : Machine) (k : ℕ) (f popped : Frame) (shown : machine.Frame) (outer : List machine.Frame) (a : BufferedBits) (after : ℕ) (b : BufferedBits) (n : Machine) → length m.frames.items ≡ suc k → f ≡ get_or m.frames.items k f → frames_shown m.frames.items ≡ shown ∷ outer → shown.info ≡ None → Reads (end_of_block (head_shown f.head)) a after b → b.position % 32 ≡ 0 → m.frames.items ≡ n.frames.items ++ popped ∷ [] → handed_shown n ≡ handed_shown m
    → FindsHere (end_rule shown outer (handed_shown m)) deepest m a (leaves after) n b
ends_here deepest m k f popped shown outer a after b n count is split plain reads aligned items same = record {
  reads = took_reads (end_rule shown outer (handed_shown m)) a (leaves after, machine_shown n) b (end_took shown outer (handed_shown m) (reader_at a) after (reader_at b) (reader_at b) (machine_shown n) (reads_took (end_of_block shown.head) a after b here (reads_forward (end_of_block shown.head) a after b here)) refl made);
  leaves = record {
    stands = omega (arith, count, m.frames.ok.0);
    opens = omega (arith, ap length items, length-append n.frames.items (popped ∷ []), m.frames.ok.0, n.frames.ok.0);
    forward = reads_forward (end_of_block shown.head) a after b here;
    aligned = λ none. aligned;
    holds = tt;
  };
}
  where
    inner : frame_shown f ≡ shown
    inner = innermost m.frames.items k f shown outer count is split

    here : Reads (end_of_block shown.head) a after b
    here = subst (λ (x : machine.Frame). Reads (end_of_block x.head) a after b) inner reads

    made : machine_shown n ≡ record { frames = outer; handed = leave shown.info (handed_shown m) }
    made = rw (plain, same, (frames-pop m.frames.items n.frames.items popped shown outer items split).1) refl

-- what follows an id
later : (rule whole : Grammar (Event × machine.Machine)) (deepest : ℕ) (m : Machine) (a b : BufferedBits) (found : Option Step) (n : Machine) → a.position ≤ b.position → ((c : BufferedBits) (value : Event × machine.Machine) → Took rule (reader_at b) value (reader_at c) → Took whole (reader_at a) value (reader_at c)) → StepsHere rule deepest m b found n → StepsHere whole deepest m a found n
later rule whole deepest m a b None n forward so same = same
later rule whole deepest m a b (Some found) n forward so steps = (
  steps.0,
  steps.1,
  λ list.
      let c = steps.0 in
      let here = steps.2 list in
      let value : Event × machine.Machine = (step_shown n list found, machine_shown n) in
      record {
        reads = took_reads whole a value c (so c value (reads_took rule b value c here.reads (reads_forward rule b value c here.reads)));
        leaves = leaves_later (reader_at a) (reader_at b) (reader_at c) forward here.leaves;
      },
)

-- a block, at the top or in the innermost one, which is no BLOCKINFO block
pub step_opens : (limits : Limits) (m : Machine) (width first : ℕ) (a b : BufferedBits) (found : Option Step) (n : Machine) → InBlock m (λ f outer. (f.info ≡ None) × (width ≡ f.head.width)) → (vec_len m.frames ≡ 0 → width ≡ 2) → first ≡ a.position → Reads (fixed width) a 1 b → StepsHere (open_block limits (frames_shown m.frames.items) first (handed_shown m)) limits.depth m b found n → StepsHere (step limits (machine_shown m)) limits.depth m a found n
step_opens limits m width first a b found n inside top is id steps = go (frames_shown m.frames.items) refl
  where
    forward : a.position ≤ b.position
    forward = reads_forward (fixed width) a 1 b id

    go : (frames : List machine.Frame) → frames_shown m.frames.items ≡ frames → StepsHere (step limits (machine_shown m)) limits.depth m a found n
    go [] none =
        let two = subst (λ (w : ℕ). Reads (fixed w) a 1 b) (top (m.frames.ok.0 ∙ none_shown m.frames.items none)) id in
        rw none (later (open_block limits [] first (handed_shown m)) (machine.step_top limits (handed_shown m)) limits.depth m a b found n forward
        (λ c value took. top_opens limits (handed_shown m) (reader_at a) 1 (reader_at b) first (reader_at b) (Ok value) (reader_at c) is (reads_took (fixed 2) a 1 b two forward) (judged true (at TopLevel first) (reader_at b) refl refl) took)
        (rw none at steps))
    go (f ∷ outer) split =
        let here = inside f outer split in
        let scope = scope_of f (handed_shown m) in
        let read = subst (λ (w : ℕ). Reads (fixed w) a 1 b) here.1 id in
        rw split (later (open_block limits (f ∷ outer) first (handed_shown m)) (machine.step_in limits f.head outer scope) limits.depth m a b found n forward
        (λ c value took. in_then limits f.head outer scope (reader_at a) 1 (reader_at b) first (Ok value) (reader_at c) is (reads_took (fixed f.head.width) a 1 b read forward)
        (after_nested limits f outer first 1 (handed_shown m) (reader_at b) (Ok value) (reader_at c) refl refl
        (nested_opens limits f.head outer first scope (reader_at b) (reader_at b) (Ok value) (reader_at c) (judged (is_none f.info) (at NestedInBlockInfo first) (reader_at b) (ap is_none here.0) refl) took)))
        (rw split at steps))

not_none : {A : Type 0} (x : A) → IsNone (Some x) → ⊥
not_none x e = absurd cc

-- its end
pub step_ends : (limits : Limits) (m : Machine) (width : ℕ) (a b : BufferedBits) (found : Option Step) (n : Machine) → InBlock m (λ f outer. (f.info ≡ None) × (width ≡ f.head.width)) → Reads (fixed width) a 0 b → (vec_len m.frames ≡ 0 → IsNone found) → (IfNone found (n ≡ m)) → InBlock m (λ f outer. f.info ≡ None → StepsHere (end_rule f outer (handed_shown m)) limits.depth m b found n) → StepsHere (step limits (machine_shown m)) limits.depth m a found n
step_ends limits m width a b None n inside id outside same steps = same
step_ends limits m width a b (Some found) n inside id outside same steps = go (frames_shown m.frames.items) refl
  where
    forward : a.position ≤ b.position
    forward = reads_forward (fixed width) a 0 b id

    go : (frames : List machine.Frame) → frames_shown m.frames.items ≡ frames → StepsHere (step limits (machine_shown m)) limits.depth m a (Some found) n
    go [] none = absurd (not_none found (outside (m.frames.ok.0 ∙ none_shown m.frames.items none)))
    go (f ∷ outer) split =
        let here = inside f outer split in
        let scope = scope_of f (handed_shown m) in
        let read = subst (λ (w : ℕ). Reads (fixed w) a 0 b) here.1 id in
        rw split (later (end_rule f outer (handed_shown m)) (machine.step_in limits f.head outer scope) limits.depth m a b (Some found) n forward
        (λ c value took. in_then limits f.head outer scope (reader_at a) 0 (reader_at b) a.position (Ok value) (reader_at c) refl (reads_took (fixed f.head.width) a 0 b read forward)
        (after_end limits f outer a.position 0 (handed_shown m) (reader_at b) (Ok value) (reader_at c) refl took))
        (steps f outer split here.0))

-- it reads at least the id
pub moved_here : (rule : Grammar (Event × machine.Machine)) (deepest : ℕ) (m : Machine) (a b : BufferedBits) (found : Option Step) (n : Machine) → a.position < b.position → StepsHere rule deepest m b found n → IfSome found (λ step. a.position < bit_after step)
moved_here rule deepest m a b None n moves steps = tt
moved_here rule deepest m a b (Some found) n moves steps = omega (arith, moves, steps.1, (steps.2 []).leaves.forward)

pub behind_id : (found : Option Step) (p q : ℕ) → p < q → IfSome found (λ step. q ≤ bit_after step) → IfSome found (λ step. p < bit_after step)
behind_id None p q less after = tt
behind_id (Some found) p q less after = omega (arith, less, after)

-- ---- what is gathered

sees_itself : (a : BufferedBits) → Sees (reader_at a) a
sees_itself a = record { live = refl; position = refl; front = λ _. ([], sym (append-nil a.bits)) }

-- outside of all blocks it stops at a whole byte
pub on_aligned : {G : Type 0} (gathered : G → List Event → G → Type 0) (limits : Limits) (m : Machine) (a : BufferedBits) (g : G) (n : Machine) (b : BufferedBits) (h : G) → GathersOn gathered limits m a g n b h → vec_len n.frames ≡ 0 → b.position % 8 ≡ 0
on_aligned gathered limits m a g n b h on none = omega (arith, (on.gathers (reader_at a) (sees_itself a)).0.aligned none, on.passed.2)

-- nothing
pub on_none : {G : Type 0} (gathered : G → List Event → G → Type 0) (limits : Limits) (m : Machine) (a : BufferedBits) (g : G) → (vec_len m.frames ≡ 0 → a.position % 8 ≡ 0) → GathersOn gathered limits m a g m a g
on_none gathered limits m a g aligned = record {
  passed = ([], refl, omega arith);
  gathers = λ r sees.
      let none : a.position - a.position ≡ 0 = omega arith in
      let same : r.position + 0 ≡ r.position = omega arith in
      rw (none, same) (none_yet gathered limits m r g sees.live (λ closed. omega (arith, aligned closed, sees.position)), sees);
}

-- some, and then more
pub on_both : {G : Type 0} (gathered : G → List Event → G → Type 0) (limits : Limits) (m : Machine) (a : BufferedBits) (g : G) (n : Machine) (b : BufferedBits) (h : G) (o : Machine) (c : BufferedBits) (k : G) → GathersOn gathered limits m a g n b h → GathersOn gathered limits n b h o c k → GathersOn gathered limits m a g o c k
on_both gathered limits m a g n b h o c k p q = record {
  passed = passed_both a b c p.passed q.passed;
  gathers = λ r sees.
      let there : Reader = reader_further r (b.position - a.position) in
      let one = p.gathers r sees in
      let two = q.gathers there one.1 in
      let e : reader_further there (c.position - b.position) ≡ reader_further r (c.position - a.position) = advanced_both r (b.position - a.position) (c.position - b.position) (c.position - a.position) (omega (arith, passed_forward a b p.passed, passed_forward b c q.passed)) in (
        subst (λ (t : Reader). GathersSome gathered limits m r g o t k) e (some_then gathered limits m r g n there h o (reader_further there (c.position - b.position)) k one.0 two.0),
        subst (λ (t : Reader). Sees t c) e two.1,
      );
}

-- records of the innermost block
pub on_run : {G : Type 0} (gathered : G → List Event → G → Type 0) (limits : Limits) (f : Frame) (m : Machine) (outer : List machine.Frame) (a : BufferedBits) (g : G) (used after : ℕ) (h : G) → frames_shown m.frames.items ≡ frame_shown f ∷ outer → GathersRun gathered limits f m.used a g used after h → GathersUpTo gathered limits m a g (record m { used = used }) after h
on_run gathered limits f m outer a g used after h split run = (run.0, run.1, record { passed = run.2.passed; gathers = λ r sees. run.2.gathers m outer r split refl sees })

-- a step passes bits
pub step_passed : (rule : Grammar (Event × machine.Machine)) (deepest : ℕ) (m : Machine) (a : BufferedBits) (event : Event) (n : Machine) (b : BufferedBits) → FindsHere rule deepest m a event n b → Passed a b
step_passed rule deepest m a event n b here = (let q = reads_passed rule a (event, machine_shown n) b here.reads in (q.0, q.1, q.2))

-- the beginning or the end of a block was found
step_found : (limits : Limits) (m : Machine) (a : BufferedBits) (event : Event) (n : Machine) (b : BufferedBits) (r : Reader) → FindsHere (step limits (machine_shown m)) limits.depth m a event n b → a.position < b.position → Sees r a → FindsEvent limits m r event n (reader_further r (b.position - a.position))
step_found limits m a event n b r here moves sees =
    let there : Reader = reader_further r (b.position - a.position) in
    let took = seen_took (step limits (machine_shown m)) r a (event, machine_shown n) b sees here.reads in
    let some : (k : TellsBytes r) → 0 < length r.left = λ k. omega (arith, moves, reads_there (step limits (machine_shown m)) a (event, machine_shown n) b here.reads, ap length (sees.front k).1, length-append a.bits (sees.front k).0) in
    let left : LeavesMachine limits.depth m r event n there = record {
      stands = here.leaves.stands;
      opens = here.leaves.opens;
      forward = omega arith;
      aligned = λ none. omega (arith, here.leaves.aligned none, sees.position, moves);
      holds = here.leaves.holds;
    } in
    finds_event limits m n event r r there (stays_same r sees.live, λ none k. some k) took.0 left

-- it was gathered
pub on_step : {G : Type 0} (gathered : G → List Event → G → Type 0) (limits : Limits) (m : Machine) (a : BufferedBits) (g : G) (event : Event) (n : Machine) (b : BufferedBits) (h : G) → FindsHere (step limits (machine_shown m)) limits.depth m a event n b → a.position < b.position → Gathers gathered g event h → GathersOn gathered limits m a g n b h
on_step gathered limits m a g event n b h here moves gathers = record {
  passed = step_passed (step limits (machine_shown m)) limits.depth m a event n b here;
  gathers = λ r sees. (
    one_event gathered limits m r g event n (reader_further r (b.position - a.position)) h (step_found limits m a event n b r here moves sees) gathers,
    (seen_took (step limits (machine_shown m)) r a (event, machine_shown n) b sees here.reads).1,
  );
}

-- it was not gathered
pub stop_step : {G : Type 0} (gathered : G → List Event → G → Type 0) (fails : G → Option Event → G → Type 0) (limits : Limits) (m : Machine) (a : BufferedBits) (g : G) (event : Event) (n : Machine) (b : BufferedBits) (h : G) → FindsHere (step limits (machine_shown m)) limits.depth m a event n b → a.position < b.position → FailsAt fails g event h → StopsOn gathered fails limits m a g h
stop_step gathered fails limits m a g event n b h here moves failed = λ r sees. first_event gathered fails limits m r g h event n (reader_further r (b.position - a.position)) (step_found limits m a event n b r here moves sees) failed

-- nothing more was gathered
pub stop_here : {G : Type 0} (gathered : G → List Event → G → Type 0) (fails : G → Option Event → G → Type 0) (limits : Limits) (m : Machine) (a : BufferedBits) (g : G) → StopsOn gathered fails limits m a g g
stop_here gathered fails limits m a g = λ r sees. first_none gathered fails limits m r g

-- some were gathered before
pub stop_after : {G : Type 0} (gathered : G → List Event → G → Type 0) (fails : G → Option Event → G → Type 0) (limits : Limits) (m : Machine) (a : BufferedBits) (g : G) (n : Machine) (b : BufferedBits) (h k : G) → GathersOn gathered limits m a g n b h → StopsOn gathered fails limits n b h k → StopsOn gathered fails limits m a g k
stop_after gathered fails limits m a g n b h k on later = λ r sees.
    let there : Reader = reader_further r (b.position - a.position) in
    let one = on.gathers r sees in
    first_after gathered fails limits m r g n there h k one.0 (later there one.1)

-- ---- a reader that catches up

-- the skipped bits are some bits
any_seen : (a b : BufferedBits) → Passed a b → Reads (any_bits (b.position - a.position)) a tt b
unfolding any_bits
any_seen a b p =
    let n : ℕ = b.position - a.position in
    let whole : length a.bits ≡ length p.0 + length b.bits = ap length p.1 ∙ length-append p.0 b.bits in
    let place : a.position + n ≡ b.position = omega (arith, p.2) in
    let left : drop n a.bits ≡ b.bits = ap (drop n) p.1 ∙ drop_at p.0 b.bits n (omega (arith, p.2)) in
    gap_whole n a.position a.position a.bits (omega (arith, whole, p.2)) ∙ rw (place, left) refl

same_answer : (x y : (Unit {0}) × ℕ × List Bool) (r : Result ((Unit {0}) × ℕ × List Bool) grammar.Fault) → r ≡ Ok x → r ≡ Ok y → (x.1 ≡ y.1) × (x.2 ≡ y.2)
same_answer x y r p q = (let e = sym p ∙ q in (cc, cc))

same_left : (limits : Limits) (m : Machine) (a b : Reader) → b.extent ≡ a.extent → a.position ≡ b.position → a.left ≡ b.left → left_to_tell limits m a ≡ left_to_tell limits m b
same_left limits m a b extent position left = rw (extent, position, left) refl

-- a reader that caught up
run_taken : {G : Type 0} (gathered : G → List Event → G → Type 0) (limits : Limits) (m : Machine) (r : Reader) (g : G) (n : Machine) (h : G) (a b : BufferedBits) (c : Reader) → GathersOn gathered limits m a g n b h → Sees r a → Took (any_bits (b.position - a.position)) r tt c → c.position ≡ r.position + (b.position - a.position) → GathersSome gathered limits m r g n c h
run_taken gathered limits m r g n h a b c on sees t place = record {
  events = all.events;
  live = t.live;
  pays = t.goes_on;
  forward = t.forward;
  aligned = λ none. rw place (all.aligned none);
  told = λ k. all.told k ∙ ap (λ (told : Told). (all.events ++ told.0, told.1)) (same_left limits n there c (t.extent k) (here k).0 (here k).1);
  leads = record { bits = all.leads.bits; leads = all.leads.leads; position = place ∙ all.leads.position; end = t.end; limit = t.limit };
  gathers = all.gathers;
}
  where
    all : GathersSome gathered limits m r g n (reader_further r (b.position - a.position)) h
    all = (on.gathers r sees).0

    there : Reader
    there = reader_further r (b.position - a.position)

    here : TellsBytes r → (there.position ≡ c.position) × (there.left ≡ c.left)
    here k = same_answer (tt, there.position, there.left) (tt, c.position, c.left) (reading (any_bits (b.position - a.position)) r.position r.left) ((seen_took (any_bits (b.position - a.position)) r a tt b sees (any_seen a b on.passed)).0.reads k) (t.reads k)

-- a reader that took nothing before
after_nothing : {A : Type 0} (rule : Grammar A) (a b : Reader) (result : Result A Fault) (c : Reader) → TookNothing a b → Takes rule b result c → Takes rule a result c
after_nothing rule a b result c nothing t = same_reading (gives (tt {0}) >>= λ v. rule) rule a result c (λ p r. refl) (took_then (gives (tt {0})) (λ v. rule) a (tt {0}) b result c nothing t)

-- what was gathered from a block on, by a reader that then catches up
pub on_gathered : {G : Type 0} (gathered : G → List Event → G → Type 0) (fails : G → Option Event → G → Type 0) (limits : Limits) (m : Machine) (a : Reader) (g : G) (b : Reader) (buffered_parts : BufferedBits) (n : Machine) (after : ℕ) (h : G) (result : Result (Unit {0}) Fault) (c : Reader) → 0 < vec_len m.frames → TookNothing a b → b.position ≡ a.position → Sees a buffered_parts
    → GathersUpTo gathered limits m buffered_parts g n after h → Takes (any_bits (after - buffered_parts.position)) b result c → OnOk result (c.position ≡ b.position + (after - buffered_parts.position)) → TakesRun gathered fails limits m a g result n c h
on_gathered gathered fails limits m a g b buffered_parts n after h result c some nothing stays sees on t moves =
    go result (subst (λ (q : ℕ). Takes (any_bits (q - buffered_parts.position)) a result c) (sym on.1) (after_nothing (any_bits (after - buffered_parts.position)) a b result c nothing t)) moves
  where
    go : (result : Result (Unit {0}) Fault) → Takes (any_bits (on.0.position - buffered_parts.position)) a result c → OnOk result (c.position ≡ b.position + (after - buffered_parts.position)) → TakesRun gathered fails limits m a g result n c h
    go (Ok x) t moves = run_taken gathered limits m a g n h buffered_parts on.0 c on.2 sees t (omega (arith, moves, stays, on.1))
    go (Err fault) t moves = lost fault (not_caught_up (any_bits (on.0.position - buffered_parts.position)) a buffered_parts tt on.0 fault c (gives (tt {0})) sees (any_seen buffered_parts on.0 on.2.passed) t)
      where
        there : Reader
        there = reader_further a (on.0.position - buffered_parts.position)

        some_read : GathersSome gathered limits m a g n there h
        some_read = (on.2.gathers a sees).0

        lost : (fault : Fault) → Why (gives (tt {0})) a fault c → MissesEvents gathered fails limits m a g fault c h
        lost (Refused reason bit) w = (w.0, record { events = some_read.events; told = λ k. absurd (w.1 k); gathers = λ first done was count. (some_read.gathers first done was count).0 })
        lost Read w = (w, first_some gathered fails limits m a g n there h some_read)
        lost Memory w = (w, first_some gathered fails limits m a g n there h some_read)
        lost Failed w = absurd (dead a.live nothing.was_live w.0)
        lost Write w = w
        lost OutputTooLong w = w

-- a reader that only looked at what is buffered
pub nothing_gathered : {G : Type 0} (gathered : G → List Event → G → Type 0) (limits : Limits) (m : Machine) (a : Reader) (g : G) (b : Reader) (buffered_parts : BufferedBits) → 0 < vec_len m.frames → TookNothing a b → b.position ≡ a.position → Sees a buffered_parts → GathersSome gathered limits m a g m b g
nothing_gathered gathered limits m a g b buffered_parts some nothing stays sees =
    let none : buffered_parts.position - buffered_parts.position ≡ 0 = omega arith in
    run_taken gathered limits m a g m g buffered_parts buffered_parts b (on_none gathered limits m buffered_parts g (λ closed. absurd (omega (arith, some, closed)))) sees
    (rw none (same_reading (gives (tt {0})) (any_bits 0) a (Ok (tt {0})) b no_bits nothing)) (omega (arith, stays))
  where
    no_bits : (p : ℕ) (r : List Bool) → reading (gives (tt {0})) p r ≡ reading (any_bits 0) p r
    no_bits p r =
        let here : BufferedBits = record { position = p; bits = r } in
        let zero : p - p ≡ 0 = omega arith in
        sym (subst (λ (n : ℕ). reading (any_bits n) p r ≡ Ok (tt, p, r)) zero (any_seen here here ([], refl, omega arith)))

-- a reader that took nothing before, and ran out of memory or lost its source
pub lost_then : {G : Type 0} (gathered : G → List Event → G → Type 0) (fails : G → Option Event → G → Type 0) (limits : Limits) (m : Machine) (a b : Reader) (buffered_parts : BufferedBits) (g : G) (fault : Fault) (c : Reader) (h : G) → TookNothing a b → Sees a buffered_parts → StopsOn gathered fails limits m buffered_parts g h → Lost b fault c → MissesEvents gathered fails limits m a g fault c h
lost_then gathered fails limits m a b buffered_parts g Read c h nothing sees stops lost = (loses_later a b c nothing.was_live nothing.goes_on lost, stops a sees)
lost_then gathered fails limits m a b buffered_parts g Memory c h nothing sees stops lost = (stops_later a b c nothing.was_live nothing.goes_on lost, stops a sees)
lost_then gathered fails limits m a b buffered_parts g (Refused reason bit) c h nothing sees stops lost = absurd lost
lost_then gathered fails limits m a b buffered_parts g Failed c h nothing sees stops lost = absurd lost
lost_then gathered fails limits m a b buffered_parts g Write c h nothing sees stops lost = absurd lost
lost_then gathered fails limits m a b buffered_parts g OutputTooLong c h nothing sees stops lost = absurd lost

-- a call that takes nothing failed before anything was gathered
pub nothing_lost : {G : Type 0} (gathered : G → List Event → G → Type 0) (fails : G → Option Event → G → Type 0) (limits : Limits) (m : Machine) (a : Reader) (g : G) (fault : Fault) (c : Reader) → a.live ≡ true → Why (gives (tt {0})) a fault c → MissesEvents gathered fails limits m a g fault c g
nothing_lost gathered fails limits m a g (Refused reason bit) c live w = (w.0, before_none gathered limits m a g (at reason bit) (λ k. absurd (w.1 k)))
nothing_lost gathered fails limits m a g Read c live w = (w, first_none gathered fails limits m a g)
nothing_lost gathered fails limits m a g Memory c live w = (w, first_none gathered fails limits m a g)
nothing_lost gathered fails limits m a g Failed c live w = absurd (dead a.live live w.0)
nothing_lost gathered fails limits m a g Write c live w = absurd w
nothing_lost gathered fails limits m a g OutputTooLong c live w = absurd w

-- the bits after those that were passed
pub passed_beyond : (a b : BufferedBits) (n : ℕ) → Passed a b → n ≡ b.position - a.position → beyond a n ≡ b
passed_beyond a b n p is =
    let place : a.position + n ≡ b.position = omega (arith, is, p.2) in
    let left : drop n a.bits ≡ b.bits = ap (drop n) p.1 ∙ drop_at p.0 b.bits n (omega (arith, is, p.2)) in
    rw (place, left) refl

pub passed_few : (a b : BufferedBits) → Passed a b → b.position - a.position ≤ length a.bits
passed_few a b p = omega (arith, p.2, ap length p.1, length-append p.0 b.bits)

-- ---- what is gathered up to a bit

pub up_to_none : {G : Type 0} (gathered : G → List Event → G → Type 0) (limits : Limits) (m : Machine) (a : BufferedBits) (g : G) (first : ℕ) → a.position ≡ first → (vec_len m.frames ≡ 0 → first % 8 ≡ 0) → GathersUpTo gathered limits m a g m first g
up_to_none gathered limits m a g first is aligned = (a, is, on_none gathered limits m a g (λ none. omega (arith, is, aligned none)))

up_to_here : {G : Type 0} (gathered : G → List Event → G → Type 0) (limits : Limits) (m : Machine) (a : BufferedBits) (g : G) (n : Machine) (first : ℕ) (h : G) (p : GathersUpTo gathered limits m a g n first h) → beyond a (first - a.position) ≡ p.0
up_to_here gathered limits m a g n first h p = passed_beyond a p.0 (first - a.position) p.2.passed (ap (λ (q : ℕ). q - a.position) (sym p.1))

pub up_to_both : {G : Type 0} (gathered : G → List Event → G → Type 0) (limits : Limits) (m : Machine) (a : BufferedBits) (g : G) (n : Machine) (first : ℕ) (h : G) (o : Machine) (after : ℕ) (k : G) → GathersUpTo gathered limits m a g n first h → GathersUpTo gathered limits n (beyond a (first - a.position)) h o after k → GathersUpTo gathered limits m a g o after k
up_to_both gathered limits m a g n first h o after k p q =
    (q.0, q.1, on_both gathered limits m a g n p.0 h o q.0 k p.2 (subst (λ (x : BufferedBits). GathersOn gathered limits n x h o q.0 k) (up_to_here gathered limits m a g n first h p) q.2))

-- the bit is not before the buffered bits, nor behind them, and outside of all blocks it begins a byte
pub up_to_there : {G : Type 0} (gathered : G → List Event → G → Type 0) (limits : Limits) (m : Machine) (a : BufferedBits) (g : G) (n : Machine) (first : ℕ) (h : G) → GathersUpTo gathered limits m a g n first h → (a.position ≤ first) × (first - a.position ≤ length a.bits) × (vec_len n.frames ≡ 0 → first % 8 ≡ 0)
up_to_there gathered limits m a g n first h p = (
  omega (arith, passed_forward a p.0 p.2.passed, p.1),
  omega (arith, passed_few a p.0 p.2.passed, p.1),
  λ none. omega (arith, on_aligned gathered limits m a g n p.0 h p.2 none, p.1),
)

pub up_to_step : {G : Type 0} (gathered : G → List Event → G → Type 0) (limits : Limits) (m : Machine) (a : BufferedBits) (g : G) (list : List ℕ) (found : Step) (n : Machine) (h : G) → StepsHere (step limits (machine_shown m)) limits.depth m a (Some found) n → a.position < bit_after found → Gathers gathered g (step_shown n list found) h → GathersUpTo gathered limits m a g n (bit_after found) h
up_to_step gathered limits m a g list found n h steps moves gathers = (steps.0, steps.1, on_step gathered limits m a g (step_shown n list found) n steps.0 h (steps.2 list) (omega (arith, moves, steps.1)) gathers)

pub stop_at_step : {G : Type 0} (gathered : G → List Event → G → Type 0) (fails : G → Option Event → G → Type 0) (limits : Limits) (m : Machine) (a : BufferedBits) (g : G) (list : List ℕ) (found : Step) (n : Machine) (h : G) → StepsHere (step limits (machine_shown m)) limits.depth m a (Some found) n → a.position < bit_after found → FailsAt fails g (step_shown n list found) h → StopsOn gathered fails limits m a g h
stop_at_step gathered fails limits m a g list found n h steps moves failed = stop_step gathered fails limits m a g (step_shown n list found) n steps.0 h (steps.2 list) (omega (arith, moves, steps.1)) failed

pub stop_behind : {G : Type 0} (gathered : G → List Event → G → Type 0) (fails : G → Option Event → G → Type 0) (limits : Limits) (m : Machine) (a : BufferedBits) (g : G) (n : Machine) (first : ℕ) (h k : G) → GathersUpTo gathered limits m a g n first h → StopsOn gathered fails limits n (beyond a (first - a.position)) h k → StopsOn gathered fails limits m a g k
stop_behind gathered fails limits m a g n first h k p later = stop_after gathered fails limits m a g n p.0 h k p.2 (subst (λ (x : BufferedBits). StopsOn gathered fails limits n x h k) (up_to_here gathered limits m a g n first h p) later)
