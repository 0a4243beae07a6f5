-- The events of an outlook are those of the steps of its stream.
use Rattle.std.proofs.Common.{◌≡◌, ℕ, ◌+◌, ◌*◌, ◌≤◌, ◌<◌, Bool, true, false, leb, List, [], ◌++◌, length, take, Some, None, Result, Ok, Err, refl, sym, ap, ◌∙◌, subst, arith, inl, inr}
use Rattle.std.specs.Prelude.{◌↔◌, if◌then◌else◌}
use Rattle.std.proofs.lemmas.Bool.{cases_lt, eqb-true}
use Rattle.std.proofs.lemmas.List.{take_all}
use Rattle.bit_grammar.specs.declared.reason.Reason.TheVariants.{WrapperSize}
use Rattle.bit_grammar.specs.Bits.{bits_of_bytes}
use Rattle.bit_grammar.specs.Grammar.{Fault, at, Spells, reading}
use Rattle.bit_grammar.specs.Fields.{fixed}
use Rattle.bit_grammar.specs.Forest.{wrapper_magic}
use Rattle.bit_grammar.specs.Blocks.{Limits}
use Rattle.bit_grammar.specs.Marks.{Item, Marks, marks_of}
use Rattle.bit_grammar.specs.Whole.{SpellsAll, and_all}
use Rattle.bit_grammar.specs.Input.{wrapper_and_gap, inner_magic, is_wrapped, front_of, is_closed, cut_fault, top_blocks, stream, wrapped, input, SpellsInput}
use Rattle.bit_grammar.specs.Terms.{Wrapper, Head, Marked}
use Rattle.bit_grammar.specs.Machine.{Event, flat, Ending, accepted, broke, at_start, Told, to_come}
use Rattle.bit_grammar.specs.Steps.{Steps, IsNested, all_values_told}
use Rattle.bit_grammar.specs.Outlook.{Outlook, ending_by, end_of_few, cut_end, same_fault, told_wrapped, told_input, outlook}
use Rattle.bit_grammar.specs.Happening.{Heads, bare, in_wrapper, EventsIn, HasEvents}
use Rattle.bit_grammar.proofs.Readings.Deciding.{reads, is_spelled}
use Rattle.bit_grammar.proofs.Readings.Wholes.{is_le, is_not_le}
use Rattle.bit_grammar.proofs.Events.Steps.{steps_come, told_steps, spelled_steps}
use Rattle.bit_grammar.proofs.Events.Nesting.{nested_from_start, values_from_start}

-- the outlook has these events, with some end
abbrev Tells : Outlook → Head → List Event → Type 0
Tells told head events = (ending : Ending) × (told ≡ Ok (head, (events, ending)))

told_is : (a b : Head × Told) → ◌≡◌ {A = Outlook} (Ok a) (Ok b) → a ≡ b
told_is a b e = cc

no_fault : (a : Head × Told) (fault : Fault) → ◌≡◌ {A = Outlook} (Err fault) (Ok a) → ⊥
no_fault a fault e = absurd cc

-- a first part is read, and then the events of the rest are found
tells_after : {X : Type 0} (first : Result (X × ℕ × List Bool) Fault) (after : X → ℕ → List Bool → Outlook) (head : Head) (events : List Event) → Tells (and_all first after) head events → (v : X × ℕ × List Bool) × (first ≡ Ok v) × Tells (after v.0 v.1 v.2) head events
tells_after (Ok v) after head events h = (v, refl, h)
tells_after (Err fault) after head events h = absurd (no_fault _ fault h.1)

-- another end changes no event
tells_by : (end : Ending → Ending) (fault_by : Fault → Fault) (told : Outlook) (head : Head) (events : List Event) → Tells (ending_by end fault_by told) head events → Tells told head events
tells_by end fault_by (Ok x) head events h = (let same = told_is _ _ h.1 in (x.1.1, ap Ok (let e : ◌≡◌ {A = Head × Told} (x.0, (x.1.0, x.1.1)) (head, (events, x.1.1)) = rw (ap (λ (y : Head × Told). y.0) same, ap (λ (y : Head × Told). y.1.0) same) refl in e)))
tells_by end fault_by (Err fault) head events h = absurd (no_fault _ _ h.1)

by_tells : (end : Ending → Ending) (fault_by : Fault → Fault) (told : Outlook) (head : Head) (events : List Event) → Tells told head events → Tells (ending_by end fault_by told) head events
by_tells end fault_by told head events h = (end h.0, ap (ending_by end fault_by) h.1)

-- the remaining events after a head
tells_steps : (limits : Limits) (made head : Head) (q : ℕ) (rest : List Bool) (events : List Event) → Tells (Ok (made, to_come limits at_start q rest)) head events → (made ≡ head) × ((ending : Ending) × Steps limits at_start q rest events ending)
tells_steps limits made head q rest events h = (let same = told_is _ _ h.1 in (ap (λ (y : Head × Told). y.0) same, (h.0, told_steps limits at_start q rest events h.0 tt (ap (λ (y : Head × Told). y.1) same))))

steps_tell : (limits : Limits) (made head : Head) (q : ℕ) (rest : List Bool) (events : List Event) (ending : Ending) → made ≡ head → Steps limits at_start q rest events ending → Tells (Ok (made, to_come limits at_start q rest)) head events
steps_tell limits made head q rest events ending same h = (ending, rw (same, steps_come limits at_start q rest events ending tt h) refl)

-- ---- from the outlook

abbrev pub in_a_wrapper : Limits → Wrapper → ℕ → List Bool → Outlook
in_a_wrapper limits w q rest = and_all (reading inner_magic q (take (8 * w.size) rest)) λ magic q' rest'. Ok (record { magic = magic; wrapper = Some w }, to_come limits at_start q' rest')

wrapped_events : (limits : Limits) (bits front : List Bool) (rest : List Bool) (head : Head) (events : List Event) → bits ≡ front ++ rest → Spells (fixed 32) 0 front wrapper_magic → Tells (told_wrapped limits (length front) rest) head events → EventsIn limits bits head events
wrapped_events limits bits front rest head events parts spelled h =
    let one = tells_after (reading wrapper_and_gap (length front) rest) _ head events h in
    let w = one.0.0 in
    let f = is_spelled wrapper_and_gap (length front) rest w one.0.1 one.0.2 one.1 in
    let inner = tells_by _ _ (in_a_wrapper limits w one.0.1 one.0.2) head events one.2 in
    let two = tells_after (reading inner_magic one.0.1 (take (8 * w.size) one.0.2)) _ head events inner in
    let g = is_spelled inner_magic one.0.1 (take (8 * w.size) one.0.2) two.0.0 two.0.1 two.0.2 two.1 in
    let s = tells_steps limits _ head two.0.1 two.0.2 events two.2 in
    let magic : two.0.0 ≡ head.magic = ap (λ (x : Head). x.magic) s.0 in
    let has : Some w ≡ head.wrapper = ap (λ (x : Head). x.wrapper) s.0 in
    let at_magic = subst (λ (n : ℕ). Spells inner_magic n g.0 two.0.0) f.2 g.3 in
    (two.0.1, two.0.2, s.1.0, in_wrapper w front f.0 one.0.2 g.0 (parts ∙ ap (λ (t : List Bool). front ++ t) f.1) spelled f.3 g.1 (subst (Spells inner_magic (length front + length f.0) g.0) magic at_magic) (sym has) (omega (arith, f.2, g.2)), s.1.1)

told_events : (limits : Limits) (bits : List Bool) (head : Head) (events : List Event) → Tells (told_input limits 0 bits) head events → EventsIn limits bits head events
told_events limits bits head events h =
    let one = tells_after (reading (fixed 32) 0 bits) _ head events h in
    let f = is_spelled (fixed 32) 0 bits one.0.0 one.0.1 one.0.2 one.1 in
    let place : one.0.1 ≡ length f.0 = omega (arith, f.2) in
    by_magic (is_wrapped one.0.0) f.0 one.0.0 one.0.1 one.0.2 refl f.1 place f.3 one.2
  where
    by_magic : (b : Bool) (front : List Bool) (magic q : ℕ) (rest : List Bool) → is_wrapped magic ≡ b → bits ≡ front ++ rest → q ≡ length front → Spells (fixed 32) 0 front magic
        → Tells (if b then told_wrapped limits q rest else Ok (record { magic = magic; wrapper = None }, to_come limits at_start q rest)) head events → EventsIn limits bits head events
    by_magic true front magic q rest is parts place spelled h =
        wrapped_events limits bits front rest head events parts (subst (Spells (fixed 32) 0 front) (eqb-true magic wrapper_magic is) spelled) (subst (λ (n : ℕ). Tells (told_wrapped limits n rest) head events) place h)
    by_magic false front magic q rest is parts place spelled h =
        let s = tells_steps limits _ head q rest events h in
        let same : magic ≡ head.magic = ap (λ (x : Head). x.magic) s.0 in
        let none : None ≡ head.wrapper = ap (λ (x : Head). x.wrapper) s.0 in
        (q, rest, s.1.0, bare front parts (subst (Spells (fixed 32) 0 front) same spelled) (subst (λ (n : ℕ). is_wrapped n ≡ false) same is) (sym none) place, s.1.1)

-- ---- and to the outlook

and_read : {X : Type 0} (first : Result (X × ℕ × List Bool) Fault) (v : X × ℕ × List Bool) (after : X → ℕ → List Bool → Outlook) (head : Head) (events : List Event) → first ≡ Ok v → Tells (after v.0 v.1 v.2) head events → Tells (and_all first after) head events
and_read first v after head events e h = subst (λ (x : Result _ Fault). Tells (and_all x after) head events) (sym e) h

events_told : (limits : Limits) (bits : List Bool) (head : Head) (events : List Event) (p : ℕ) (r : List Bool) (ending : Ending) → Heads bits head p r → Steps limits at_start p r events ending → Tells (told_input limits 0 bits) head events
events_told limits bits head events p r ending (bare magic parts spelled is none place) h =
    let read : reading (fixed 32) 0 bits ≡ Ok (head.magic, length magic, r) = ap (reading (fixed 32) 0) parts ∙ reads (fixed 32) 0 magic head.magic r spelled ∙ ap (λ (n : ℕ). Ok (head.magic, n, r)) (omega arith) in
    let made : ◌≡◌ {A = Head} (record { magic = head.magic; wrapper = None }) (record { magic = head.magic; wrapper = head.wrapper }) = rw none refl in
    and_read (reading (fixed 32) 0 bits) (head.magic, length magic, r) _ head events read
    (rw is (steps_tell limits (record { magic = head.magic; wrapper = None }) head (length magic) r events ending made (subst (λ (n : ℕ). Steps limits at_start n r events ending) place h)))
events_told limits bits head events p r ending (in_wrapper w front header rest magic parts spelled gap within inner has place) h =
    let read : reading (fixed 32) 0 bits ≡ Ok (wrapper_magic, length front, header ++ rest) = ap (reading (fixed 32) 0) parts ∙ reads (fixed 32) 0 front wrapper_magic (header ++ rest) spelled ∙ ap (λ (n : ℕ). Ok (wrapper_magic, n, header ++ rest)) (omega arith) in
    let one = reads wrapper_and_gap (length front) header w rest gap in
    let two = ap (reading inner_magic (length front + length header)) within ∙ reads inner_magic (length front + length header) magic head.magic r inner in
    let made : ◌≡◌ {A = Head} (record { magic = head.magic; wrapper = Some w }) (record { magic = head.magic; wrapper = head.wrapper }) = rw has refl in
    let blocks = steps_tell limits (record { magic = head.magic; wrapper = Some w }) head (length front + length header + length magic) r events ending made (subst (λ (n : ℕ). Steps limits at_start n r events ending) place h) in
    and_read (reading (fixed 32) 0 bits) (wrapper_magic, length front, header ++ rest) _ head events read
    (and_read (reading wrapper_and_gap (length front) (header ++ rest)) (w, length front + length header, rest) _ head events one
    (by_tells (end_of_few (leb (8 * w.size) (length rest)) (at WrapperSize 96)) same_fault (in_a_wrapper limits w (length front + length header) rest) head events
    (and_read (reading inner_magic (length front + length header) (take (8 * w.size) rest)) (head.magic, length front + length header + length magic, r) _ head events two blocks)))

-- ---- the limit on bytes

all_taken : (limits : Limits) (bytes : List ℕ) → length bytes ≤ limits.bytes → front_of limits bytes ≡ bits_of_bytes bytes
all_taken limits bytes fits = ap bits_of_bytes (take_all limits.bytes bytes fits)

outlook_within : (limits : Limits) (bytes : List ℕ) → length bytes ≤ limits.bytes → outlook limits bytes ≡ told_input limits 0 (front_of limits bytes)
unfolding outlook
outlook_within limits bytes fits = rw (is_le (length bytes) limits.bytes fits, all_taken limits bytes fits) refl

outlook_past : (limits : Limits) (bytes : List ℕ) → limits.bytes < length bytes → outlook limits bytes ≡ ending_by (cut_end limits (is_closed limits bytes)) (cut_fault limits (is_closed limits bytes)) (told_input limits 0 (front_of limits bytes))
unfolding outlook
outlook_past limits bytes long = rw (is_not_le (length bytes) limits.bytes long) refl

has_events : (limits : Limits) (bytes : List ℕ) (head : Head) (events : List Event) → Tells (outlook limits bytes) head events → HasEvents limits bytes head events
has_events limits bytes head events h =
    told_events limits (front_of limits bytes) head events (elim (cases_lt limits.bytes (length bytes)) [
      | inl long ↦ tells_by (cut_end limits (is_closed limits bytes)) (cut_fault limits (is_closed limits bytes)) _ head events (subst (λ (x : Outlook). Tells x head events) (outlook_past limits bytes long) h)
      | inr fits ↦ subst (λ (x : Outlook). Tells x head events) (outlook_within limits bytes fits) h
    ])

events_had : (limits : Limits) (bytes : List ℕ) (head : Head) (events : List Event) → HasEvents limits bytes head events → Tells (outlook limits bytes) head events
events_had limits bytes head events h =
    let told = events_told limits (front_of limits bytes) head events h.0 h.1 h.2 h.3 h.4 in
    elim (cases_lt limits.bytes (length bytes)) [
      | inl long ↦ subst (λ (x : Outlook). Tells x head events) (sym (outlook_past limits bytes long)) (by_tells (cut_end limits (is_closed limits bytes)) (cut_fault limits (is_closed limits bytes)) (told_input limits 0 (front_of limits bytes)) head events told)
      | inr fits ↦ subst (λ (x : Outlook). Tells x head events) (sym (outlook_within limits bytes fits)) told
    ]

pub events_if_told : (limits : Limits) (bytes : List ℕ) (head : Head) (events : List Event) → (HasEvents limits bytes head events ↔ ((ending : Ending) × (outlook limits bytes ≡ Ok (head, (events, ending)))))
events_if_told limits bytes head events = (events_had limits bytes head events, has_events limits bytes head events)

-- ---- properties of the events

pub input_nested : (limits : Limits) (bytes : List ℕ) (head : Head) (events : List Event) → HasEvents limits bytes head events → ((left : ℕ) × (left ≤ limits.depth) × IsNested limits.depth 0 events left) × (all_values_told events ≤ limits.values)
input_nested limits bytes head events (p, r, accepted q, heads, h) = ((0, omega arith, nested_from_start limits p r events (accepted q) h), values_from_start limits p r events (accepted q) h)
input_nested limits bytes head events (p, r, broke fault, heads, h) = (nested_from_start limits p r events (broke fault) h, values_from_start limits p r events (broke fault) h)

-- blocks that an input spells are those of a stream in it
abbrev Streamed : Limits → Marked → Type 0
Streamed limits m = (p : ℕ) × (r : List Bool) × (v : List Item × ℕ) × SpellsAll (top_blocks limits) p r v × (m.blocks ≡ marks_of v.0)

stream_spelled : (limits : Limits) (head : Head) (p : ℕ) (r : List Bool) (m : Marked) → SpellsAll (stream limits head) p r m → Streamed limits m
unfolding stream
stream_spelled limits head p r m k = (p, r, k.0, k.1, ap (λ (x : Marked). x.blocks) k.2)

input_spelled : (limits : Limits) (p : ℕ) (r : List Bool) (m : Marked) → SpellsAll (input limits) p r m → Streamed limits m
unfolding input wrapped
input_spelled limits p r m (front, others, magic, parts, spelled, inl k) = (let j = k.1.5.4 in stream_spelled limits _ _ j.1 m j.5)
input_spelled limits p r m (front, others, magic, parts, spelled, inr k) = stream_spelled limits _ _ others m k.1

pub accepted_nested : (limits : Limits) (bytes : List ℕ) (m : Marked) → SpellsInput limits bytes m → IsNested limits.depth 0 (flat m.blocks []) 0
accepted_nested limits bytes m h =
    let s = input_spelled limits 0 (bits_of_bytes bytes) m h.spelled in
    subst (λ (x : Marks). IsNested limits.depth 0 (flat x []) 0) (sym s.4) (nested_from_start limits s.0 s.1 (flat (marks_of s.2.0) []) (accepted s.2.1) (spelled_steps limits s.0 s.1 s.2 s.3))
