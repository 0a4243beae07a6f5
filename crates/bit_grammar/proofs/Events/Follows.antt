-- The machine finds what the grammar reads: the events of its tree, and its fault.
use Rattle.std.proofs.Common.{◌≡◌, ℕ, zero, suc, ◌+◌, ◌<◌, ◌≤◌, Bool, true, false, ltb, eqb, List, [], ◌∷◌, length, Result, Ok, Err, refl, sym, ap, subst, ◌∙◌, arith}
use Rattle.std.specs.Prelude.{is_none, if◌then◌else◌}
use Rattle.std.proofs.lemmas.Bool.{lt-ltb, le-ltb}
use Rattle.std.proofs.lemmas.List.{length-append}
use Rattle.bit_grammar.specs.declared.reason.Reason.TheVariants.{Truncated, TopLevel, NestedInBlockInfo}
use Rattle.bit_grammar.specs.Grammar.{Fault, at, Round, one_more, last, judge, ◌and_then◌, one_in_front, after_round, go_round, reading}
use Rattle.bit_grammar.specs.Fields.{fixed}
use Rattle.bit_grammar.specs.Marks.{Marks, no_marks, Item, block_item, record_item, definition_item, item_then, marks_of}
use Rattle.bit_grammar.specs.Blocks.{Limits, Handed, Scope, nothing_handed, BlockHead, block_head, end_of_block, define, record_after, nested, item_after, item, block, top_block, enter}
use Rattle.bit_grammar.specs.Whole.{SpellsAll, StopsAll, and_all}
use Rattle.bit_grammar.specs.Input.{top_blocks}
use Rattle.bit_grammar.specs.Machine.{Event, enters, leaves, flat, Frame, Machine, frame_of, inside, outside, at_start, open_block, open_nested, step_after, step_in, step_top, accepted, broke, Told, told_of_step, to_come}
use Rattle.bit_grammar.specs.Steps.{AreWide}
use Rattle.bit_grammar.proofs.Readings.Deciding.{is_spelled}
use Rattle.bit_grammar.proofs.Readings.Wholes.{reads_all, breaks_all}
use Rattle.bit_grammar.proofs.Readings.Items.{item_takes, top_takes, head_width}
use Rattle.bit_grammar.proofs.Events.Machines.{comes, Step}
use Rattle.bit_grammar.proofs.Readings.Readers.{before_all, after_thing, go_things, reading_all}

abbrev Reading : Type 0 → Type 0
Reading A = Result (A × ℕ × List Bool) Fault

-- events, given what follows them
abbrev Front : Type 0
Front = List Event → List Event

abbrev put_before : Front → Told → Told
put_before front told = (front told.0, told.1)

-- The remaining events are those of the value that is read and then those that follow, or they end with the fault that is read.
abbrev Follows : {X : Type 0} → Told → Reading X → (X → Front) → (X → ℕ → List Bool → Told) → Type 0
Follows told (Ok x) events next = told ≡ put_before (events x.0) (next x.0 x.1 x.2)
Follows told (Err fault) events next = told.1 ≡ broke fault

abbrev Coming : Type 0
Coming = Machine → ℕ → List Bool → Told

-- a first part of both
both : {A X : Type 0} (others : Coming) (first : Reading A) (f : A × ℕ × List Bool → Step) (g : A × ℕ × List Bool → Reading X) (events : X → Front) (next : X → ℕ → List Bool → Told)
    → ((x : A × ℕ × List Bool) → first ≡ Ok x → Follows (told_of_step others (f x)) (g x) events next) → Follows (told_of_step others (first and_then f)) (first and_then g) events next
both others (Ok x) f g events next more = more x refl
both others (Err fault) f g events next more = refl

-- one of two rules, by the same test
chosen : {X : Type 0} (others : Coming) (test : Bool) (f f' : Step) (g g' : Reading X) (events : X → Front) (next : X → ℕ → List Bool → Told)
    → Follows (told_of_step others f) g events next → Follows (told_of_step others f') g' events next → Follows (told_of_step others (if test then f else f')) (if test then g else g') events next
chosen others true f f' g g' events next a b = a
chosen others false f f' g g' events next a b = b

-- a function of the value
made : {X Y : Type 0} (told : Told) (read : Reading X) (f : X → Y) (events : X → Front) (next : X → ℕ → List Bool → Told) (events' : Y → Front) (next' : Y → ℕ → List Bool → Told)
    → ((x : X) (q : ℕ) (rest : List Bool) → put_before (events x) (next x q rest) ≡ put_before (events' (f x)) (next' (f x) q rest))
    → Follows told read events next → Follows told (read and_then λ x. Ok (f x.0, x.1, x.2)) events' next'
made told (Ok x) f events next events' next' same h = h ∙ same x.0 x.1 x.2
made told (Err fault) f events next events' next' same h = h

-- ---- items

abbrev item_events : Item → Front
item_events x = flat (item_then x no_marks)

flat_then : (x : Item) (rest : Marks) (following : List Event) → flat (item_then x rest) following ≡ item_events x (flat rest following)
flat_then (block_item mark inner) rest following = refl
flat_then (record_item mark) rest following = refl
flat_then (definition_item mark) rest following = refl

abbrev round_events : Round Scope Item (ℕ × Handed) → Front
round_events (one_more x t) = item_events x
round_events (last e) = λ following. leaves e.0 ∷ following

abbrev round_next : Coming → BlockHead → List Frame → Round Scope Item (ℕ × Handed) → ℕ → List Bool → Told
round_next others h frames (one_more x t) = others (inside h frames t)
round_next others h frames (last e) = others (record { frames = frames; handed = e.1 })

abbrev block_events : Item × Handed → Front
block_events v = item_events v.0

abbrev block_next : Coming → List Frame → Item × Handed → ℕ → List Bool → Told
block_next others frames v = others (record { frames = frames; handed = v.1 })

abbrev nested_events : Item × Scope → Front
nested_events v = item_events v.0

abbrev nested_next : Coming → BlockHead → List Frame → Item × Scope → ℕ → List Bool → Told
nested_next others h frames v = others (inside h frames v.1)

abbrev body_events : List Item × (ℕ × Handed) → Front
body_events v following = flat (marks_of v.0) (leaves v.1.0 ∷ following)

abbrev body_next : Coming → List Frame → List Item × (ℕ × Handed) → ℕ → List Bool → Told
body_next others frames v = others (record { frames = frames; handed = v.1.1 })

-- the hypothesis for the blocks within
abbrev Within : Limits → ℕ → Type 0
Within limits depth = (frames : List Frame) (first : ℕ) (handed : Handed) (q : ℕ) (rest : List Bool) → AreWide frames → depth + length frames ≡ limits.depth
    → Follows (told_of_step (to_come limits) (reading (open_block limits frames first handed) q rest)) (reading (block limits.shapes depth limits.values first handed) q rest) block_events (block_next (to_come limits) frames)

nested_follows : (limits : Limits) (depth : ℕ) → Within limits depth → (h : BlockHead) (frames : List Frame) → 1 ≤ h.width → AreWide frames → depth + suc (length frames) ≡ limits.depth
    → (first : ℕ) (scope : Scope) (q : ℕ) (rest : List Bool)
    → Follows (told_of_step (to_come limits) (reading (open_nested limits h frames first scope) q rest))
    (reading (nested (block limits.shapes depth limits.values) first scope) q rest and_then λ x. Ok (one_more x.0.0 x.0.1, x.1, x.2)) round_events (round_next (to_come limits) h frames)
unfolding open_nested nested
nested_follows limits depth inner h frames one wide deep first scope q rest =
    made _ (reading (nested (block limits.shapes depth limits.values) first scope) q rest) (λ v. one_more v.0 v.1) nested_events (nested_next (to_come limits) h frames) round_events (round_next (to_come limits) h frames) (λ v q' rest'. refl)
    (both (to_come limits) (reading (judge (is_none scope.info) NestedInBlockInfo first) q rest) _ _ nested_events (nested_next (to_come limits) h frames) (λ x e.
    made _ (reading (block limits.shapes depth limits.values first scope.handed) x.1 x.2) (λ v. (v.0, record scope { handed = v.1 })) block_events (block_next (to_come limits) (frame_of h scope ∷ frames)) nested_events (nested_next (to_come limits) h frames) (λ v q' rest'. refl)
    (inner (frame_of h scope ∷ frames) first scope.handed x.1 x.2 (one, wide) deep)))

after_follows : (limits : Limits) (depth : ℕ) → Within limits depth → (h : BlockHead) (frames : List Frame) → 1 ≤ h.width → AreWide frames → depth + suc (length frames) ≡ limits.depth
    → (first : ℕ) (scope : Scope) (id q : ℕ) (rest : List Bool)
    → Follows (told_of_step (to_come limits) (reading (step_after limits h frames first scope id) q rest)) (reading (item_after limits.shapes (block limits.shapes depth limits.values) h limits.values first scope id) q rest) round_events (round_next (to_come limits) h frames)
unfolding step_after item_after
after_follows limits depth inner h frames one wide deep first scope id q rest =
    let events = round_events in
    let next = round_next (to_come limits) h frames in
    chosen (to_come limits) (eqb id 0) _ _ _ _ events next (both (to_come limits) (reading (end_of_block h) q rest) _ _ events next (λ x e. refl))
    (chosen (to_come limits) (eqb id 1) _ _ _ _ events next (nested_follows limits depth inner h frames one wide deep first scope q rest)
    (chosen (to_come limits) (eqb id 2) _ _ _ _ events next (both (to_come limits) (reading (define limits.shapes first scope) q rest) _ _ events next (λ x e. refl))
    (both (to_come limits) (reading (record_after limits.values first id scope) q rest) _ _ events next (λ x e. refl))))

item_follows : (limits : Limits) (depth : ℕ) → Within limits depth → (h : BlockHead) (frames : List Frame) → 1 ≤ h.width → AreWide frames → depth + suc (length frames) ≡ limits.depth
    → (scope : Scope) (p : ℕ) (r : List Bool) → Follows (to_come limits (inside h frames scope) p r) (reading (item limits.shapes (block limits.shapes depth limits.values) h limits.values scope) p r) round_events (round_next (to_come limits) h frames)
unfolding item step_in
item_follows limits depth inner h frames one wide deep scope p r =
    rw (comes limits (inside h frames scope) p r (one, wide) refl)
    (both (to_come limits) (reading (fixed h.width) p r) _ _ round_events (round_next (to_come limits) h frames) (λ x e. after_follows limits depth inner h frames one wide deep p scope x.0 x.1 x.2))

-- one more item, and those after it
more_follows : (x : Item) (told other : Told) (read : Reading (List Item × (ℕ × Handed))) (others : Coming) (frames : List Frame) → told ≡ put_before (item_events x) other → Follows other read body_events (body_next others frames)
    → Follows told (one_in_front x read) body_events (body_next others frames)
more_follows x told other (Ok v) others frames e h =
    e ∙ ap (put_before (item_events x)) h ∙ ap (λ (events : List Event). (events, (body_next others frames v.0 v.1 v.2).1)) (sym (flat_then x (marks_of v.0.0) _))
more_follows x told other (Err fault) others frames e h = ap (λ (t : Told). t.1) e ∙ h

body_follows : (limits : Limits) (depth : ℕ) → Within limits depth → (h : BlockHead) (frames : List Frame) → 1 ≤ h.width → AreWide frames → depth + suc (length frames) ≡ limits.depth
    → (idle : Fault) (n : ℕ) (scope : Scope) (p : ℕ) (r : List Bool) → length r < n
    → Follows (to_come limits (inside h frames scope) p r) (go_round idle (λ scope p r. reading (item limits.shapes (block limits.shapes depth limits.values) h limits.values scope) p r) n scope p r) body_events (body_next (to_come limits) frames)
body_follows limits depth inner h frames one wide deep idle zero scope p r lt = absurd (omega (arith, lt))
body_follows limits depth inner h frames one wide deep idle (suc n) scope p r lt =
    go (reading (item limits.shapes (block limits.shapes depth limits.values) h limits.values scope) p r) refl (item_follows limits depth inner h frames one wide deep scope p r) (λ t q rest shorter. body_follows limits depth inner h frames one wide deep idle n t q rest shorter)
  where
    read_others : Scope → ℕ → List Bool → Reading (List Item × (ℕ × Handed))
    read_others = go_round idle (λ scope p r. reading (item limits.shapes (block limits.shapes depth limits.values) h limits.values scope) p r) n

    by_round : (round : Round Scope Item (ℕ × Handed)) (q : ℕ) (rest : List Bool) → (length rest < n) × (ltb p q ≡ true)
        → to_come limits (inside h frames scope) p r ≡ put_before (round_events round) (round_next (to_come limits) h frames round q rest)
        → ((t : Scope) (q : ℕ) (rest : List Bool) → length rest < n → Follows (to_come limits (inside h frames t) q rest) (go_round idle (λ scope p r. reading (item limits.shapes (block limits.shapes depth limits.values) h limits.values scope) p r) n t q rest) body_events (body_next (to_come limits) frames))
        → Follows (to_come limits (inside h frames scope) p r) (after_round idle p (go_round idle (λ scope p r. reading (item limits.shapes (block limits.shapes depth limits.values) h limits.values scope) p r) n) round q rest) body_events (body_next (to_come limits) frames)
    by_round (one_more x t) q rest less told more =
        rw less.1 (more_follows x _ _ (go_round idle (λ scope p r. reading (item limits.shapes (block limits.shapes depth limits.values) h limits.values scope) p r) n t q rest) (to_come limits) frames told (more t q rest less.0))
    by_round (last e') q rest less told more = told

    shorter : (x : Round Scope Item (ℕ × Handed)) (q : ℕ) (rest : List Bool) → reading (item limits.shapes (block limits.shapes depth limits.values) h limits.values scope) p r ≡ Ok (x, q, rest) → (length rest < n) × (ltb p q ≡ true)
    shorter x q rest e =
        let f = is_spelled (item limits.shapes (block limits.shapes depth limits.values) h limits.values scope) p r x q rest e in
        let takes = item_takes limits.shapes (block limits.shapes depth limits.values) h limits.values scope p f.0 x f.3 in
        (omega (arith, lt, one, takes, ap length f.1, length-append f.0 rest), lt-ltb p q (omega (arith, one, takes, f.2)))

    go : (read : Reading (Round Scope Item (ℕ × Handed))) → reading (item limits.shapes (block limits.shapes depth limits.values) h limits.values scope) p r ≡ read
        → Follows (to_come limits (inside h frames scope) p r) read round_events (round_next (to_come limits) h frames)
        → ((t : Scope) (q : ℕ) (rest : List Bool) → length rest < n → Follows (to_come limits (inside h frames t) q rest) (go_round idle (λ scope p r. reading (item limits.shapes (block limits.shapes depth limits.values) h limits.values scope) p r) n t q rest) body_events (body_next (to_come limits) frames))
        → Follows (to_come limits (inside h frames scope) p r) (read and_then λ x. after_round idle p (go_round idle (λ scope p r. reading (item limits.shapes (block limits.shapes depth limits.values) h limits.values scope) p r) n) x.0 x.1 x.2) body_events (body_next (to_come limits) frames)
    go (Ok x) e told more = by_round x.0 x.1 x.2 (shorter x.0 x.1 x.2 e) told more
    go (Err fault) e told more = told

-- ---- blocks

-- a block's body, and the block that is made of it
closed_follows : (h : BlockHead) (first : ℕ) (told : Told) (read : Reading (List Item × (ℕ × Handed))) (others : Coming) (frames : List Frame) → Follows told read body_events (body_next others frames)
    → Follows (put_before (λ following. enters (record { id = h.id; width = h.width; first = first; body = h.body }) ∷ following) told)
    (read and_then λ body. Ok ((block_item (record { id = h.id; width = h.width; first = first; body = h.body; after = body.0.1.0 }) (marks_of body.0.0), body.0.1.1), body.1, body.2))
    block_events (block_next others frames)
closed_follows h first told (Ok x) others frames e = ap (put_before (λ following. enters (record { id = h.id; width = h.width; first = first; body = h.body }) ∷ following)) e
closed_follows h first told (Err fault) others frames e = e

pub block_follows : (limits : Limits) (depth : ℕ) → Within limits depth
unfolding block open_block
block_follows limits zero frames first handed q rest wide deep =
    let none_left : ltb (length frames) limits.depth ≡ false = le-ltb _ _ (omega (arith, deep)) in
    rw none_left refl
block_follows limits (suc depth) frames first handed q rest wide deep =
    let open_more : ltb (length frames) limits.depth ≡ true = lt-ltb _ _ (omega (arith, deep)) in
    rw open_more
    (both (to_come limits) (reading block_head q rest) _ _ block_events (block_next (to_come limits) frames) (λ x e.
    let f = is_spelled block_head q rest x.0 x.1 x.2 e in
    let one = head_width q f.0 x.0 f.3 in
    let idle = at Truncated x.0.body in
    closed_follows x.0 first _ (go_round idle (λ scope p r. reading (item limits.shapes (block limits.shapes depth limits.values) x.0 limits.values scope) p r) (suc (length x.2)) (enter x.0.id handed) x.1 x.2) (to_come limits) frames
    (body_follows limits depth (block_follows limits depth) x.0 frames one wide (omega (arith, deep)) idle (suc (length x.2)) (enter x.0.id handed) x.1 x.2 (omega arith))))

-- ---- the stream

-- the events of the blocks and acceptance, or an end with the fault
abbrev pub Tells : Told → Result (List Item × ℕ) Fault → Type 0
Tells told (Ok v) = told ≡ (flat (marks_of v.0) [], accepted v.1)
Tells told (Err fault) = told.1 ≡ broke fault

top_follows : (limits : Limits) (handed : Handed) (p : ℕ) (b : Bool) (bits : List Bool)
    → Follows (to_come limits (outside handed) p (b ∷ bits)) (reading (top_block limits handed) p (b ∷ bits)) block_events (block_next (to_come limits) [])
unfolding top_block step_top
top_follows limits handed p b bits =
    rw (comes limits (outside handed) p (b ∷ bits) tt refl)
    (both (to_come limits) (reading (fixed 2) p (b ∷ bits)) _ _ block_events (block_next (to_come limits) []) (λ x e.
    both (to_come limits) (reading (judge (eqb x.0 1) TopLevel p) x.1 x.2) _ _ block_events (block_next (to_come limits) []) (λ y e'.
    block_follows limits limits.depth [] p handed y.1 y.2 tt (omega arith))))

told_more : (x : Item) (told other : Told) (read : Result (List Item × ℕ) Fault) → told ≡ put_before (item_events x) other → Tells other read → Tells told (before_all x read)
told_more x told other (Ok v) e h = e ∙ ap (put_before (item_events x)) h ∙ ap (λ (events : List Event). (events, accepted v.1)) (sym (flat_then x (marks_of v.0) []))
told_more x told other (Err fault) e h = ap (λ (t : Told). t.1) e ∙ h

things_follow : (limits : Limits) (idle : Fault) (n : ℕ) (handed : Handed) (p : ℕ) (r : List Bool) → length r ≤ n → Tells (to_come limits (outside handed) p r) (go_things idle (λ handed p r. reading (top_block limits handed) p r) n handed p r)
unfolding to_come
things_follow limits idle n handed p [] le = refl
things_follow limits idle zero handed p (b ∷ bits) le = absurd (omega (arith, le))
things_follow limits idle (suc n) handed p (b ∷ bits) le =
    go (reading (top_block limits handed) p (b ∷ bits)) refl (top_follows limits handed p b bits) (λ t q rest shorter. things_follow limits idle n t q rest shorter)
  where
    shorter : (v : Item × Handed) (q : ℕ) (rest : List Bool) → reading (top_block limits handed) p (b ∷ bits) ≡ Ok (v, q, rest) → (length rest ≤ n) × (ltb p q ≡ true)
    shorter v q rest e =
        let f = is_spelled (top_block limits handed) p (b ∷ bits) v q rest e in
        let takes = top_takes limits handed p f.0 v f.3 in
        (omega (arith, le, takes, ap length f.1, length-append f.0 rest), lt-ltb p q (omega (arith, takes, f.2)))

    go_on : (x : Item × Handed) (q : ℕ) (rest : List Bool) → (length rest ≤ n) × (ltb p q ≡ true) → to_come limits (outside handed) p (b ∷ bits) ≡ put_before (block_events x) (block_next (to_come limits) [] x q rest)
        → ((t : Handed) (q : ℕ) (rest : List Bool) → length rest ≤ n → Tells (to_come limits (outside t) q rest) (go_things idle (λ handed p r. reading (top_block limits handed) p r) n t q rest))
        → Tells (to_come limits (outside handed) p (b ∷ bits)) (after_thing idle p (go_things idle (λ handed p r. reading (top_block limits handed) p r) n) x q rest)
    go_on x q rest less told more = rw less.1 (told_more x.0 _ _ (go_things idle (λ handed p r. reading (top_block limits handed) p r) n x.1 q rest) told (more x.1 q rest less.0))

    go : (read : Reading (Item × Handed)) → reading (top_block limits handed) p (b ∷ bits) ≡ read → Follows (to_come limits (outside handed) p (b ∷ bits)) read block_events (block_next (to_come limits) [])
        → ((t : Handed) (q : ℕ) (rest : List Bool) → length rest ≤ n → Tells (to_come limits (outside t) q rest) (go_things idle (λ handed p r. reading (top_block limits handed) p r) n t q rest))
        → Tells (to_come limits (outside handed) p (b ∷ bits)) (and_all read (after_thing idle p (go_things idle (λ handed p r. reading (top_block limits handed) p r) n)))
    go (Ok x) e told more = go_on x.0 x.1 x.2 (shorter x.0 x.1 x.2 e) told more
    go (Err fault) e told more = told

-- The machine finds the events of the blocks that the grammar reads, or ends with its fault.
pub machine_tells : (limits : Limits) (p : ℕ) (r : List Bool) → Tells (to_come limits at_start p r) (reading_all (top_blocks limits) p r)
unfolding top_blocks
machine_tells limits p r = things_follow limits (at Truncated 0) (length r) nothing_handed p r (omega arith)

tells_by : (limits : Limits) (p : ℕ) (r : List Bool) (read : Result (List Item × ℕ) Fault) → reading_all (top_blocks limits) p r ≡ read → Tells (to_come limits at_start p r) read
tells_by limits p r read e = subst (λ (x : Result (List Item × ℕ) Fault). Tells (to_come limits at_start p r) x) e (machine_tells limits p r)

pub tells_spelled : (limits : Limits) (p : ℕ) (r : List Bool) (v : List Item × ℕ) → SpellsAll (top_blocks limits) p r v → to_come limits at_start p r ≡ (flat (marks_of v.0) [], accepted v.1)
tells_spelled limits p r v h = tells_by limits p r (Ok v) (reads_all (top_blocks limits) p r v h)

pub tells_stopped : (limits : Limits) (p : ℕ) (r : List Bool) (fault : Fault) → StopsAll (top_blocks limits) p r fault → (to_come limits at_start p r).1 ≡ broke fault
tells_stopped limits p r fault h = tells_by limits p r (Err fault) (breaks_all (top_blocks limits) p r fault h)
