-- The difference between the settings for shapes: if shapes are judged at the definition, more inputs are refused, with
-- AbbrevShape, and all else is the same.
use Rattle.std.proofs.Common.{◌≡◌, ◌⊎◌, ℕ, zero, suc, ◌+◌, ◌*◌, ◌<◌, ◌≤◌, Bool, true, false, List, [], ◌∷◌, ◌++◌, length, take, Some, None, refl, sym, ap, subst, inl, inr}
use Rattle.bit_grammar.specs.declared.shapes.Shapes.{Shapes}
use Rattle.bit_grammar.specs.declared.shapes.Shapes.TheVariants.{AtDefinition, AtUse}
use Rattle.bit_grammar.specs.declared.op.Place.{Place}
use Rattle.bit_grammar.specs.declared.op.Place.TheVariants.{First as first}
use Rattle.bit_grammar.specs.declared.reason.Reason.TheVariants.{AbbrevShape, Truncated}
use Rattle.bit_grammar.specs.Bits.{bits_of_bytes}
use Rattle.bit_grammar.specs.Grammar.{Fault, at, Grammar, position, choose, ◌>>=◌, rounds, Round, one_more, Rounds, Halts, Spells, Stops, judge}
use Rattle.bit_grammar.specs.Definition.{kind, fits, passes, operand, place_after, operands, definition}
use Rattle.bit_grammar.specs.Marks.{Item}
use Rattle.bit_grammar.specs.Blocks.{Limits, judged_at, Handed, Scope, BlockHead, define, nested, item_after, item, block, top_block, nothing_handed}
use Rattle.bit_grammar.specs.Whole.{Whole, ◌then_all◌, Things, HasBits, Broken, SpellsAll, StopsAll}
use Rattle.bit_grammar.specs.Fields.{fixed}
use Rattle.bit_grammar.specs.Input.{wrapper_and_gap, inner_magic, is_wrapped, top_blocks, stream, wrapped, input, SpellsInput, Cut, front_spelled, front_broken, by_cut, cut_fault, is_closed, front_of, BreaksInput}
use Rattle.bit_grammar.specs.Terms.{Wrapper, Head, Marked}

-- ---- rules, of which the second takes all that the first takes, and breaks as the first does, except for shapes

abbrev pub AtShape : Fault → Type 0
AtShape fault = fault.reason ≡ AbbrevShape

pub record Looser {A : Type 0} (strict loose : Grammar A) : Type 0 where
  pub spells : (p : ℕ) (s : List Bool) (v : A) → Spells strict p s v → Spells loose p s v
  pub stops : (p : ℕ) (r : List Bool) (fault : Fault) → Stops strict p r fault → AtShape fault ⊎ Stops loose p r fault

same : {A : Type 0} (rule : Grammar A) → Looser rule rule
same rule = record { spells = λ p s v h. h; stops = λ p r fault h. inr h }

then : {A B : Type 0} (a b : Grammar A) (f g : A → Grammar B) → Looser a b → ((x : A) → Looser (f x) (g x)) → Looser (a >>= f) (b >>= g)
then {A} {B} a b f g one more = record {
  spells = λ p s v h. (h.0, h.1, h.2, h.3, one.spells p h.0 h.2 h.4, (more h.2).spells (p + length h.0) h.1 v h.5);
  stops = stops;
}
  where
    later : (p : ℕ) (r : List Bool) (fault : Fault) (front others : List Bool) (x : A) → r ≡ front ++ others → Spells a p front x → AtShape fault ⊎ Stops (g x) (p + length front) others fault → AtShape fault ⊎ Stops (b >>= g) p r fault
    later p r fault front others x parts k (inl h) = inl h
    later p r fault front others x parts k (inr h) = inr (inr (front, others, x, parts, one.spells p front x k, h))

    here : (p : ℕ) (r : List Bool) (fault : Fault) → AtShape fault ⊎ Stops b p r fault → AtShape fault ⊎ Stops (b >>= g) p r fault
    here p r fault (inl h) = inl h
    here p r fault (inr h) = inr (inl h)

    stops : (p : ℕ) (r : List Bool) (fault : Fault) → Stops (a >>= f) p r fault → AtShape fault ⊎ Stops (b >>= g) p r fault
    stops p r fault (inl h) = here p r fault (one.stops p r fault h)
    stops p r fault (inr (front, others, x, parts, k, h)) = later p r fault front others x parts k ((more x).stops (p + length front) others fault h)

-- the same first part
after : {A B : Type 0} (a : Grammar A) (f g : A → Grammar B) → ((x : A) → Looser (f x) (g x)) → Looser (a >>= f) (a >>= g)
after a f g more = then a a f g (same a) more

-- the same second part
before : {A B : Type 0} (a b : Grammar A) (f : A → Grammar B) → Looser a b → Looser (a >>= f) (b >>= f)
before a b f one = then a b f f one (λ x. same (f x))

chosen : {A : Type 0} (b : Bool) (x y x' y' : Grammar A) → Looser x x' → Looser y y' → Looser (choose b x y) (choose b x' y')
chosen {A} b x y x' y' one other = record { spells = spells; stops = stops }
  where
    spells : (p : ℕ) (s : List Bool) (v : A) → Spells (choose b x y) p s v → Spells (choose b x' y') p s v
    spells p s v (inl h) = inl (h.0, one.spells p s v h.1)
    spells p s v (inr h) = inr (h.0, other.spells p s v h.1)

    of_one : (p : ℕ) (r : List Bool) (fault : Fault) → b ≡ true → AtShape fault ⊎ Stops x' p r fault → AtShape fault ⊎ Stops (choose b x' y') p r fault
    of_one p r fault e (inl h) = inl h
    of_one p r fault e (inr h) = inr (inl (e, h))

    of_other : (p : ℕ) (r : List Bool) (fault : Fault) → b ≡ false → AtShape fault ⊎ Stops y' p r fault → AtShape fault ⊎ Stops (choose b x' y') p r fault
    of_other p r fault e (inl h) = inl h
    of_other p r fault e (inr h) = inr (inr (e, h))

    stops : (p : ℕ) (r : List Bool) (fault : Fault) → Stops (choose b x y) p r fault → AtShape fault ⊎ Stops (choose b x' y') p r fault
    stops p r fault (inl h) = of_one p r fault h.0 (one.stops p r fault h.1)
    stops p r fault (inr h) = of_other p r fault h.0 (other.stops p r fault h.1)

-- rounds, each looser
rounds_looser : {S A E : Type 0} (idle : Fault) (a b : S → Grammar (Round S A E)) (state : S) → ((t : S) → Looser (a t) (b t)) → Looser (rounds idle a state) (rounds idle b state)
rounds_looser {S} {A} {E} idle a b state each = record {
  spells = λ p s v h. all v.0 state p s v.1 h;
  stops = λ p r fault h. found h.0 state p r fault (halts h.0 state p r fault h.1);
}
  where
    all : (xs : List A) (t : S) (p : ℕ) (s : List Bool) (e : E) → Rounds (λ t p s x. Spells (a t) p s x) xs t p s e → Rounds (λ t p s x. Spells (b t) p s x) xs t p s e
    all [] t p s e h = (each t).spells p s _ h
    all (x ∷ xs) t p s e h = (h.0, h.1, h.2, h.3, h.4, (each t).spells p h.0 (one_more x h.2) h.5, all xs h.2 (p + length h.0) h.1 e h.6)

    HaltsBy : (S → Grammar (Round S A E)) → List A → S → ℕ → List Bool → Fault → Type 0
    HaltsBy rule xs t p r fault = Halts idle (λ t p s x. Spells (rule t) p s x) (λ t p r fault. Stops (rule t) p r fault) xs t p r fault

    first_stops : (t : S) (p : ℕ) (r : List Bool) (fault : Fault) → AtShape fault ⊎ Stops (b t) p r fault → AtShape fault ⊎ HaltsBy b [] t p r fault
    first_stops t p r fault (inl h) = inl h
    first_stops t p r fault (inr h) = inr (inl h)

    later_stops : (x : A) (xs : List A) (t : S) (p : ℕ) (r : List Bool) (fault : Fault) (front others : List Bool) (new : S) → r ≡ front ++ others → 0 < length front → Spells (b t) p front (one_more x new)
        → AtShape fault ⊎ HaltsBy b xs new (p + length front) others fault → AtShape fault ⊎ HaltsBy b (x ∷ xs) t p r fault
    later_stops x xs t p r fault front others new parts some k (inl h) = inl h
    later_stops x xs t p r fault front others new parts some k (inr h) = inr (front, others, new, parts, some, k, h)

    halts : (xs : List A) (t : S) (p : ℕ) (r : List Bool) (fault : Fault) → HaltsBy a xs t p r fault → AtShape fault ⊎ HaltsBy b xs t p r fault
    halts [] t p r fault (inl h) = first_stops t p r fault ((each t).stops p r fault h)
    halts [] t p r fault (inr h) = inr (inr (h.0, h.1, (each t).spells p [] (one_more h.0 h.1) h.2, h.3))
    halts (x ∷ xs) t p r fault h = later_stops x xs t p r fault h.0 h.1 h.2 h.3 h.4 ((each t).spells p h.0 (one_more x h.2) h.5) (halts xs h.2 (p + length h.0) h.1 fault h.6)

    found : (xs : List A) (t : S) (p : ℕ) (r : List Bool) (fault : Fault) → AtShape fault ⊎ HaltsBy b xs t p r fault → AtShape fault ⊎ Stops (rounds idle b t) p r fault
    found xs t p r fault (inl h) = inl h
    found xs t p r fault (inr h) = inr (xs, h)

-- ---- definitions

-- a judgement of a shape, and none
shape_looser : (fits : Bool) (place : ℕ) → Looser (judge (passes AtDefinition fits) AbbrevShape place) (judge (passes AtUse fits) AbbrevShape place)
shape_looser fits place = record { spells = λ p s v h. (h.0, refl); stops = λ p r fault h. inl (ap (λ (f : Fault). f.reason) h.1) }

operand_looser : (place : Place) (n : ℕ) → Looser (operand AtDefinition place n) (operand AtUse place n)
unfolding operand
operand_looser place n = after position _ _ (λ start. after kind _ _ (λ k. before (judge (passes AtDefinition (fits place n k)) AbbrevShape start) (judge (passes AtUse (fits place n k)) AbbrevShape start) _ (shape_looser (fits place n k) start)))

operands_looser : (n : ℕ) (place : Place) → Looser (operands AtDefinition n place) (operands AtUse n place)
unfolding operands
operands_looser zero place = same _
operands_looser (suc n) place = then _ _ _ _ (operand_looser place n) (λ op. before _ _ _ (operands_looser n (place_after op)))

definition_looser : Looser (definition AtDefinition) (definition AtUse)
unfolding definition
definition_looser = after position _ _ (λ start. after _ _ _ (λ count. after _ _ _ (λ x. operands_looser count first)))

-- ---- blocks

define_looser : (start : ℕ) (scope : Scope) → Looser (define AtDefinition start scope) (define AtUse start scope)
unfolding define
define_looser start scope = after _ _ _ (λ x. before _ _ _ definition_looser)

abbrev Inner : Type 1
Inner = ℕ → Handed → Grammar (Item × Handed)

nested_looser : (a b : Inner) → ((start : ℕ) (handed : Handed) → Looser (a start handed) (b start handed)) → (start : ℕ) (scope : Scope) → Looser (nested a start scope) (nested b start scope)
unfolding nested
nested_looser a b inner start scope = after _ _ _ (λ x. before _ _ _ (inner start scope.handed))

item_looser : (a b : Inner) → ((start : ℕ) (handed : Handed) → Looser (a start handed) (b start handed)) → (h : BlockHead) (limit : ℕ) (scope : Scope) → Looser (item AtDefinition a h limit scope) (item AtUse b h limit scope)
unfolding item item_after
item_looser a b inner h limit scope =
    after _ _ _ (λ start. after _ _ _ (λ id. chosen _ _ _ _ _ (same _) (chosen _ _ _ _ _ (before _ _ _ (nested_looser a b inner start scope)) (chosen _ _ _ _ _ (before _ _ _ (define_looser start scope)) (same _)))))

block_looser : (depth limit start : ℕ) (handed : Handed) → Looser (block AtDefinition depth limit start handed) (block AtUse depth limit start handed)
unfolding block
block_looser zero limit start handed = same _
block_looser (suc depth) limit start handed =
    after _ _ _ (λ h. before _ _ _ (rounds_looser _ _ _ _ (λ scope. item_looser (block AtDefinition depth limit) (block AtUse depth limit) (block_looser depth limit) h limit scope)))

top_looser : (limits : Limits) (handed : Handed) → Looser (top_block (judged_at AtDefinition limits) handed) (top_block (judged_at AtUse limits) handed)
unfolding top_block
top_looser limits handed = after _ _ _ (λ start. after _ _ _ (λ id. after _ _ _ (λ x. block_looser limits.depth limits.values start handed)))

-- ---- whole inputs

abbrev LooserAll : {A : Type 0} → Whole A → Whole A → Type 0
LooserAll strict loose = (p : ℕ) (r : List Bool) (fault : Fault) → StopsAll strict p r fault → AtShape fault ⊎ StopsAll loose p r fault

abbrev SpelledBy : Shapes → Limits → Handed → ℕ → List Bool → Item × Handed → Type 0
SpelledBy shapes limits handed p s x = Spells (top_block (judged_at shapes limits) handed) p s x

abbrev BrokenBy : Shapes → Fault → Limits → List Item → Handed → ℕ → List Bool → Fault → Type 0
BrokenBy shapes idle limits xs handed p r fault = Broken idle (SpelledBy shapes limits) (λ handed p r fault. Stops (top_block (judged_at shapes limits) handed) p r fault) xs handed p r fault

things_looser : (limits : Limits) (xs : List Item) (handed : Handed) (p : ℕ) (r : List Bool) (end : ℕ) → Things (SpelledBy AtDefinition limits) xs handed p r end → Things (SpelledBy AtUse limits) xs handed p r end
things_looser limits [] handed p r end h = h
things_looser limits (x ∷ xs) handed p r end h = (h.0, h.1, h.2, h.3, h.4, (top_looser limits handed).spells p h.0 (x, h.2) h.5, things_looser limits xs h.2 (p + length h.0) h.1 end h.6)

broken_first : (idle : Fault) (limits : Limits) (handed : Handed) (p : ℕ) (r : List Bool) (fault : Fault) → HasBits r → AtShape fault ⊎ Stops (top_block (judged_at AtUse limits) handed) p r fault → AtShape fault ⊎ BrokenBy AtUse idle limits [] handed p r fault
broken_first idle limits handed p r fault some (inl h) = inl h
broken_first idle limits handed p r fault some (inr h) = inr (some, inl h)

broken_later : (idle : Fault) (limits : Limits) (x : Item) (xs : List Item) (handed : Handed) (p : ℕ) (r : List Bool) (fault : Fault) (front others : List Bool) (new : Handed) → r ≡ front ++ others → 0 < length front → SpelledBy AtUse limits handed p front (x, new)
    → AtShape fault ⊎ BrokenBy AtUse idle limits xs new (p + length front) others fault → AtShape fault ⊎ BrokenBy AtUse idle limits (x ∷ xs) handed p r fault
broken_later idle limits x xs handed p r fault front others new parts some k (inl h) = inl h
broken_later idle limits x xs handed p r fault front others new parts some k (inr h) = inr (front, others, new, parts, some, k, h)

broken_looser : (idle : Fault) (limits : Limits) (xs : List Item) (handed : Handed) (p : ℕ) (r : List Bool) (fault : Fault) → BrokenBy AtDefinition idle limits xs handed p r fault → AtShape fault ⊎ BrokenBy AtUse idle limits xs handed p r fault
broken_looser idle limits [] handed p r fault (some, inl h) = broken_first idle limits handed p r fault some ((top_looser limits handed).stops p r fault h)
broken_looser idle limits [] handed p r fault (some, inr h) = inr (some, inr (h.0, (top_looser limits handed).spells p [] h.0 h.1, h.2))
broken_looser idle limits (x ∷ xs) handed p r fault h = broken_later idle limits x xs handed p r fault h.0 h.1 h.2 h.3 h.4 ((top_looser limits handed).spells p h.0 (x, h.2) h.5) (broken_looser idle limits xs h.2 (p + length h.0) h.1 fault h.6)

stream_spells : (limits : Limits) (head : Head) (p : ℕ) (r : List Bool) (m : Marked) → SpellsAll (stream (judged_at AtDefinition limits) head) p r m → SpellsAll (stream (judged_at AtUse limits) head) p r m
unfolding stream top_blocks
stream_spells limits head p r m h = (h.0, things_looser limits h.0.0 nothing_handed p r h.0.1 h.1, h.2)

stream_found : (limits : Limits) (head : Head) (xs : List Item) (p : ℕ) (r : List Bool) (fault : Fault) → AtShape fault ⊎ BrokenBy AtUse (at Truncated 0) limits xs nothing_handed p r fault → AtShape fault ⊎ StopsAll (stream (judged_at AtUse limits) head) p r fault
unfolding stream top_blocks
stream_found limits head xs p r fault (inl k) = inl k
stream_found limits head xs p r fault (inr k) = inr (xs, k)

stream_stops : (limits : Limits) (head : Head) → LooserAll (stream (judged_at AtDefinition limits) head) (stream (judged_at AtUse limits) head)
unfolding stream top_blocks
stream_stops limits head p r fault h = stream_found limits head h.0 p r fault (broken_looser (at Truncated 0) limits h.0 nothing_handed p r fault h.1)

abbrev inside : Shapes → Limits → Wrapper → Whole Marked
inside shapes limits w = inner_magic then_all λ magic. stream (judged_at shapes limits) (record { magic = magic; wrapper = Some w })

inside_spells : (limits : Limits) (w : Wrapper) (p : ℕ) (r : List Bool) (m : Marked) → SpellsAll (inside AtDefinition limits w) p r m → SpellsAll (inside AtUse limits w) p r m
inside_spells limits w p r m h = (h.0, h.1, h.2, h.3, h.4, stream_spells limits (record { magic = h.2; wrapper = Some w }) _ h.1 m h.5)

inside_found : (limits : Limits) (w : Wrapper) (p : ℕ) (r : List Bool) (fault : Fault) (front others : List Bool) (magic : ℕ) → r ≡ front ++ others → Spells inner_magic p front magic
    → AtShape fault ⊎ StopsAll (stream (judged_at AtUse limits) (record { magic = magic; wrapper = Some w })) (p + length front) others fault → AtShape fault ⊎ StopsAll (inside AtUse limits w) p r fault
inside_found limits w p r fault front others magic parts k (inl h) = inl h
inside_found limits w p r fault front others magic parts k (inr h) = inr (inr (front, others, magic, parts, k, h))

inside_stops : (limits : Limits) (w : Wrapper) → LooserAll (inside AtDefinition limits w) (inside AtUse limits w)
inside_stops limits w p r fault (inl h) = inr (inl h)
inside_stops limits w p r fault (inr (front, others, magic, parts, k, h)) = inside_found limits w p r fault front others magic parts k (stream_stops limits (record { magic = magic; wrapper = Some w }) (p + length front) others fault h)

wrapped_spells : (limits : Limits) (p : ℕ) (r : List Bool) (m : Marked) → SpellsAll (wrapped (judged_at AtDefinition limits)) p r m → SpellsAll (wrapped (judged_at AtUse limits)) p r m
unfolding wrapped
wrapped_spells limits p r m h =
    let i = h.5 in
    (h.0, h.1, h.2, h.3, h.4, (i.0, i.1, i.2, i.3, inside_spells limits h.2 _ i.0 m i.4))

wrapped_found : (limits : Limits) (p : ℕ) (r : List Bool) (fault : Fault) (front others : List Bool) (w : Wrapper) → r ≡ front ++ others → Spells wrapper_and_gap p front w
    → AtShape fault ⊎ StopsAll (inside AtUse limits w) (p + length front) (take (8 * w.size) others) fault → AtShape fault ⊎ StopsAll (wrapped (judged_at AtUse limits)) p r fault
unfolding wrapped
wrapped_found limits p r fault front others w parts k (inl h) = inl h
wrapped_found limits p r fault front others w parts k (inr h) = inr (inr (front, others, w, parts, k, inl h))

wrapped_stops : (limits : Limits) → LooserAll (wrapped (judged_at AtDefinition limits)) (wrapped (judged_at AtUse limits))
unfolding wrapped
wrapped_stops limits p r fault (inl h) = inr (inl h)
wrapped_stops limits p r fault (inr (front, others, w, parts, k, inl h)) = wrapped_found limits p r fault front others w parts k (inside_stops limits w (p + length front) (take (8 * w.size) others) fault h)
wrapped_stops limits p r fault (inr (front, others, w, parts, k, inr h)) = inr (inr (front, others, w, parts, k, inr (h.0, h.1, (h.2.0, inside_spells limits w (p + length front) (take (8 * w.size) others) h.2.0 h.2.1))))

input_spells : (limits : Limits) (p : ℕ) (r : List Bool) (m : Marked) → SpellsAll (input (judged_at AtDefinition limits)) p r m → SpellsAll (input (judged_at AtUse limits)) p r m
unfolding input
input_spells limits p r m (front, others, magic, parts, k, inl h) = (front, others, magic, parts, k, inl (h.0, wrapped_spells limits _ others m h.1))
input_spells limits p r m (front, others, magic, parts, k, inr h) = (front, others, magic, parts, k, inr (h.0, stream_spells limits (record { magic = magic; wrapper = None }) _ others m h.1))

input_wrapped : (limits : Limits) (p : ℕ) (r : List Bool) (fault : Fault) (front others : List Bool) (magic : ℕ) → r ≡ front ++ others → Spells (fixed 32) p front magic → is_wrapped magic ≡ true
    → AtShape fault ⊎ StopsAll (wrapped (judged_at AtUse limits)) (p + length front) others fault → AtShape fault ⊎ StopsAll (input (judged_at AtUse limits)) p r fault
unfolding input
input_wrapped limits p r fault front others magic parts k is (inl h) = inl h
input_wrapped limits p r fault front others magic parts k is (inr h) = inr (inr (front, others, magic, parts, k, inl (is, h)))

input_bare : (limits : Limits) (p : ℕ) (r : List Bool) (fault : Fault) (front others : List Bool) (magic : ℕ) → r ≡ front ++ others → Spells (fixed 32) p front magic → is_wrapped magic ≡ false
    → AtShape fault ⊎ StopsAll (stream (judged_at AtUse limits) (record { magic = magic; wrapper = None })) (p + length front) others fault → AtShape fault ⊎ StopsAll (input (judged_at AtUse limits)) p r fault
unfolding input
input_bare limits p r fault front others magic parts k is (inl h) = inl h
input_bare limits p r fault front others magic parts k is (inr h) = inr (inr (front, others, magic, parts, k, inr (is, h)))

input_stops : (limits : Limits) → LooserAll (input (judged_at AtDefinition limits)) (input (judged_at AtUse limits))
unfolding input
input_stops limits p r fault (inl h) = inr (inl h)
input_stops limits p r fault (inr (front, others, magic, parts, k, inl h)) = input_wrapped limits p r fault front others magic parts k h.0 (wrapped_stops limits (p + length front) others fault h.1)
input_stops limits p r fault (inr (front, others, magic, parts, k, inr h)) = input_bare limits p r fault front others magic parts k h.0 (stream_stops limits (record { magic = magic; wrapper = None }) (p + length front) others fault h.1)

-- ---- the limit on bytes

-- a fault with that reason is not due to a cut
kept_shape : (limits : Limits) (closed : Bool) (own : Fault) → AtShape own → AtShape (cut_fault limits closed own)
kept_shape limits closed own h =
    let none : by_cut closed own.reason ≡ false = ap (by_cut closed) h in
    rw none h

cut_found : (limits : Limits) (bytes : List ℕ) (fault own : Fault) → fault ≡ cut_fault limits (is_closed limits bytes) own → AtShape own ⊎ StopsAll (input (judged_at AtUse limits)) 0 (front_of limits bytes) own
    → AtShape fault ⊎ Cut (judged_at AtUse limits) bytes fault
cut_found limits bytes fault own is (inl h) = inl (subst AtShape (sym is) (kept_shape limits (is_closed limits bytes) own h))
cut_found limits bytes fault own is (inr h) = inr (front_broken own h is)

cut_looser : (limits : Limits) (bytes : List ℕ) (fault : Fault) → Cut (judged_at AtDefinition limits) bytes fault → AtShape fault ⊎ Cut (judged_at AtUse limits) bytes fault
cut_looser limits bytes fault (front_spelled m h is) = inr (front_spelled m (input_spells limits 0 (front_of limits bytes) m h) is)
cut_looser limits bytes fault (front_broken own h is) = cut_found limits bytes fault own is (input_stops limits 0 (front_of limits bytes) own h)

breaks_whole : (limits : Limits) (bytes : List ℕ) (fault : Fault) → length bytes ≤ limits.bytes → AtShape fault ⊎ StopsAll (input (judged_at AtUse limits)) 0 (bits_of_bytes bytes) fault → AtShape fault ⊎ BreaksInput (judged_at AtUse limits) bytes fault
breaks_whole limits bytes fault fits (inl h) = inl h
breaks_whole limits bytes fault fits (inr h) = inr (inl (fits, h))

breaks_cut : (limits : Limits) (bytes : List ℕ) (fault : Fault) → limits.bytes < length bytes → AtShape fault ⊎ Cut (judged_at AtUse limits) bytes fault → AtShape fault ⊎ BreaksInput (judged_at AtUse limits) bytes fault
breaks_cut limits bytes fault more (inl h) = inl h
breaks_cut limits bytes fault more (inr h) = inr (inr (more, h))

-- what is accepted with shapes judged at the definition is accepted with shapes judged at their use
pub also_taken : (limits : Limits) (bytes : List ℕ) (m : Marked) → SpellsInput (judged_at AtDefinition limits) bytes m → SpellsInput (judged_at AtUse limits) bytes m
also_taken limits bytes m h = record { fits = h.fits; spelled = input_spells limits 0 (bits_of_bytes bytes) m h.spelled }

-- what is refused with shapes judged at the definition is refused at their use with the same fault, unless for a shape
pub also_refused : (limits : Limits) (bytes : List ℕ) (fault : Fault) → BreaksInput (judged_at AtDefinition limits) bytes fault → AtShape fault ⊎ BreaksInput (judged_at AtUse limits) bytes fault
also_refused limits bytes fault (inl h) = breaks_whole limits bytes fault h.0 (input_stops limits 0 (bits_of_bytes bytes) fault h.1)
also_refused limits bytes fault (inr h) = breaks_cut limits bytes fault h.0 (cut_looser limits bytes fault h.1)
