-- The open blocks, in the program's state.
use Rattle.std.proofs.Common.{◌≡◌, ℕ, suc, ◌-◌, Bool, true, false, List, [], ◌∷◌, ◌++◌, length, refl, sym, ap, subst, ◌∙◌, arith}
use Rattle.std.specs.Prelude.{if◌then◌else◌, reverse, ◌&&◌}
use Rattle.std.specs.List.{list_all}
use Rattle.std.proofs.lemmas.List.{reverse-append}
use Rattle.bit_grammar.specs.Setting.{Setting, keeps, keeps_record}
use Rattle.bit_grammar.specs.Machine.{Event, enters, defines, notes, leaves}
use Rattle.bit_grammar.specs.Under.{ids_after, ids_behind, innermost, is_left, events_under}
use Rattle.bit_events.specs.Gathering.{open_behind, left_open}
use Rattle.bit_grammar.proofs.NormalForms.Under.{info_kept}
use Rattle.bit_events.specs.Standing.{ids_of, AreJudged}
use Rattle.bit_events.specs.declared.open_blocks.Around.{Around}

pub left_is : (s : Setting) (inner : Around) (outer : List Around) → AreJudged s inner outer → inner.is_left ≡ list_all (keeps s) (ids_of inner outer)
left_is s inner [] h = h.0
left_is s inner (next ∷ outer) h = h.0

-- whether a record is kept: one of a whole block, of a block that is kept, and of a block that is not
pub whole_left : (s : Setting) (inner : Around) (outer : List Around) (code : ℕ) → AreJudged s inner outer → inner.is_whole ≡ true → true ≡ (list_all (keeps s) (ids_of inner outer) && keeps_record s (innermost (ids_of inner outer)) code)
whole_left s inner [] code h whole = sym (info_kept s code)
whole_left s inner (next ∷ outer) code h whole = (let known = h.1 whole in rw (← h.0, known.0, known.1 code) refl)

pub record_left : (s : Setting) (inner : Around) (outer : List Around) (code : ℕ) (kept : Bool) → AreJudged s inner outer → inner.is_whole ≡ false → inner.is_left ≡ true → kept ≡ keeps_record s inner.id code
    → kept ≡ (list_all (keeps s) (ids_of inner outer) && keeps_record s (innermost (ids_of inner outer)) code)
record_left s inner [] code kept h named left is = absurd (both inner.is_whole named h.1)
  where
    both : (b : Bool) → b ≡ false → b ≡ true → ⊥
    both b e f = absurd cc
record_left s inner (next ∷ outer) code kept h named left is = rw (← h.0, left) is

pub none_left : (s : Setting) (inner : Around) (outer : List Around) (code : ℕ) → AreJudged s inner outer → inner.is_left ≡ false → inner.is_left ≡ (list_all (keeps s) (ids_of inner outer) && keeps_record s (innermost (ids_of inner outer)) code)
none_left s inner outer code h none = none ∙ ap (λ (b : Bool). b && keeps_record s (innermost (ids_of inner outer)) code) (sym none ∙ left_is s inner outer h)

-- ---- one more block

reverse-push : (items new : List Around) (x : Around) → new ≡ items ++ x ∷ [] → reverse new ≡ x ∷ reverse items
reverse-push items new x is = ap reverse is ∙ reverse-append items (x ∷ [])

pub judged_more : (s : Setting) (inner next : Around) (items new : List Around) → AreJudged s inner (reverse items) → new ≡ items ++ inner ∷ [] → next.is_left ≡ (keeps s next.id && inner.is_left) → (next.is_whole ≡ true → (next.is_left ≡ true) × ((code : ℕ) → keeps_record s next.id code ≡ true)) → AreJudged s next (reverse new)
judged_more s inner next items new h is left whole =
    subst (AreJudged s next) (sym (reverse-push items new inner is)) (left ∙ ap (λ (b : Bool). keeps s next.id && b) (left_is s inner (reverse items) h), whole, h)

-- ---- which events are kept

-- how many of the open blocks are kept
abbrev pub kept_count : Setting → List ℕ → ℕ
kept_count s [] = 0
kept_count s (id ∷ ids) = if list_all (keeps s) (id ∷ ids) then suc (kept_count s ids) else kept_count s ids

all_counted : (s : Setting) (ids : List ℕ) → list_all (keeps s) ids ≡ true → kept_count s ids ≡ length ids
all_counted s [] all = refl
all_counted s (id ∷ ids) all = go (list_all (keeps s) (id ∷ ids)) all (all_counted s ids (behind (keeps s id) (list_all (keeps s) ids) all))
  where
    behind : (a b : Bool) → (a && b) ≡ true → b ≡ true
    behind true b e = e
    behind false b e = absurd cc

    go : (b : Bool) → b ≡ true → kept_count s ids ≡ length ids → (if b then suc (kept_count s ids) else kept_count s ids) ≡ suc (length ids)
    go true e same = ap suc same
    go false e same = absurd cc

one_less : (n : ℕ) → suc n - 1 ≡ n
one_less n = omega arith

-- the events that are kept leave as many blocks open
open_left : (s : Setting) (events : List Event) (ids : List ℕ) → open_behind (events_under s ids events) (kept_count s ids) ≡ kept_count s (ids_behind events ids)
open_left s [] ids = refl
open_left s (enters o ∷ events) ids = go (list_all (keeps s) (o.id ∷ ids)) (open_left s events (o.id ∷ ids))
  where
    rest : List Event
    rest = events_under s (o.id ∷ ids) events

    go : (b : Bool) → open_behind rest (if b then suc (kept_count s ids) else kept_count s ids) ≡ kept_count s (ids_behind events (o.id ∷ ids))
        → open_behind (if b then enters o ∷ rest else rest) (kept_count s ids) ≡ kept_count s (ids_behind events (o.id ∷ ids))
    go true e = e
    go false e = e
open_left s (defines mark ∷ events) ids = go (list_all (keeps s) ids) (open_left s events ids)
  where
    go : (b : Bool) → open_behind (events_under s ids events) (kept_count s ids) ≡ kept_count s (ids_behind events ids) → open_behind (if b then defines mark ∷ events_under s ids events else events_under s ids events) (kept_count s ids) ≡ kept_count s (ids_behind events ids)
    go true e = e
    go false e = e
open_left s (notes mark ∷ events) ids = go (is_left s ids (notes mark)) (open_left s events ids)
  where
    go : (b : Bool) → open_behind (events_under s ids events) (kept_count s ids) ≡ kept_count s (ids_behind events ids) → open_behind (if b then notes mark ∷ events_under s ids events else events_under s ids events) (kept_count s ids) ≡ kept_count s (ids_behind events ids)
    go true e = e
    go false e = e
open_left s (leaves after ∷ events) [] = open_left s events []
open_left s (leaves after ∷ events) (id ∷ ids) = go (list_all (keeps s) (id ∷ ids)) (open_left s events ids)
  where
    rest : List Event
    rest = events_under s ids events

    go : (b : Bool) → open_behind rest (kept_count s ids) ≡ kept_count s (ids_behind events ids) → open_behind (if b then leaves after ∷ rest else rest) (if b then suc (kept_count s ids) else kept_count s ids) ≡ kept_count s (ids_behind events ids)
    go true e = ap (open_behind rest) (one_less (kept_count s ids)) ∙ e
    go false e = e

pub length-ids : (events : List Event) (ids : List ℕ) → length (ids_behind events ids) ≡ open_behind events (length ids)
length-ids [] ids = refl
length-ids (enters o ∷ events) ids = length-ids events (o.id ∷ ids)
length-ids (defines mark ∷ events) ids = length-ids events ids
length-ids (notes mark ∷ events) ids = length-ids events ids
length-ids (leaves after ∷ events) [] = length-ids events []
length-ids (leaves after ∷ events) (id ∷ ids) = length-ids events ids ∙ ap (open_behind events) (sym (one_less (length ids)))

-- if all open blocks are kept, the kept events leave as many open
pub left_as_many : (s : Setting) (events : List Event) → list_all (keeps s) (ids_behind events []) ≡ true → left_open (events_under s [] events) ≡ left_open events
left_as_many s events all = open_left s events [] ∙ all_counted s (ids_behind events []) all ∙ length-ids events []

pub left_closed : (s : Setting) (events : List Event) → left_open events ≡ 0 → left_open (events_under s [] events) ≡ 0
left_closed s events none = open_left s events [] ∙ go (ids_behind events []) (length-ids events [] ∙ none)
  where
    go : (ids : List ℕ) → length ids ≡ 0 → kept_count s ids ≡ 0
    go [] e = refl
    go (id ∷ ids) e = absurd (omega (arith, e))

-- one more event
pub left_push : (s : Setting) (events : List Event) (event : Event) (ids : List ℕ) (b : Bool) → is_left s (ids_behind events ids) event ≡ b → events_under s ids (events ++ event ∷ []) ≡ events_under s ids events ++ (if b then event ∷ [] else [])
left_push s [] event ids b is = ap (λ (c : Bool). if c then event ∷ [] else []) is
left_push s (e ∷ events) event ids b is = go (is_left s ids e) (left_push s events event (ids_after e ids) b is)
  where
    rest : List Event
    rest = events_under s (ids_after e ids) events

    all : List Event
    all = events_under s (ids_after e ids) (events ++ event ∷ [])

    last : List Event
    last = if b then event ∷ [] else []

    go : (c : Bool) → all ≡ rest ++ last → (if c then e ∷ all else all) ≡ (if c then e ∷ rest else rest) ++ last
    go true same = ap (λ (es : List Event). e ∷ es) same
    go false same = same
