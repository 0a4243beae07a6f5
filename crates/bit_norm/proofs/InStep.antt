-- An input that is read in step with another one.
use Rattle.std.proofs.Common.{◌≡◌, ℕ, suc, ◌+◌, ◌-◌, ◌^◌, ◌<◌, ◌≤◌, Bool, true, false, List, [], ◌∷◌, ◌++◌, Option, Some, None, length, take, refl, sym, ap, ◌∙◌, subst, append_assoc, length-append, arith}
use Rattle.std.specs.Prelude.{if◌then◌else◌, cond, eqb, slice_get, zero, T}
use Rattle.std.proofs.lemmas.List.{append-nil, length-take-le}
use Rattle.std.proofs.Math.Seq.{take-length}
use Rattle.std.proofs.Math.Dec.{eqb_refl}
use Rattle.std.specs.List.{list_all}
use Rattle.bit_grammar.specs.Setting.{keeps}
use Rattle.bit_grammar.specs.Under.{is_left, ids_behind, events_under}
use Rattle.bit_grammar.proofs.NormalForms.Under.{ids_behind-push}
use Rattle.bit_grammar.specs.Marks.{RecordMark, DefinitionMark}
use Rattle.bit_grammar.specs.Machine.{Opened, Event, enters, defines, notes, leaves}
use Rattle.bit_grammar.specs.Steps.{open_after}
use Rattle.bit_grammar.specs.Machine.{Told}
use Rattle.bit_fields.specs.Expected.{Expected, HasTaken}
use Rattle.bit_fields.specs.Packed.{first_apart}
use Rattle.bit_events.specs.Coming.{Coming, TellsComing, GivesEvent}
use Rattle.bit_events.specs.MachineView.{record_of}
use Rattle.bit_events.specs.Gathering.{left_open}
use Rattle.bit_events.proofs.Folds.{open_behind-push}
use Rattle.bit_events.specs.Standing as blocks
use Rattle.bit_events.proofs.Standings.{left_as_many, left_push}
use Rattle.bit_norm.specs.Entries.{Sign, begins, has_record, ends, Entry, signs_in, open_block_with, Seen, Standing, at_item, standing, standing_shown, the_record, apart_at, first_unlike, value_apart, what_of}
use Rattle.bit_norm.specs.declared.differences.OpenBlock.{OpenBlock}
use Rattle.bit_norm.specs.declared.differences.ValueDifference.{ValueDifference}
use Rattle.bit_norm.specs.declared.in_step.Apart.{Apart}
use Rattle.bit_norm.specs.declared.in_step.Beside.{Beside}
use Rattle.bit_norm.specs.declared.in_step.Beside.TheVariants.{Same, Other}
use Rattle.bit_norm.specs.declared.in_step.Weighed.{Weighed}
use Rattle.bit_norm.specs.declared.in_step.Weighed.TheVariants as weighed
use Rattle.bit_norm.specs.declared.in_step.Found.{Found}
use Rattle.bit_norm.specs.InStep.{Stand, Said, said_of, said_left, stand_behind_block, stand_behind, entry_at, stand_after, put_entry, told_entries, behind_sign, IsOther, StandsBeside, SaysBeside, IsBeside, Weighs, Gave, WeighsNext, Steps, Took, Compared, here, entries_of_first, ended_from, second_end, entries_of_second, seen_of, Departs, TakesSign, Alike, ApartAt, Tallied}

-- ---- one event

pub begin_says : (o : Opened) (ended : ℕ) (sign : Sign) (b : Beside) (p : Apart) → StandsBeside (record { sign = begins o.id; bit = o.first; ended = o.body }) sign b p → SaysBeside (said_of ended (enters o)) sign b p
begin_says o ended sign b p is = record { found = record { sign = begins o.id; bit = o.first; ended = o.body }; is = refl; beside = is }

pub record_says : (mark : RecordMark) (ended : ℕ) (sign : Sign) (b : Beside) (p : Apart) → StandsBeside (record { sign = has_record mark.code mark.values; bit = mark.first; ended = mark.after }) sign b p → SaysBeside (said_of ended (notes mark)) sign b p
record_says mark ended sign b p is = record { found = record { sign = has_record mark.code mark.values; bit = mark.first; ended = mark.after }; is = refl; beside = is }

pub end_says : (after ended : ℕ) (sign : Sign) (b : Beside) (p : Apart) → StandsBeside (record { sign = ends; bit = ended; ended = after }) sign b p → SaysBeside (said_of ended (leaves after)) sign b p
end_says after ended sign b p is = record { found = record { sign = ends; bit = ended; ended = after }; is = refl; beside = is }

-- an event that is left out has no sign, and one that is kept has its own
pub left_out_says : (stands : blocks.OpenUnder) (ended : ℕ) (event : Event) → is_left stands.setting stands.ids event ≡ false → said_left stands ended event ≡ None
left_out_says stands ended event out = ap (λ (b : Bool). if b then said_of ended event else None) out

pub left_says : (stands : blocks.OpenUnder) (ended : ℕ) (event : Event) → is_left stands.setting stands.ids event ≡ true → said_left stands ended event ≡ said_of ended event
left_says stands ended event entries_of_first = ap (λ (b : Bool). if b then said_of ended event else None) entries_of_first

-- the entry of an event comes before those of the others
pub entries_first : (stands : blocks.OpenUnder) (s : Stand) (event : Event) (events : List Event)
    → told_entries s (blocks.left_of stands (event ∷ events)) ≡ put_entry s (said_left stands s.ended event) (told_entries (stand_after s (said_left stands s.ended event)) (blocks.left_of (blocks.stands_after event stands) events))
entries_first stands s event events = go (is_left stands.setting stands.ids event)
  where
    others : List Event
    others = blocks.left_of (blocks.stands_after event stands) events

    go : (b : Bool) → told_entries s (if b then event ∷ others else others) ≡ put_entry s (if b then said_of s.ended event else None) (told_entries (stand_after s (if b then said_of s.ended event else None)) others)
    go true = refl
    go false = refl

-- the event has no sign
pub entries_silent : (stands next : blocks.OpenUnder) (s : Stand) (event : Event) (events : List Event) → said_left stands s.ended event ≡ None → next ≡ blocks.stands_after event stands
    → told_entries s (blocks.left_of stands (event ∷ events)) ≡ told_entries s (blocks.left_of next events)
entries_silent stands next s event events none is =
    entries_first stands s event events
    ∙ ap (λ (o : Option Said). put_entry s o (told_entries (stand_after s o) (blocks.left_of (blocks.stands_after event stands) events))) none
    ∙ ap (λ (st : blocks.OpenUnder). told_entries s (blocks.left_of st events)) (sym is)

-- the event has this sign
pub entries_said : (stands next : blocks.OpenUnder) (s : Stand) (event : Event) (x : Said) (events : List Event) → said_left stands s.ended event ≡ Some x → next ≡ blocks.stands_after event stands
    → told_entries s (blocks.left_of stands (event ∷ events)) ≡ entry_at s x ∷ told_entries (stand_behind s x.sign x.ended) (blocks.left_of next events)
entries_said stands next s event x events found is =
    entries_first stands s event events
    ∙ ap (λ (o : Option Said). put_entry s o (told_entries (stand_after s o) (blocks.left_of (blocks.stands_after event stands) events))) found
    ∙ ap (λ (st : blocks.OpenUnder). entry_at s x ∷ told_entries (stand_behind s x.sign x.ended) (blocks.left_of st events)) (sym is)

-- ---- values

-- if one list has no more values, two lists differ nowhere
pub nowhere_apart : (k : ℕ) (a b : List ℕ) → first_apart k a b ≡ None → first_unlike k a b ≡ None
nowhere_apart k [] b e = refl
nowhere_apart k (x ∷ a) [] e = refl
nowhere_apart k (x ∷ a) (y ∷ b) e = go (nowhere_apart (suc k) a b) (eqb x y) e
  where
    go : (first_apart (suc k) a b ≡ None → first_unlike (suc k) a b ≡ None) → (t : Bool) → cond t (first_apart (suc k) a b) (Some k) ≡ None → cond t (first_unlike (suc k) a b) (Some (record { index = k; first = x; second = y })) ≡ None
    go rest true e = rest e
    go rest false e = absurd (cc)

-- these are the first values in which two lists differ, at a distance from a place
pub record Unlike (k place : ℕ) (a b : List ℕ) : Type 0 where
  pub behind : ℕ
  pub first : ℕ
  pub second : ℕ
  pub at : place ≡ k + behind
  pub in_first : slice_get a behind ≡ Some first
  pub in_second : slice_get b behind ≡ Some second
  pub is : first_unlike k a b ≡ Some (record { index = place; first = first; second = second })

pub somewhere_apart : (k place : ℕ) (a b : List ℕ) → first_apart k a b ≡ Some place → Unlike k place a b
somewhere_apart k place [] b e = absurd (cc)
somewhere_apart k place (x ∷ a) [] e = absurd (cc)
somewhere_apart k place (x ∷ a) (y ∷ b) e = go (somewhere_apart (suc k) place a b) (eqb x y) refl e
  where
    later : eqb x y ≡ true → Unlike (suc k) place a b → Unlike k place (x ∷ a) (y ∷ b)
    later same u = record { behind = suc u.behind; first = u.first; second = u.second; at = omega (arith, u.at); in_first = u.in_first; in_second = u.in_second; is = rw same u.is }

    here : eqb x y ≡ false → k ≡ place → Unlike k place (x ∷ a) (y ∷ b)
    here apart_at at = record { behind = 0; first = x; second = y; at = omega (arith, at); in_first = refl; in_second = refl; is = rw (apart_at, at) refl }

    go : (first_apart (suc k) a b ≡ Some place → Unlike (suc k) place a b) → (t : Bool) → eqb x y ≡ t → cond t (first_apart (suc k) a b) (Some k) ≡ Some place → Unlike k place (x ∷ a) (y ∷ b)
    go rest true is e = later is (rest e)
    go rest false is e = here is (cc)

-- if both are known
pub unlike_at : (place x y : ℕ) (a b : List ℕ) → first_apart 0 a b ≡ Some place → slice_get a place ≡ Some x → slice_get b place ≡ Some y → first_unlike 0 a b ≡ Some (record { index = place; first = x; second = y })
unlike_at place x y a b e first second =
    let u = somewhere_apart 0 place a b e in
    let at : u.behind ≡ place = omega (arith, u.at) in
    let same_first : slice_get a place ≡ Some u.first = ap (slice_get a) (sym at) ∙ u.in_first in
    let same_second : slice_get b place ≡ Some u.second = ap (slice_get b) (sym at) ∙ u.in_second in
    let entries_of_first : u.first ≡ x = cc in
    let entries_of_second : u.second ≡ y = cc in
    rw (← entries_of_first, ← entries_of_second) u.is

-- both are known there
pub has_both : (place : ℕ) (a b : List ℕ) → first_apart 0 a b ≡ Some place → (slice_get a place ≡ None → ⊥) × (slice_get b place ≡ None → ⊥)
has_both place a b e =
    let u = somewhere_apart 0 place a b e in
    let at : u.behind ≡ place = omega (arith, u.at) in
    let in_first : slice_get a place ≡ Some u.first = ap (slice_get a) (sym at) ∙ u.in_first in
    let in_second : slice_get b place ≡ Some u.second = ap (slice_get b) (sym at) ∙ u.in_second in
    (λ none. cc, λ none. cc)

-- ---- places

-- after the innermost open block, this one
pub closing_last : (l : List OpenBlock) (b : OpenBlock) (items ended : ℕ) → stand_behind_block (l ++ b ∷ []) items ended ≡ record { within = l; items = suc b.items; ended = ended }
closing_last [] b items ended = refl
closing_last (x ∷ []) b items ended = refl
closing_last (x ∷ y ∷ l) b items ended = ap (λ (s : Stand). let t : Stand = record { within = x ∷ s.within; items = s.items; ended = s.ended } in t) (closing_last (y ∷ l) b items ended)

pub closes : (within rest : List OpenBlock) (b : OpenBlock) (items now ended : ℕ) → within ≡ rest ++ b ∷ [] → now ≡ b.items + 1 → (let s : Stand = record { within = rest; items = now; ended = ended } in (s ≡ stand_behind_block within items ended))
closes within rest b items now ended is one =
    let make : ℕ → Stand = λ n. record { within = rest; items = n; ended = ended } in
    let same : now ≡ suc b.items = omega (arith, one) in
    ap make same ∙ sym (ap (λ (l : List OpenBlock). stand_behind_block l items ended) is ∙ closing_last rest b items ended)

ended_inside : (p : ℕ) (l : List OpenBlock) (b : OpenBlock) (items ended : ℕ) → ended_from p (l ++ b ∷ []) items ended ≡ ended
ended_inside p [] b items ended = refl
ended_inside p (x ∷ l) b items ended = refl

ended_behind : (p : ℕ) (l : List OpenBlock) (items ended : ℕ) → ended_from p l (suc items) ended ≡ ended
ended_behind p [] items ended = refl
ended_behind p (b ∷ l) items ended = refl

ended_open : (p : ℕ) (l : List OpenBlock) (items ended : ℕ) → 0 < length l → ended_from p l items ended ≡ ended
ended_open p [] items ended some = absurd (omega arith)
ended_open p (b ∷ l) items ended some = refl

-- ---- lists of entries

more_signs : (front : List Entry) (x : Entry) → signs_in (front ++ x ∷ []) ≡ signs_in front ++ x.sign ∷ []
more_signs [] x = refl
more_signs (y ∷ front) x = ap (λ (s : List Sign). y.sign ∷ s) (more_signs front x)

-- one more of each with the same sign
alike_more : (a b more rest : List Entry) (x y : Entry) → Alike a b (x ∷ more) (y ∷ rest) → x.sign ≡ y.sign → Alike a b more rest
alike_more a b more rest x y was same = record {
  front = was.front ++ x ∷ [];
  other_front = was.other_front ++ y ∷ [];
  first = was.first ∙ sym (append_assoc was.front (x ∷ []) more);
  second = was.second ∙ sym (append_assoc was.other_front (y ∷ []) rest);
  same = more_signs was.front x ∙ ap (λ (s : List Sign). s ++ x.sign ∷ []) was.same ∙ ap (λ (s : Sign). signs_in was.other_front ++ s ∷ []) same ∙ sym (more_signs was.other_front y);
}

alike_along : (a b c l m n o : List Entry) → b ≡ c → l ≡ m → n ≡ o → Alike a b l n → Alike a c m o
alike_along a b c l m n o e f g was = rw (sym e, sym f, sym g) was

-- ---- the open blocks of the second

abbrev pub with_blocks : Compared → blocks.OpenUnder → Compared
with_blocks c next = record { first = c.first; first_blocks = c.first_blocks; second_blocks = next; within = c.within; items = c.items; first_ended = c.first_ended; second_ended = c.second_ended; found = c.found }

module _ (begun old : Compared) (done : List Event) (event : Event) (was : Tallied begun done old) where
  judged : (b : Bool) → is_left old.second_blocks.setting old.second_blocks.ids event ≡ b → is_left begun.second_blocks.setting (ids_behind done []) event ≡ b
  judged b is = ap (λ (st : blocks.OpenUnder). is_left st.setting st.ids event) (sym was.stands) ∙ is

  -- the events that are left
  pub left_more : (b : Bool) → is_left old.second_blocks.setting old.second_blocks.ids event ≡ b → events_under begun.second_blocks.setting [] (done ++ event ∷ []) ≡ events_under begun.second_blocks.setting [] done ++ (if b then event ∷ [] else [])
  left_more b is = left_push begun.second_blocks.setting done event [] b (judged b is)

  pub stands_on : (next : blocks.OpenUnder) → next ≡ blocks.stands_after event old.second_blocks → next ≡ record { setting = begun.second_blocks.setting; ids = ids_behind (done ++ event ∷ []) [] }
  stands_on next is =
      is ∙ ap (blocks.stands_after event) was.stands ∙ ap (λ (ids : List ℕ). let st : blocks.OpenUnder = record { setting = begun.second_blocks.setting; ids = ids } in st) (sym (ids_behind-push done event []))

  -- as many blocks are open by the kept events, if each is kept
  pub some_left : list_all (keeps old.second_blocks.setting) old.second_blocks.ids ≡ true → 0 < left_open done → 0 < left_open (events_under begun.second_blocks.setting [] done)
  some_left all some =
      let same : list_all (keeps begun.second_blocks.setting) (ids_behind done []) ≡ true = ap (λ (st : blocks.OpenUnder). list_all (keeps st.setting) st.ids) (sym was.stands) ∙ all in
      omega (arith, left_as_many begun.second_blocks.setting done same, some)

-- ---- an event without a sign

pub tally_silent : (begun old : Compared) (done : List Event) (event : Event) (next : blocks.OpenUnder) → Tallied begun done old → next ≡ blocks.stands_after event old.second_blocks → ((ended : ℕ) → said_left old.second_blocks ended event ≡ None)
    → left_open (events_under begun.second_blocks.setting [] (done ++ event ∷ [])) ≡ left_open (events_under begun.second_blocks.setting [] done) → Tallied begun (done ++ event ∷ []) (with_blocks old next)
tally_silent begun old done event next was is none deep = record {
  stands = stands_on begun old done event was next is;
  tells = was.tells;
  depth = λ found. was.depth found ∙ sym deep;
  alike = λ tells found p following.
      alike_along (entries_of_first begun) _ _ (entries_of_first old) (entries_of_first old) _ _ (ap (entries_of_second p begun) (sym (append_assoc done (event ∷ []) following))) refl (entries_silent old.second_blocks next (here old (second_end p old)) event following (none (second_end p old)) is) (was.alike tells found p (event ∷ following));
  apart = λ tells f found p following.
      subst (λ (events : List Event). ApartAt (entries_of_first begun) (entries_of_second p begun events) (seen_of old f)) (sym (append_assoc done (event ∷ []) following)) (was.apart tells f found p (event ∷ following));
}

-- one that is left out
pub tally_left_out : (begun old : Compared) (done : List Event) (event : Event) (next : blocks.OpenUnder) → Tallied begun done old → next ≡ blocks.stands_after event old.second_blocks → is_left old.second_blocks.setting old.second_blocks.ids event ≡ false → Tallied begun (done ++ event ∷ []) (with_blocks old next)
tally_left_out begun old done event next was is out =
    tally_silent begun old done event next was is (λ ended. left_out_says old.second_blocks ended event out)
    (ap left_open (left_more begun old done event was false out ∙ append-nil (events_under begun.second_blocks.setting [] done)))

-- a definition
pub tally_definition : (begun old : Compared) (done : List Event) (mark : DefinitionMark) → Tallied begun done old → Tallied begun (done ++ defines mark ∷ []) old
tally_definition begun old done mark was = go (is_left old.second_blocks.setting old.second_blocks.ids (defines mark)) refl
  where
    go : (b : Bool) → is_left old.second_blocks.setting old.second_blocks.ids (defines mark) ≡ b → Tallied begun (done ++ defines mark ∷ []) old
    go true is =
        tally_silent begun old done (defines mark) old.second_blocks was refl (λ ended. left_says old.second_blocks ended (defines mark) is)
        (ap left_open (left_more begun old done (defines mark) was true is) ∙ open_behind-push (events_under begun.second_blocks.setting [] done) (defines mark) 0)
    go false is = tally_left_out begun old done (defines mark) old.second_blocks was refl is

-- ---- a sign

-- after a difference nothing changes but the open blocks
pub tally_stays : (begun old : Compared) (done : List Event) (event : Event) (f : Found) → Tallied begun done old → old.found ≡ Some f → Tallied begun (done ++ event ∷ []) (with_blocks old (blocks.stands_after event old.second_blocks))
tally_stays begun old done event f was found = record {
  stands = stands_on begun old done event was (blocks.stands_after event old.second_blocks) refl;
  tells = was.tells;
  depth = λ none. absurd cc;
  alike = λ tells none p following. absurd cc;
  apart = λ tells g is p following.
      subst (λ (events : List Event). ApartAt (entries_of_first begun) (entries_of_second p begun events) (seen_of old g)) (sym (append_assoc done (event ∷ []) following)) (was.apart tells g is p (event ∷ following));
}

-- the sign of an event that is kept, and its effect on the place
pub record IsSigned (old : Compared) (event : Event) (x : Said) : Type 0 where
  pub kept : is_left old.second_blocks.setting old.second_blocks.ids event ≡ true
  pub says : old.found ≡ None → (p : ℕ) → said_of (second_end p old) event ≡ Some x
  pub item : (entries : List Entry) → behind_sign x.sign entries ≡ entries
  pub ended : old.found ≡ None → (p before : ℕ) → (let s = stand_behind (here old before) x.sign x.ended in (ended_from p s.within s.items s.ended ≡ s.ended))
  pub deep : old.found ≡ None → (before : ℕ) → length (stand_behind (here old before) x.sign x.ended).within ≡ open_after event (length old.within)

-- the comparison when the sign of an event is taken
abbrev pub at_sign : Compared → Event → Compared
at_sign old event = with_blocks old (blocks.stands_after event old.second_blocks)

-- the entries of the second from there on
signed : (old : Compared) (event : Event) (x : Said) (p : ℕ) (following : List Event) → IsSigned old event x → old.found ≡ None
    → entries_of_second p old (event ∷ following) ≡ entry_at (here old (second_end p old)) x ∷ told_entries (stand_behind (here old (second_end p old)) x.sign x.ended) (blocks.left_of (blocks.stands_after event old.second_blocks) following)
signed old event x p following is none =
    entries_said old.second_blocks (blocks.stands_after event old.second_blocks) (here old (second_end p old)) event x following (left_says old.second_blocks (second_end p old) event is.kept ∙ is.says none p) refl

-- and those after the place
behind_place : (old new : Compared) (event : Event) (x : Said) (p : ℕ) (following : List Event) → IsSigned old event x → old.found ≡ None → new.second_blocks ≡ blocks.stands_after event old.second_blocks
    → ((before : ℕ) → here new new.second_ended ≡ stand_behind (here old before) x.sign x.ended)
    → told_entries (stand_behind (here old (second_end p old)) x.sign x.ended) (blocks.left_of (blocks.stands_after event old.second_blocks) following) ≡ entries_of_second p new following
behind_place old new event x p following is none stands moves =
    let place = moves (second_end p old) in
    let end : ended_from p new.within new.items new.second_ended ≡ new.second_ended =
    subst (λ (s : Stand). ended_from p s.within s.items s.ended ≡ s.ended) (sym place) (is.ended none p (second_end p old)) in
    let others = blocks.left_of (blocks.stands_after event old.second_blocks) following in
    ap (λ (s : Stand). told_entries s others) (sym place)
    ∙ ap (λ (e : ℕ). told_entries (here new e) others) (sym end)
    ∙ ap (λ (st : blocks.OpenUnder). told_entries (here new (second_end p new)) (blocks.left_of st following)) (sym stands)

tally_agrees : (begun old new : Compared) (done : List Event) (event : Event) (x : Said) → Tallied begun done old → IsSigned old event x → TakesSign (at_sign old event) x.sign x.bit x.ended new → old.found ≡ None → new.found ≡ None → Tallied begun (done ++ event ∷ []) new
tally_agrees begun old new done event x was is takes none found =
    let agrees = takes.same none found in record {
      stands = stands_on begun old done event was new.second_blocks takes.second_blocks;
      tells = λ tells. takes.tells (was.tells tells);
      depth = λ _.
          let deep : length new.within ≡ open_after event (length old.within) = ap (λ (s : Stand). length s.within) (agrees.moves 0) ∙ is.deep none 0 in
          deep ∙ ap (open_after event) (was.depth none) ∙ sym (ap left_open (left_more begun old done event was true is.kept) ∙ open_behind-push (events_under begun.second_blocks.setting [] done) event 0);
      alike = λ tells _ p following.
          let one = agrees.takes (was.tells tells) in
          alike_more (entries_of_first begun) _ (entries_of_first new) (entries_of_second p new following) (entry_at (here old old.first_ended) one.0) (entry_at (here old (second_end p old)) x)
          (alike_along (entries_of_first begun) _ _ (entries_of_first old) _ _ _ (ap (entries_of_second p begun) (sym (append_assoc done (event ∷ []) following)))
          (one.2 ∙ ap (λ (l : List Entry). entry_at (here old old.first_ended) one.0 ∷ l) (is.item (entries_of_first new)))
          (signed old event x p following is none ∙ ap (λ (l : List Entry). entry_at (here old (second_end p old)) x ∷ l) (behind_place old new event x p following is none takes.second_blocks agrees.moves))
          (was.alike tells none p (event ∷ following)))
          one.1;
      apart = λ tells f some p following. absurd cc;
    }

seen_apart : (old new : Compared) (x y : Said) (ended : ℕ) (f : Found) → Departs old y.sign y.bit f new → IsOther x y.sign f.first f.value → seen_of new f ≡ apart_at (entry_at (here old old.first_ended) x) (entry_at (here old ended) y)
seen_apart old new x y ended f departs other =
    let make : List OpenBlock → ℕ → Standing → Standing → Option ValueDifference → Seen = λ within items first second value. record { place = at_item within items; first = first; second = second; value = value } in
    let here_first : standing_shown f.first ≡ standing (entry_at (here old old.first_ended) x) = other.first in
    let here_second : standing_shown f.second ≡ standing (entry_at (here old ended) y) = departs.second in
    ap (λ (w : List OpenBlock). make w new.items (standing_shown f.first) (standing_shown f.second) f.value) departs.within
    ∙ ap (λ (n : ℕ). make old.within n (standing_shown f.first) (standing_shown f.second) f.value) departs.items
    ∙ ap (λ (s : Standing). make old.within old.items s (standing_shown f.second) f.value) here_first
    ∙ ap (λ (s : Standing). make old.within old.items (standing (entry_at (here old old.first_ended) x)) s f.value) here_second
    ∙ ap (λ (v : Option ValueDifference). make old.within old.items (standing (entry_at (here old old.first_ended) x)) (standing (entry_at (here old ended) y)) v) other.value

-- where the lists first differ
pub departs_there : (a b l m : List Entry) (old new : Compared) (y : Said) (ended : ℕ) (f : Found) (others : List Entry) → Alike a b l m → m ≡ entry_at (here old ended) y ∷ others → Departs old y.sign y.bit f new
    → ((x : Said) × (rest : List Entry) × (l ≡ entry_at (here old old.first_ended) x ∷ rest) × IsOther x y.sign f.first f.value) → ApartAt a b (seen_of new f)
departs_there a b l m old new y ended f others was stands departs one = (
  entry_at (here old old.first_ended) one.0,
  entry_at (here old ended) y,
  record {
    front = was.front;
    rest = one.1;
    other_front = was.other_front;
    other_rest = others;
    first = was.first ∙ ap (λ (s : List Entry). was.front ++ s) one.2;
    second = was.second ∙ ap (λ (s : List Entry). was.other_front ++ s) stands;
    same = was.same;
    unlike = one.3.unlike;
    within = refl;
    items = refl;
  },
  seen_apart old new one.0 y ended f departs one.3,
)

tally_departs : (begun old new : Compared) (done : List Event) (event : Event) (x : Said) (g : Found) → Tallied begun done old → IsSigned old event x → TakesSign (at_sign old event) x.sign x.bit x.ended new → old.found ≡ None → new.found ≡ Some g → Tallied begun (done ++ event ∷ []) new
tally_departs begun old new done event x g was is takes none found = record {
  stands = stands_on begun old done event was new.second_blocks takes.second_blocks;
  tells = λ tells. takes.tells (was.tells tells);
  depth = λ no. absurd cc;
  alike = λ tells no p following. absurd cc;
  apart = λ tells f some p following.
      let departs = takes.other none f some in
      departs_there (entries_of_first begun) _ (entries_of_first old) _ (at_sign old event) new x (second_end p old) f _
      (alike_along (entries_of_first begun) _ _ (entries_of_first old) (entries_of_first old) _ _ (ap (entries_of_second p begun) (sym (append_assoc done (event ∷ []) following))) refl refl (was.alike tells none p (event ∷ following)))
      (signed old event x p following is none)
      departs
      (departs.takes (was.tells tells));
}

by_new : (begun old new : Compared) (done : List Event) (event : Event) (x : Said) (o : Option Found) → Tallied begun done old → IsSigned old event x → TakesSign (at_sign old event) x.sign x.bit x.ended new → old.found ≡ None → new.found ≡ o → Tallied begun (done ++ event ∷ []) new
by_new begun old new done event x None was is takes none found = tally_agrees begun old new done event x was is takes none found
by_new begun old new done event x (Some g) was is takes none found = tally_departs begun old new done event x g was is takes none found

by_old : (begun old new : Compared) (done : List Event) (event : Event) (x : Said) (o : Option Found) → Tallied begun done old → IsSigned old event x → TakesSign (at_sign old event) x.sign x.bit x.ended new → old.found ≡ o → Tallied begun (done ++ event ∷ []) new
by_old begun old new done event x None was is takes found = by_new begun old new done event x new.found was is takes found refl
by_old begun old new done event x (Some f) was is takes found = subst (λ (c : Compared). Tallied begun (done ++ event ∷ []) c) (sym (takes.stays f found)) (tally_stays begun old done event f was found)

-- an event with a sign was taken
pub tally_sign : (begun old new : Compared) (next : blocks.OpenUnder) (done : List Event) (event : Event) (x : Said) → Tallied begun done old → next ≡ blocks.stands_after event old.second_blocks → IsSigned old event x → TakesSign (with_blocks old next) x.sign x.bit x.ended new
    → Tallied begun (done ++ event ∷ []) new
tally_sign begun old new next done event x was stands is takes = by_old begun old new done event x old.found was is (subst (λ (st : blocks.OpenUnder). TakesSign (with_blocks old st) x.sign x.bit x.ended new) stands takes) refl

-- ---- the comparison begins

pub tally_begun : (c : Compared) → c.within ≡ [] → c.second_blocks.ids ≡ [] → c.found ≡ None → Tallied c [] c
tally_begun c top outside found = record {
  stands = ap (λ (ids : List ℕ). let st : blocks.OpenUnder = record { setting = c.second_blocks.setting; ids = ids } in st) outside;
  tells = λ tells. tells;
  depth = λ _. ap length top;
  alike = λ tells _ p following. record { front = []; other_front = []; first = refl; second = refl; same = refl };
  apart = λ tells f some p following. absurd cc;
}

-- ---- one sign is taken

pub departed : (old : Compared) (coming : Coming) (now : blocks.OpenUnder) (sign : Sign) (bit ended : ℕ) (f : Found) (p : Apart) → f.first ≡ p.first → f.value ≡ p.value → old.found ≡ None → (TellsComing old.first → Took old.first_blocks (here old old.first_ended) old.first sign Other p now coming)
    → (let s : Standing = record { bit = bit; what = what_of sign } in (standing_shown f.second ≡ s))
    → TakesSign old sign bit ended (record { first = coming; first_blocks = now; second_blocks = old.second_blocks; within = old.within; items = old.items; first_ended = old.first_ended; second_ended = old.second_ended; found = Some f })
departed old coming now sign bit ended f p first value none took second = record {
  second_blocks = refl;
  tells = λ tells. (took tells).tells;
  stays = λ g some. absurd cc;
  same = λ _ no. absurd cc;
  other = λ _ g some.
      let is : f ≡ g = cc in
      record {
        within = refl;
        items = refl;
        second = ap (λ (h : Found). standing_shown h.second) (sym is) ∙ second;
        takes = λ tells. let one = took tells in (one.found, behind_sign one.found.sign (told_entries (stand_behind (here old old.first_ended) one.found.sign one.found.ended) (blocks.left_of now coming.told.0)), one.is, subst (λ (h : Found). IsOther one.found sign h.first h.value) is (rw (first, value) one.beside));
      };
}

-- it agrees
module _ (old : Compared) (coming : Coming) (now : blocks.OpenUnder) (within : List OpenBlock) (items : ℕ) (sign : Sign) (bit ended first_ended : ℕ) (p : Apart) where
  pub agreed : old.found ≡ None → ((before behind : ℕ) → (let s : Stand = record { within = within; items = items; ended = behind } in (s ≡ stand_behind (here old before) sign behind))) → (TellsComing old.first → Took old.first_blocks (here old old.first_ended) old.first sign (Same first_ended) p now coming)
      → TakesSign old sign bit ended (record { first = coming; first_blocks = now; second_blocks = old.second_blocks; within = within; items = items; first_ended = first_ended; second_ended = ended; found = old.found })
  agreed none moves took = record {
    second_blocks = refl;
    tells = λ tells. (took tells).tells;
    stays = λ g some. absurd cc;
    same = λ _ _. record {
      moves = λ before. moves before ended;
      takes = λ tells.
          let one = took tells in
          let s = here old old.first_ended in
          let events = blocks.left_of now coming.told.0 in
          let behind : behind_sign one.found.sign (told_entries (stand_behind s one.found.sign one.found.ended) events) ≡ behind_sign sign (told_entries (stand_behind s sign first_ended) events) = rw (one.beside.0, one.beside.1) refl in
          (one.found, one.beside.0, one.is ∙ ap (λ (l : List Entry). entry_at s one.found ∷ l) (behind ∙ ap (λ (t : Stand). behind_sign sign (told_entries t events)) (sym (moves old.first_ended first_ended))));
    };
    other = λ _ g some. absurd cc;
  }

-- ---- the signs of events

pub begin_signed : (old : Compared) (o : Opened) → is_left old.second_blocks.setting old.second_blocks.ids (enters o) ≡ true → IsSigned old (enters o) (record { sign = begins o.id; bit = o.first; ended = o.body })
begin_signed old o kept = record {
  kept = kept;
  says = λ found p. refl;
  item = λ entries. refl;
  ended = λ found p before. ended_inside p old.within (open_block_with o.id old.items) 0 o.body;
  deep = λ found before. omega (arith, length-append old.within (open_block_with o.id old.items ∷ []));
}

pub record_signed : (old : Compared) (mark : RecordMark) → is_left old.second_blocks.setting old.second_blocks.ids (notes mark) ≡ true → IsSigned old (notes mark) (record { sign = has_record mark.code mark.values; bit = mark.first; ended = mark.after })
record_signed old mark kept = record {
  kept = kept;
  says = λ found p. refl;
  item = λ entries. refl;
  ended = λ found p before. ended_behind p old.within old.items mark.after;
  deep = λ found before. refl;
}

closed_ends : (p : ℕ) (l : List OpenBlock) (items ended : ℕ) → 0 < length l → (let s = stand_behind_block l items ended in ((ended_from p s.within s.items s.ended ≡ s.ended) × (length s.within ≡ length l - 1)))
closed_ends p [] items ended some = absurd (omega arith)
closed_ends p (b ∷ []) items ended some = (refl, refl)
closed_ends p (b ∷ c ∷ l) items ended some = let rest = closed_ends p (c ∷ l) items ended (omega arith) in (refl, omega (arith, rest.1))

pub end_signed : (old : Compared) (after : ℕ) → is_left old.second_blocks.setting old.second_blocks.ids (leaves after) ≡ true → (old.found ≡ None → 0 < length old.within) → IsSigned old (leaves after) (record { sign = ends; bit = old.second_ended; ended = after })
end_signed old after kept some = record {
  kept = kept;
  says = λ found p. ap (λ (bit : ℕ). Some (let x : Said = record { sign = ends; bit = bit; ended = after } in x)) (ended_open p old.within old.items old.second_ended (some found));
  item = λ entries. refl;
  ended = λ found p before. (closed_ends p old.within old.items after (some found)).0;
  deep = λ found before. (closed_ends 0 old.within old.items after (some found)).1;
}

-- ---- one event of the first

pub gave : (old new : Coming) (event : Event) (list : List ℕ) → GivesEvent old event (record new { held = list }) → Gave old event new
gave old new event list g = record { tells = g.pays.tells; told = g.told; forward = g.forward; below = g.below }

-- no event is the end of the stream
item_of : (ended : ℕ) (event : Event) (x : Said) (entries : List Entry) → said_of ended event ≡ Some x → behind_sign x.sign entries ≡ entries
item_of ended (enters o) x entries e = (let is : Said = record { sign = begins o.id; bit = o.first; ended = o.body } in let same : is ≡ x = cc in subst (λ (y : Said). behind_sign y.sign entries ≡ entries) same refl)
item_of ended (defines mark) x entries e = absurd (cc)
item_of ended (notes mark) x entries e = (let is : Said = record { sign = has_record mark.code mark.values; bit = mark.first; ended = mark.after } in let same : is ≡ x = cc in subst (λ (y : Said). behind_sign y.sign entries ≡ entries) same refl)
item_of ended (leaves after) x entries e = (let is : Said = record { sign = ends; bit = ended; ended = after } in let same : is ≡ x = cc in subst (λ (y : Said). behind_sign y.sign entries ≡ entries) same refl)

left_item : (stands : blocks.OpenUnder) (ended : ℕ) (event : Event) (x : Said) (entries : List Entry) → said_left stands ended event ≡ Some x → behind_sign x.sign entries ≡ entries
left_item stands ended event x entries e = go (is_left stands.setting stands.ids event) e
  where
    go : (b : Bool) → (if b then said_of ended event else None) ≡ Some x → behind_sign x.sign entries ≡ entries
    go true is = item_of ended event x entries is
    go false is = absurd (cc)

-- its entry comes before those of the others
pub stepped : (stands now : blocks.OpenUnder) (s : Stand) (old new : Coming) (event : Event) (sign : Sign) (w : Weighed) (p : Apart) → Gave old event new → now ≡ blocks.stands_after event stands → Weighs stands s.ended event sign w p → Steps stands s old sign w p now new
stepped stands now s old new event sign weighed.Passed p g is none = record {
  tells = g.tells;
  same = λ tells. ap (λ (t : Told). told_entries s (blocks.left_of stands t.0)) (g.told tells) ∙ entries_silent stands now s event new.told.0 none is;
  forward = g.forward;
  below = g.below;
}
stepped stands now s old new event sign (weighed.Stands beside) p g is says = λ tells. record {
  tells = g.tells tells;
  found = says.found;
  is = ap (λ (t : Told). told_entries s (blocks.left_of stands t.0)) (g.told tells) ∙ entries_said stands now s event says.found new.told.0 says.is is
      ∙ ap (λ (l : List Entry). entry_at s says.found ∷ l) (sym (left_item stands s.ended event says.found (told_entries (stand_behind s says.found.sign says.found.ended) (blocks.left_of now new.told.0)) says.is));
  beside = says.beside;
}

-- events of which none is kept come before it
pub took_behind : (stands between now : blocks.OpenUnder) (s : Stand) (old mid new : Coming) (sign : Sign) (b : Beside) (p : Apart) → told_entries s (blocks.left_of stands old.told.0) ≡ told_entries s (blocks.left_of between mid.told.0) → Took between s mid sign b p now new → Took stands s old sign b p now new
took_behind stands between now s old mid new sign b p same took = record { tells = took.tells; found = took.found; is = same ∙ took.is; beside = took.beside }

-- ---- a record of the first that begins with the values of another one

same_number : (n : ℕ) → eqb n n ≡ true
same_number n = go (eqb n n) (eqb_refl n)
  where
    go : (b : Bool) → T b → b ≡ true
    go true t = refl
    go false t = absurd t

-- they differ nowhere
front_apart : (k n : ℕ) (list : List ℕ) → first_unlike k (take n list) list ≡ None
front_apart k zero [] = refl
front_apart k (suc n) [] = refl
front_apart k zero (x ∷ list) = refl
front_apart k (suc n) (x ∷ list) = rw (same_number x) (front_apart (suc k) n list)

front_value : (code other n : ℕ) (list : List ℕ) → None ≡ value_apart (has_record code (take n list)) (has_record other list)
front_value code other n list = go (eqb code other)
  where
    go : (t : Bool) → None ≡ (if t then first_unlike 0 (take n list) list else None)
    go true = sym (front_apart 0 n list)
    go false = refl

-- the values read after the expected ones
pub read_front : (e : Expected) (others after list : List ℕ) → HasTaken e after → after ≡ take (2 ^ 62) others ++ list → take (2 ^ 62) others ≡ others → HasTaken e (others ++ list)
read_front e others after list had parts whole = subst (HasTaken e) (parts ∙ ap (λ (front : List ℕ). front ++ list) whole) had

-- left out
pub record_passed : (stands : blocks.OpenUnder) (old new : Coming) (id code first after : ℕ) (list : List ℕ) (sign : Sign) (p : Apart) → GivesEvent old (record_of id list first (code, after)) (record new { held = list }) → is_left stands.setting stands.ids (record_of id list first (code, after)) ≡ false → WeighsNext stands old sign weighed.Passed p new
record_passed stands old new id code first after list sign p g out = record {
  event = record_of id list first (code, after);
  gave = gave old new (record_of id list first (code, after)) list g;
  stays = refl;
  weighs = λ ended. left_out_says stands ended (record_of id list first (code, after)) out;
}

-- kept, and compared with another one with this result
pub record_beside : (stands : blocks.OpenUnder) (old new : Coming) (id code first after : ℕ) (list : List ℕ) (sign : Sign) (b : Beside) (p : Apart) → GivesEvent old (record_of id list first (code, after)) (record new { held = list }) → is_left stands.setting stands.ids (record_of id list first (code, after)) ≡ true
    → StandsBeside (record { sign = has_record code list; bit = first; ended = after }) sign b p → WeighsNext stands old sign (weighed.Stands b) p new
record_beside stands old new id code first after list sign b p g kept is = record {
  event = event;
  gave = gave old new event list g;
  stays = refl;
  weighs = λ ended. subst (λ (o : Option Said). IsBeside o sign (weighed.Stands b) p) (sym (left_says stands ended event kept)) (record_says (record { abbreviation = id; code = code; values = list; first = first; after = after }) ended sign b p is);
}
  where
    event : Event
    event = record_of id list first (code, after)

-- the same record
pub record_same : (code first after other count : ℕ) (list others : List ℕ) (p : Apart) → list ≡ take count others → count ≡ length others → code ≡ other → StandsBeside (record { sign = has_record code list; bit = first; ended = after }) (has_record other others) (Same after) p
record_same code first after other count list others p is all same = (rw (is, all, same, take-length others) refl, refl)

-- a different record
pub record_other : (code first after other count : ℕ) (list others : List ℕ) (p : Apart) → list ≡ take count others → count ≤ length others → ((code ≡ other) × (count ≡ length others) → ⊥) → (let s : Standing = record { bit = first; what = the_record code count } in (standing_shown p.first ≡ s)) → p.value ≡ None
    → StandsBeside (record { sign = has_record code list; bit = first; ended = after }) (has_record other others) Other p
record_other code first after other count list others p is few unlike told value = record {
  unlike = λ e. unlike (cc, omega (arith, many, ap length (values_same e)));
  first = told ∙ ap (λ (n : ℕ). let s : Standing = record { bit = first; what = the_record code n } in s) (sym many);
  value = value ∙ subst (λ (xs : List ℕ). None ≡ value_apart (has_record code xs) (has_record other others)) (sym is) (front_value code other count others);
}
  where
    many : length list ≡ count
    many = ap length is ∙ length-take-le count others few

    values_same : has_record code list ≡ has_record other others → list ≡ others
    values_same e = cc
