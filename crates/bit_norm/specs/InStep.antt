-- The effect of reading an input in step with another one.
use Rattle.std.specs.Prelude.{◌≡◌, ◌≢◌, ◌<◌, ◌^◌, ℕ, zero, suc, List, [], ◌∷◌, ◌++◌, Option, Some, None, IsSome, Result, Ok, Err, length, if◌then◌else◌}
use Rattle.bit_grammar.specs.Setting.{Setting}
use Rattle.bit_grammar.specs.Under.{is_left, ids_behind, events_under}
use Rattle.bit_grammar.specs.Blocks.{Limits}
use Rattle.bit_grammar.specs.Input.{SpellsInput}
use Rattle.bit_grammar.specs.Terms.{Marked}
use Rattle.bit_grammar.specs.Machine.{Event, enters, defines, notes, leaves}
use Rattle.bit_fields.specs.declared.fault.Fault.{Fault}
use Rattle.bit_fields.specs.declared.fault.Fault.TheVariants.{Memory}
use Rattle.bit_fields.specs.Devices.{Incoming, known_bytes}
use Rattle.bit_events.specs.Coming.{Coming, TellsComing, event_before}
use Rattle.bit_events.specs.Gathering.{left_open}
use Rattle.bit_events.specs.Standing as blocks
use Rattle.bit_events.specs.Reading.{Spent}
use Rattle.bit_norm.specs.Entries as tree
use Rattle.bit_norm.specs.Entries.{begins, has_record, ends, over, Entry, entry_with, open_block_with, signs_in, FirstApart, Seen, at_item, what_of, value_apart, apart_at, standing_shown, difference_shown, behind_magic, magics_apart, Differs}
use Rattle.bit_norm.specs.Whole.{ReadsTree}
use Rattle.bit_norm.specs.declared.differences.OpenBlock.{OpenBlock}
use Rattle.bit_norm.specs.declared.differences.Standing.{Standing}
use Rattle.bit_norm.specs.declared.differences.ValueDifference.{ValueDifference}
use Rattle.bit_norm.specs.declared.differences.Difference.{Difference}
use Rattle.bit_norm.specs.declared.sign.Sign.{Sign}
use Rattle.bit_norm.specs.declared.sign.Sign.TheVariants.{Begins, Record, Ends, Over}
use Rattle.bit_norm.specs.declared.walk.Walk.{Walk}
use Rattle.bit_norm.specs.declared.in_step.Apart.{Apart}
use Rattle.bit_norm.specs.declared.in_step.Beside.{Beside}
use Rattle.bit_norm.specs.declared.in_step.Beside.TheVariants.{Same, Other}
use Rattle.bit_norm.specs.declared.in_step.Weighed.{Weighed}
use Rattle.bit_norm.specs.declared.in_step.Weighed.TheVariants as weighed
use Rattle.bit_norm.specs.declared.in_step.Found.{Found}
use Rattle.bit_norm.specs.declared.comparing.Which.{Which}
use Rattle.bit_norm.specs.declared.comparing.Which.TheVariants.{First, Second}
use Rattle.bit_norm.specs.declared.comparing.SameFault.{SameFault}

-- ---- the entries of events

-- a place among the items of a tree, and where what comes before it ended
pub record Stand : Type 0 where
  pub within : List OpenBlock
  pub items : ℕ
  pub ended : ℕ

-- the sign of an event, where it begins, and where it ends; of a block, where its items begin
pub record Said : Type 0 where
  pub sign : tree.Sign
  pub bit : ℕ
  pub ended : ℕ

-- the sign of an event, if what comes before it ended at a bit
abbrev pub said_of : (ended : ℕ) → Event → Option Said
said_of ended (enters o) = Some (record { sign = begins o.id; bit = o.first; ended = o.body })
said_of ended (defines mark) = None
said_of ended (notes mark) = Some (record {
  sign = has_record mark.code mark.values;
  bit = mark.first;
  ended = mark.after;
})
said_of ended (leaves after) = Some (record { sign = ends; bit = ended; ended = after })

-- the same, if the event is kept with these blocks open before it
abbrev pub said_left : blocks.OpenUnder → (ended : ℕ) → Event → Option Said
said_left stands ended event = if is_left stands.setting stands.ids event then said_of ended event
    else None

-- the place after the innermost open block
abbrev pub stand_behind_block : List OpenBlock → (items ended : ℕ) → Stand
stand_behind_block [] items ended = record { within = []; items = items; ended = ended }
stand_behind_block (b ∷ []) items ended = record { within = []; items = suc b.items; ended = ended }
stand_behind_block (b ∷ c ∷ rest) items ended = (let s = stand_behind_block (c ∷ rest) items ended
    in record { within = b ∷ s.within; items = s.items; ended = s.ended })

-- the place after a sign
abbrev pub stand_behind : Stand → tree.Sign → (ended : ℕ) → Stand
stand_behind s (begins id) ended = record {
  within = s.within ++ open_block_with id s.items ∷ [];
  items = 0;
  ended = ended;
}
stand_behind s (has_record code values) ended = record {
  within = s.within;
  items = suc s.items;
  ended = ended;
}
stand_behind s ends ended = stand_behind_block s.within s.items ended
stand_behind s over ended = record { within = s.within; items = s.items; ended = ended }

abbrev pub entry_at : Stand → Said → Entry
entry_at s x = entry_with s.within s.items x.sign x.bit

abbrev pub stand_after : Stand → Option Said → Stand
stand_after s None = s
stand_after s (Some x) = stand_behind s x.sign x.ended

abbrev pub put_entry : Stand → Option Said → List Entry → List Entry
put_entry s None entries = entries
put_entry s (Some x) entries = entry_at s x ∷ entries

-- the entries of events in order, and then the end of the stream
abbrev pub told_entries : Stand → List Event → List Entry
told_entries s [] = entry_with s.within s.items over s.ended ∷ []
told_entries s (event ∷ events) = put_entry s (said_of s.ended event)
    (told_entries (stand_after s (said_of s.ended event)) events)

-- nothing comes after the end of the stream
abbrev pub behind_sign : tree.Sign → List Entry → List Entry
behind_sign (begins id) entries = entries
behind_sign (has_record code values) entries = entries
behind_sign ends entries = entries
behind_sign over entries = []

-- ---- the program's state

-- a sign of the program
abbrev pub sign_shown : Sign → tree.Sign
sign_shown (Begins id) = begins id
sign_shown (Record code values) = has_record code values.now
sign_shown Ends = ends
sign_shown Over = over

-- the place in two trees that are compared
abbrev pub stand_of : Walk → (ended : ℕ) → Stand
stand_of walk ended = record { within = walk.open.items; items = walk.items; ended = ended }

-- ---- one event of the first input, compared with a sign of the second

-- a different sign
pub record IsOther (x : Said) (sign : tree.Sign) (s : Standing)
    (v : Option ValueDifference) : Type 0 where
  pub unlike : x.sign ≢ sign
  pub first : standing_shown s ≡ record { bit = x.bit; what = what_of x.sign }
  pub value : v ≡ value_apart x.sign sign

-- the sign of the event is this one, and ends at this bit; or it is different
abbrev pub StandsBeside : Said → tree.Sign → Beside → Apart → Type 0
StandsBeside x sign (Same ended) apart = (x.sign ≡ sign) × (x.ended ≡ ended)
StandsBeside x sign Other apart = IsOther x sign apart.first apart.value

-- this difference was stored: the first input has this, and the second a sign that begins at a bit
abbrev pub PutsDown : Apart → tree.Sign → (bit : ℕ) → Option Found → Type 0
PutsDown apart sign bit found = (f : Found) × (found ≡ Some f) × (f.first ≡ apart.first)
    × (f.value ≡ apart.value) × (standing_shown f.second ≡ record { bit = bit; what = what_of sign })

-- the event has a sign, and this is the result of comparing it
pub record SaysBeside (o : Option Said) (sign : tree.Sign) (b : Beside) (apart : Apart)
    : Type 0 where
  pub found : Said
  pub is : o ≡ Some found
  pub beside : StandsBeside found sign b apart

-- the event has no sign, or this is the result of comparing it
abbrev pub IsBeside : Option Said → tree.Sign → Weighed → Apart → Type 0
IsBeside o sign weighed.Passed apart = o ≡ None
IsBeside o sign (weighed.Stands beside) apart = SaysBeside o sign beside apart

-- the same for an event, if it is kept
abbrev pub Weighs : blocks.OpenUnder → (ended : ℕ) → Event → tree.Sign → Weighed → Apart → Type 0
Weighs stands ended event sign answer apart = IsBeside (said_left stands ended event) sign answer
    apart

-- an event was read
pub record Gave (old : Coming) (event : Event) (new : Coming) : Type 0 where
  pub tells : TellsComing old → TellsComing new
  pub told : TellsComing old → old.told ≡ event_before event new.told
  pub forward : old.position < new.position
  pub below : new.position < 2 ^ 64

-- an event was read that opens and closes no block, and this is the result of comparing it, if it is kept
pub record WeighsNext (stands : blocks.OpenUnder) (old : Coming) (sign : tree.Sign)
    (answer : Weighed) (apart : Apart) (new : Coming) : Type 0 where
  pub event : Event
  pub gave : Gave old event new
  pub stays : blocks.stands_after event stands ≡ stands
  pub weighs : (ended : ℕ) → Weighs stands ended event sign answer apart

-- events were read, none of which is kept
pub record Passes (stands : blocks.OpenUnder) (s : Stand) (old : Coming) (now : blocks.OpenUnder)
    (new : Coming) : Type 0 where
  pub tells : TellsComing old → TellsComing new
  pub same : TellsComing old → told_entries s (blocks.left_of stands old.told.0)
      ≡ told_entries s (blocks.left_of now new.told.0)
  pub forward : old.position < new.position
  pub below : new.position < 2 ^ 64

-- The next entry of the first input, or the end of its stream, was taken, and this is the result of comparing it with a sign.
pub record Took (stands : blocks.OpenUnder) (s : Stand) (old : Coming) (sign : tree.Sign)
    (b : Beside) (apart : Apart) (now : blocks.OpenUnder) (new : Coming) : Type 0 where
  pub tells : TellsComing new
  pub found : Said
  pub is : told_entries s (blocks.left_of stands old.told.0)
      ≡ entry_at s found ∷ behind_sign found.sign
      (told_entries (stand_behind s found.sign found.ended) (blocks.left_of now new.told.0))
  pub beside : StandsBeside found sign b apart

-- the next event, or the end of the stream, was taken, and this is the result of comparing it, if it is kept
abbrev pub Steps : blocks.OpenUnder → Stand → Coming → tree.Sign → Weighed → Apart
    → blocks.OpenUnder → Coming → Type 0
Steps stands s old sign weighed.Passed apart now new = Passes stands s old now new
Steps stands s old sign (weighed.Stands beside) apart now new = TellsComing old
    → Took stands s old sign beside apart now new

-- the next entry, or the end of the stream, was taken, and this is the result of comparing it
abbrev pub Meets : blocks.OpenUnder → Stand → Coming → tree.Sign → Beside → Apart
    → blocks.OpenUnder → Coming → Type 0
Meets stands s old sign beside apart now new = TellsComing old
    → Took stands s old sign beside apart now new

-- ---- the comparison

-- The state of a comparison: the remaining events of the first input, the open blocks in each, the place in both, where what comes
-- before it ended in each, and the difference that was found.
pub record Compared : Type 0 where
  pub first : Coming
  pub first_blocks : blocks.OpenUnder
  pub second_blocks : blocks.OpenUnder
  pub within : List OpenBlock
  pub items : ℕ
  pub first_ended : ℕ
  pub second_ended : ℕ
  pub found : Option Found

abbrev pub here : Compared → (ended : ℕ) → Stand
here c ended = record { within = c.within; items = c.items; ended = ended }

-- the remaining entries of the first
abbrev pub entries_of_first : Compared → List Entry
entries_of_first c = told_entries (here c c.first_ended)
    (blocks.left_of c.first_blocks c.first.told.0)

-- where what comes before a place ended: before all items at the top, that is the magic
abbrev pub ended_from : (behind_magic : ℕ) → List OpenBlock → (items ended : ℕ) → ℕ
ended_from behind_magic [] zero ended = behind_magic
ended_from behind_magic [] (suc items) ended = ended
ended_from behind_magic (b ∷ within) items ended = ended

abbrev pub second_end : (behind_magic : ℕ) → Compared → ℕ
second_end behind_magic c = ended_from behind_magic c.within c.items c.second_ended

-- the entries of these events of the second, whose magic ends at this bit
abbrev pub entries_of_second : (behind_magic : ℕ) → Compared → List Event → List Entry
entries_of_second behind_magic c events = told_entries (here c (second_end behind_magic c))
    (blocks.left_of c.second_blocks events)

abbrev pub seen_of : Compared → Found → Seen
seen_of c f = record {
  place = at_item c.within c.items;
  first = standing_shown f.first;
  second = standing_shown f.second;
  value = f.value;
}

-- the next entry of the first has this sign too
pub record Agrees (old : Compared) (sign : tree.Sign) (ended : ℕ) (new : Compared) : Type 0 where
  pub moves : (before : ℕ) → here new new.second_ended ≡ stand_behind (here old before) sign ended
  pub takes : TellsComing old.first → (x : Said) × (x.sign ≡ sign)
      × (entries_of_first old ≡ entry_at (here old old.first_ended) x
      ∷ behind_sign sign (entries_of_first new))

-- it has a different one
pub record Departs (old : Compared) (sign : tree.Sign) (bit : ℕ) (f : Found)
    (new : Compared) : Type 0 where
  pub within : new.within ≡ old.within
  pub items : new.items ≡ old.items
  pub second : standing_shown f.second ≡ record { bit = bit; what = what_of sign }
  pub takes : TellsComing old.first → (x : Said) × (rest : List Entry)
      × (entries_of_first old ≡ entry_at (here old old.first_ended) x ∷ rest)
      × IsOther x sign f.first f.value

-- A sign of the second, which begins and ends at these bits, was compared with the next entry of the first, unless a difference was
-- found before.
pub record TakesSign (old : Compared) (sign : tree.Sign) (bit ended : ℕ)
    (new : Compared) : Type 0 where
  pub second_blocks : new.second_blocks ≡ old.second_blocks
  pub tells : TellsComing old.first → TellsComing new.first
  pub stays : (f : Found) → old.found ≡ Some f → new ≡ old
  pub same : old.found ≡ None → new.found ≡ None → Agrees old sign ended new
  pub other : old.found ≡ None → (f : Found) → new.found ≡ Some f → Departs old sign bit f new

-- two lists of entries have prefixes with the same signs, and this is left of each
pub record Alike (a b left_of_a left_of_b : List Entry) : Type 0 where
  pub front : List Entry
  pub other_front : List Entry
  pub first : a ≡ front ++ left_of_a
  pub second : b ≡ other_front ++ left_of_b
  pub same : signs_in front ≡ signs_in other_front

-- this is the first difference of two lists of entries
abbrev pub ApartAt : List Entry → List Entry → Seen → Type 0
ApartAt a b seen = (x y : Entry) × FirstApart a b x y × (seen ≡ apart_at x y)

-- These events of the second input were read. If no difference was found, the entries of all events, whatever follows, and those of
-- the first begin with the same signs. If one was found it is their first.
pub record Tallied (begun : Compared) (events : List Event) (last : Compared) : Type 0 where
  pub stands : last.second_blocks ≡ record {
    setting = begun.second_blocks.setting;
    ids = ids_behind events [];
  }
  pub tells : TellsComing begun.first → TellsComing last.first
  pub depth : last.found ≡ None → length last.within
      ≡ left_open (events_under begun.second_blocks.setting [] events)
  pub alike : TellsComing begun.first → last.found ≡ None
      → (behind_magic : ℕ) (following : List Event)
      → Alike (entries_of_first begun) (entries_of_second behind_magic begun (events ++ following))
      (entries_of_first last) (entries_of_second behind_magic last following)
  pub apart : TellsComing begun.first → (f : Found) → last.found ≡ Some f
      → (behind_magic : ℕ) (following : List Event)
      → ApartAt (entries_of_first begun) (entries_of_second behind_magic begun
      (events ++ following)) (seen_of last f)

-- the result is the difference that was found, if one was
abbrev pub AnswersFound : Compared → Option Difference → Type 0
AnswersFound c None = c.found ≡ None
AnswersFound c (Some difference) = (f : Found) × (c.found ≡ Some f)
    × (difference_shown difference ≡ seen_of c f)

-- the end of the second, whose magic ends at this bit, was compared with the first as well
abbrev pub Finishes : (behind_magic : ℕ) → Compared → Option Difference → Type 0
Finishes behind_magic c answer = (let bit = second_end behind_magic c in (last : Compared)
    × TakesSign c over bit bit last × AnswersFound last answer)

-- an input was read, and has a marked tree, if it is known, and the result is where its tree and that of the other bytes differ
abbrev pub ReadBeside : Setting → Limits → (bytes : List ℕ) → Incoming → Option Difference
    → Incoming → Type 0
ReadBeside setting limits bytes j answer later =
    Spent limits j later × (IsSome j.to_come → (m : Marked)
    × SpellsInput limits (known_bytes j.to_come) m × (known_bytes later.to_come ≡ [])
    × ((other : Marked) → SpellsInput limits bytes other → Differs setting other m answer))

-- why it was not read: an allocation failed before its source was called, or the input was not accepted
abbrev pub NotRead : Setting → Limits → Which → Fault → Incoming → Incoming → Type 0
NotRead setting limits First fault j later = (fault ≡ Memory) × (later ≡ j)
NotRead setting limits Second fault j later = ReadsTree setting limits j (Err fault) later

-- the effect of reading an input in step with bytes
abbrev pub ComparesWith : Setting → Limits → (bytes : List ℕ) → Incoming
    → Result (Option Difference) SameFault → Incoming → Type 0
ComparesWith setting limits bytes j (Ok answer) later = ReadBeside setting limits bytes j answer
    later
ComparesWith setting limits bytes j (Err e) later = NotRead setting limits e.which e.fault j later
