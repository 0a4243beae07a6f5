-- A normal form that is being built, and the form after the events that follow.
use Rattle.std.specs.Prelude.{◌≡◌, ℕ, suc, ◌+◌, ◌-◌, ◌/◌, ◌%◌, ◌^◌, ◌<◌, ◌≤◌, Bool, true, false, List, [], ◌∷◌, ◌++◌, length, min, take, ◌&&◌}
use Rattle.std.specs.List.{list_all}
use Rattle.bit_grammar.specs.Setting.{keeps, keeps_record}
use Rattle.bit_grammar.specs.Under.{ids_behind, innermost, events_under}
use Rattle.bit_grammar.specs.Bits.{bits_of}
use Rattle.bit_grammar.specs.Forest.{Forest}
use Rattle.bit_grammar.specs.Machine.{Event, Opened, enters, notes, leaves}
use Rattle.bit_grammar.specs.Marks.{RecordMark}
use Rattle.bit_grammar.specs.Normal.{values_bits, end_text, normal}
use Rattle.bit_grammar.specs.Size.{end_of}
use Rattle.bit_events.specs.Gathering.{left_open}
use Rattle.bit_norm.specs.Told.{told_at_level}
use Rattle.bit_events.specs.Standing.{OpenUnder}
use Rattle.bit_norm.specs.declared.form_values.Holding.{Holding}
use Rattle.bit_norm.specs.declared.form_values.Holding.TheVariants.{All, TooLong, Unknown}
use Rattle.bit_norm.specs.declared.form_values.FormValues.{FormValues}
use Rattle.bit_norm.specs.declared.form_builder.FormBuilder.{FormBuilder}

-- ---- the values of a record

-- how much of the text of values is held: all of it; nothing, because it is longer than the limit on bytes; or unknown
abbrev pub HoldsText : Holding → (text : List Bool) → (limit : ℕ) → List ℕ → Type 0
HoldsText All text limit values = text ≡ values_bits values
HoldsText TooLong text limit values = limit < length (values_bits values) / 8
HoldsText Unknown text limit values = Unit {0}

-- these are the values that were taken: the first ones, of whose text this much is held, and those that are held as numbers
pub record HasTaken (t : FormValues) (values : List ℕ) : Type 0 where
  pub front : List ℕ
  pub wide : length t.numbers ≡ 64
  pub few : t.held ≤ 64
  pub whole : values ≡ front ++ take t.held t.numbers
  pub count : t.before ≡ min (length front) (2 ^ 64 - 1)
  pub holds : HoldsText t.holding t.text t.limits.bytes front

-- ---- open blocks

-- The text so far, after the magic: the text in each open block around the innermost one, and at the top, the nearest first. Each
-- ends with the length of the block inside it, which is 0 until that block ends.
abbrev pub form_so_far : List (List Bool) → List Bool
form_so_far [] = []
form_so_far (s ∷ outer) = (form_so_far outer ++ s) ++ bits_of 32 0

-- the first bit of the text in the innermost block, or at the top after the magic
abbrev pub begins : List (List Bool) → ℕ
begins outer = 32 + length (form_so_far outer)

-- a block's length in words and its body, if its items have these bits and the body begins at bit p
abbrev pub length_and_body : ℕ → List Bool → List Bool
length_and_body p items = (let body = items ++ end_text (p + length items)
    in bits_of 32 (length body / 32) ++ body)

-- the whole text, if this is all of the innermost block, and these are the items that follow in the blocks around it
abbrev pub whole_form : List (List Bool) → List Bool → (ℕ → Forest) → List Bool
whole_form [] full coming = full
whole_form (s ∷ outer) full coming = (let now = s ++ length_and_body (begins (s ∷ outer)) full
    in whole_form outer (now ++ normal (coming 0) (begins outer + length now))
    (λ level. coming (suc level)))

-- the whole text, if this is the innermost block's text so far, and these are the items that follow at each level
abbrev pub form_with : List (List Bool) → List Bool → (ℕ → Forest) → List Bool
form_with outer inner coming = whole_form outer
    (inner ++ normal (coming 0) (begins outer + length inner)) (λ level. coming (suc level))

-- the words of the lengths of the open blocks, the outermost first
abbrev pub holes_of : List (List Bool) → List ℕ
holes_of [] = []
holes_of (s ∷ outer) = holes_of outer ++ (length (form_so_far outer ++ s) / 32) ∷ []

-- each of them is a word
abbrev pub AreWords : List (List Bool) → Type 0
AreWords [] = Unit {0}
AreWords (s ∷ outer) = (length (form_so_far outer ++ s) % 32 ≡ 0) × AreWords outer

-- ---- the builder

-- The text, before whatever events follow, is the normal form of the tree of all events, after the magic.
pub record Builds (events : List Event) (text : List Bool) (holes : List ℕ) : Type 0 where
  pub outer : List (List Bool)
  pub inner : List Bool
  pub is : text ≡ form_so_far outer ++ inner
  pub places : holes ≡ holes_of outer
  pub words : AreWords outer
  pub top : length outer ≡ 0 → length inner % 32 ≡ 0
  pub whole : (following : List Event) → normal (told_at_level (events ++ following) 0) 32
      ≡ form_with outer inner (told_at_level following)
  pub depth : length outer ≡ left_open events

-- whatever follows, the normal form has more bytes than the limit
abbrev pub PassesLimit : (limit : ℕ) → List Event → Type 0
PassesLimit limit events = (following : List Event)
    → limit < end_of (told_at_level (events ++ following) 0) 32 / 8

-- the form of these events, unless it passes the limit on bytes
pub record Forms (limit : ℕ) (events : List Event) (text : List Bool) (holes : List ℕ)
    (long : Bool) : Type 0 where
  pub builds : long ≡ false → Builds events text holes
  pub passes : long ≡ true → PassesLimit limit events

-- the builder holds it
abbrev pub HasForm : List Event → FormBuilder → Type 0
HasForm events b = Forms b.limits.bytes events b.text b.holes.items b.long

-- a builder's setting, open blocks and limits are as they were
abbrev pub StaysAs : (old new : FormBuilder) → Type 0
StaysAs old new = (new.standing ≡ old.standing) × (new.limits ≡ old.limits)

-- unless the form was too long already, the beginning of a block with this id is built after the events before it
abbrev pub BuildsBlock : (id : ℕ) → (old new : FormBuilder) → Type 0
BuildsBlock id old new =
    (done : List Event) (opened : Opened) → opened.id ≡ id → HasForm done old → old.long ≡ false
    → HasForm (done ++ enters opened ∷ []) new

-- the same for the end of an open block
abbrev pub BuildsEnd : (old new : FormBuilder) → Type 0
BuildsEnd old new =
    (done : List Event) (after : ℕ) → HasForm done old → old.long ≡ false → 0 < left_open done
    → HasForm (done ++ leaves after ∷ []) new

-- the same for a record with this code and the values that were taken, in an open block
abbrev pub BuildsRecord : (code : ℕ) → FormValues → (old new : FormBuilder) → Type 0
BuildsRecord code taken old new =
    (done : List Event) (mark : RecordMark) → mark.code ≡ code → HasTaken taken mark.values
    → HasForm done old
    → old.long ≡ false → 0 < left_open done → HasForm (done ++ notes mark ∷ []) new

-- whether a record with this code is kept in the innermost open block
abbrev pub record_left : OpenUnder → (code : ℕ) → Bool
record_left standing code = list_all (keeps standing.setting) standing.ids
    && keeps_record standing.setting (innermost standing.ids) code

-- the events that the setting of a builder keeps
abbrev pub left_events : FormBuilder → List Event → List Event
left_events b events = events_under b.standing.setting [] events

-- the form of the kept events was built
pub record IsFormOf (first : FormBuilder) (events : List Event) (b : FormBuilder) : Type 0 where
  pub limits : b.limits ≡ first.limits
  pub stands : b.long ≡ false → b.standing ≡ record {
    setting = first.standing.setting;
    ids = ids_behind events [];
  }
  pub form : HasForm (left_events first events) b

-- the form of the kept events was built with a record that has this code and these values, in an open block
abbrev pub AddsRecord : (code : ℕ) → List ℕ → (old new : FormBuilder) → Type 0
AddsRecord code values old new = (first : FormBuilder) (done : List Event) (mark : RecordMark)
    → mark.code ≡ code → mark.values ≡ values → IsFormOf first done old → 0 < left_open done
    → IsFormOf first (done ++ notes mark ∷ []) new

-- a text became this one; or this one has more bytes than the limit
abbrev pub GrowsTo : List Bool → (limit : ℕ) → (whole : Bool) → List Bool → Type 0
GrowsTo all limit true new = new ≡ all
GrowsTo all limit false new = limit < length all / 8

-- the normal form of the kept events, after the magic
abbrev pub form_of : FormBuilder → List Event → List Bool
form_of first events = normal (told_at_level (left_events first events) 0) 32

-- it has more bytes than the limit, with the magic
abbrev pub IsTooLong : FormBuilder → List Event → Type 0
IsTooLong first events = first.limits.bytes < 4 + length (form_of first events) / 8

-- a text is this form, which is whole words and within the limit
abbrev pub IsWholeForm : FormBuilder → List Event → List Bool → Type 0
IsWholeForm first events text =
    (text ≡ form_of first events) × (length text % 32 ≡ 0)
    × (4 + length text / 8 ≤ first.limits.bytes)
