-- The entries of a tree in order, and where two trees first differ. This project's own.
use Rattle.std.specs.Prelude.{◌≡◌, ◌≢◌, ℕ, suc, ◌+◌, ◌*◌, List, [], ◌∷◌, ◌++◌, length, map, Option, Some, None, ◌==◌, if◌then◌else◌}
use Rattle.bit_grammar.specs.Setting.{Setting}
use Rattle.bit_grammar.specs.Under.{under, marks_under}
use Rattle.bit_grammar.specs.Input.{tree_of}
use Rattle.bit_grammar.specs.Terms.{Wrapper, Head, Marked}
use Rattle.bit_grammar.specs.Marks.{Marks, no_marks, marked_block, marked_record, marked_definition}
use Rattle.bit_fields.specs.Opening.{magic_number}
use Rattle.bit_norm.specs.declared.differences.OpenBlock.{OpenBlock}
use Rattle.bit_norm.specs.declared.differences.Place as declared
use Rattle.bit_norm.specs.declared.differences.Place.TheVariants as place
use Rattle.bit_norm.specs.declared.differences.What as kind
use Rattle.bit_norm.specs.declared.differences.What.TheVariants as what
use Rattle.bit_norm.specs.declared.differences.Standing as bit
use Rattle.bit_norm.specs.declared.differences.ValueDifference.{ValueDifference}
use Rattle.bit_norm.specs.declared.differences.Difference.{Difference}

-- ---- the entries of a tree in order

-- a block with this id begins, a record with this code and these values, a block ends, or the stream ends
pub data Sign : Type 0 where
  begins : ℕ → Sign
  has_record : ℕ → List ℕ → Sign
  ends : Sign
  over : Sign

-- an entry: what is at a place of a tree
pub record Entry : Type 0 where
  -- the open blocks, the outermost first, each with its id and how many items come before it
  pub within : List OpenBlock
  -- how many items come before the place in the innermost of them, or at the top
  pub items : ℕ
  pub sign : Sign
  -- where it begins, counted from the first bit of the input; for an end, where what comes before it ended
  pub bit : ℕ

abbrev pub entry_with : List OpenBlock → ℕ → Sign → ℕ → Entry
entry_with within items sign bit = record { within = within; items = items; sign = sign; bit = bit }

abbrev pub open_block_with : (id items : ℕ) → OpenBlock
open_block_with id items = record { id = id; items = items }

-- The entries of items within these blocks, with all in them, and then this end. `items` come before them, and what comes before
-- them ended at this bit. A definition is no item and ends nothing.
abbrev pub entries : (end : Sign) → (within : List OpenBlock) → (items ended : ℕ) → Marks
    → List Entry
entries end within items ended no_marks = entry_with within items end ended ∷ []
entries end within items ended (marked_block mark inner rest) =
    entry_with within items (begins mark.id) mark.first
    ∷ (entries ends (within ++ open_block_with mark.id items ∷ []) 0 mark.body inner
    ++ entries end within (suc items) mark.after rest)
entries end within items ended (marked_record mark rest) = entry_with within items
    (has_record mark.code mark.values) mark.first ∷ entries end within (suc items) mark.after rest
entries end within items ended (marked_definition mark rest) = entries end within items ended rest

-- the first byte of the stream
abbrev pub stream_byte : Option Wrapper → ℕ
stream_byte None = 0
stream_byte (Some wrapper) = wrapper.offset

-- the bit of the magic, and the one after it
abbrev pub magic_bit : Head → ℕ
magic_bit head = 8 * stream_byte head.wrapper

abbrev pub behind_magic : Head → ℕ
behind_magic head = magic_bit head + 32

-- all entries of a tree under a setting, after the magic: what is left out is no item and ends nothing
abbrev pub all_entries : Setting → Marked → List Entry
all_entries setting m = entries over [] 0 (behind_magic m.head) (marks_under setting 0 m.blocks)

-- ---- where two lists of entries first differ

abbrev pub signs_in : List Entry → List Sign
signs_in entries = map (λ (e : Entry). e.sign) entries

-- Both lists have prefixes with the same signs, and after these two entries with different signs, at the same place.
pub record FirstApart (a b : List Entry) (x y : Entry) : Type 0 where
  pub front : List Entry
  pub rest : List Entry
  pub other_front : List Entry
  pub other_rest : List Entry
  pub first : a ≡ front ++ x ∷ rest
  pub second : b ≡ other_front ++ y ∷ other_rest
  pub same : signs_in front ≡ signs_in other_front
  pub unlike : x.sign ≢ y.sign
  pub within : x.within ≡ y.within
  pub items : x.items ≡ y.items

-- ---- results

pub data Place : Type 0 where
  at_magic : Place
  at_item : List OpenBlock → (items : ℕ) → Place

pub data What : Type 0 where
  the_magic : ℕ → What
  the_block : (id : ℕ) → What
  the_record : (code count : ℕ) → What
  the_end : What

pub record Standing : Type 0 where
  pub bit : ℕ
  pub what : What

pub record Seen : Type 0 where
  pub place : Place
  pub first : Standing
  pub second : Standing
  pub value : Option ValueDifference

abbrev pub what_of : Sign → What
what_of (begins id) = the_block id
what_of (has_record code values) = the_record code (length values)
what_of ends = the_end
what_of over = the_end

abbrev pub standing : Entry → Standing
standing e = record { bit = e.bit; what = what_of e.sign }

-- the first place, counted from this one, at which two lists have different values, and these
abbrev pub first_unlike : ℕ → List ℕ → List ℕ → Option ValueDifference
first_unlike index (a ∷ first) (b ∷ second) = if a
    == b then first_unlike (suc index) first second
    else Some (record { index = index; first = a; second = b })
first_unlike index [] second = None
first_unlike index (a ∷ first) [] = None

-- the same for two records with the same code
abbrev pub value_apart : Sign → Sign → Option ValueDifference
value_apart (has_record code first) (has_record other second) = if code
    == other then first_unlike 0 first second else None
value_apart (has_record code first) (begins id) = None
value_apart (has_record code first) ends = None
value_apart (has_record code first) over = None
value_apart (begins id) sign = None
value_apart ends sign = None
value_apart over sign = None

-- these entries differ
abbrev pub apart_at : Entry → Entry → Seen
apart_at x y = record {
  place = at_item x.within x.items;
  first = standing x;
  second = standing y;
  value = value_apart x.sign y.sign;
}

abbrev pub magic_standing : Head → Standing
magic_standing head = record { bit = magic_bit head; what = the_magic head.magic }

-- these magics differ
abbrev pub magics_apart : Head → Head → Seen
magics_apart a b = record {
  place = at_magic;
  first = magic_standing a;
  second = magic_standing b;
  value = None;
}

-- where the trees of two inputs first differ under a setting: in the magics, or else after them
pub data FirstDifference (setting : Setting) (a b : Marked) (seen : Seen) : Type 0 where
  in_magic : a.head.magic ≢ b.head.magic → seen ≡ magics_apart a.head b.head
      → FirstDifference setting a b seen
  behind : a.head.magic ≡ b.head.magic → (x y : Entry)
      → FirstApart (all_entries setting a) (all_entries setting b) x y → seen ≡ apart_at x y
      → FirstDifference setting a b seen

-- ---- the models of the program's types

abbrev pub place_shown : declared.Place → Place
place_shown place.Magic = at_magic
place_shown (place.Item open_blocks items) = at_item open_blocks.items items

abbrev pub what_shown : kind.What → What
what_shown (what.Magic bytes) = the_magic (magic_number bytes)
what_shown (what.Block id) = the_block id
what_shown (what.Record code count) = the_record code count
what_shown what.End = the_end

abbrev pub standing_shown : bit.Standing → Standing
standing_shown s = record { bit = s.bit; what = what_shown s.what }

abbrev pub difference_shown : Difference → Seen
difference_shown d = record {
  place = place_shown d.place;
  first = standing_shown d.first;
  second = standing_shown d.second;
  value = d.value;
}

-- the first difference, or none, and then the trees are the same
abbrev pub Differs : Setting → Marked → Marked → Option Difference → Type 0
Differs setting a b None = under setting (tree_of a) ≡ under setting (tree_of b)
Differs setting a b (Some difference) = FirstDifference setting a b (difference_shown difference)
