-- Where two inputs first differ, as C sees it.
use Rattle.std.specs.Prelude.{◌≡◌, ℕ, true, false, List, [], length, map, replicate, Option, Some, None}
use Rattle.bit_grammar.specs.Setting.{Setting}
use Rattle.bit_grammar.specs.Under.{under}
use Rattle.bit_grammar.specs.Blocks as blocks
use Rattle.bit_grammar.specs.Input.{SpellsInput, tree_of}
use Rattle.bit_grammar.specs.Terms.{Marked}
use Rattle.bit_fields.specs.Opening.{magic_number}
use Rattle.bit_norm.specs.Entries.{FirstDifference, Place, Seen, Standing, What, at_item, at_magic, the_block, the_end, the_magic, the_record}
use Rattle.bit_norm.specs.declared.differences.OpenBlock.{OpenBlock}
use Rattle.bit_norm.specs.declared.differences.ValueDifference.{ValueDifference}
use Rattle.bit_c.specs.declared.difference.BsDifference.{BsDifference}
use Rattle.bit_c.specs.declared.difference.BsOpenBlock.{BsOpenBlock}
use Rattle.bit_c.specs.declared.difference.BsStanding.{BsStanding}
use Rattle.bit_c.specs.declared.difference.BsValueDifference.{BsValueDifference}
use Rattle.bit_c.specs.declared.outcome.Outcome.{Outcome}
use Rattle.bit_c.specs.declared.outcome.Outcome.TheVariants.{Done, Different, Memory, Room, Closed}
use Rattle.bit_c.specs.declared.left_out.BsLeftOut.{BsLeftOut}
use Rattle.bit_c.specs.Limiting.{AsksWithin, setting_told}
use Rattle.bit_c.specs.Comparing.{Unread}
use Rattle.bit_c.specs.Handing.{FillsRoom}

abbrev pub no_magic : List ℕ
no_magic = replicate 4 0

-- the item at a place; fields that its kind does not have are 0
abbrev pub IsWhat : What → BsStanding → Type 0
IsWhat (the_magic magic) told = (told.kind ≡ 1) × (magic_number told.magic ≡ magic) × (told.id ≡ 0)
    × (told.code ≡ 0) × (told.count ≡ 0)
IsWhat (the_block id) told = (told.kind ≡ 2) × (told.magic ≡ no_magic) × (told.id ≡ id)
    × (told.code ≡ 0) × (told.count ≡ 0)
IsWhat (the_record code count) told = (told.kind ≡ 3) × (told.magic ≡ no_magic) × (told.id ≡ 0)
    × (told.code ≡ code) × (told.count ≡ count)
IsWhat the_end told = (told.kind ≡ 4) × (told.magic ≡ no_magic) × (told.id ≡ 0) × (told.code ≡ 0)
    × (told.count ≡ 0)

-- and its first bit
abbrev pub Stands : Standing → BsStanding → Type 0
Stands s told = (told.bit ≡ s.bit) × IsWhat s.what told

-- the first values that differ, or that none differ
abbrev pub value_difference_told : Option ValueDifference → BsValueDifference
value_difference_told None = record { differ = false; index = 0; first = 0; second = 0 }
value_difference_told (Some value) = record {
  differ = true;
  index = value.index;
  first = value.first;
  second = value.second;
}

-- the open blocks at a place, the outermost first
abbrev pub open_in : Place → List OpenBlock
open_in at_magic = []
open_in (at_item within items) = within

abbrev pub place_number : Place → ℕ
place_number at_magic = 1
place_number (at_item within items) = 2

-- the number of items before a place in the innermost of its blocks, or at the top
abbrev pub items_before : Place → ℕ
items_before at_magic = 0
items_before (at_item within items) = items

-- a first difference was set
pub record Tells (seen : Seen) (told : BsDifference) : Type 0 where
  pub place : told.place ≡ place_number seen.place
  pub depth : told.depth ≡ length (open_in seen.place)
  pub items : told.items ≡ items_before seen.place
  pub first : Stands seen.first told.first
  pub second : Stands seen.second told.second
  pub values : told.values ≡ value_difference_told seen.value

abbrev pub block_told : OpenBlock → BsOpenBlock
block_told block = record { id = block.id; items = block.items }

abbrev pub no_standing : BsStanding
no_standing = record { bit = 0; kind = 0; magic = no_magic; id = 0; code = 0; count = 0 }

abbrev pub no_difference : BsDifference
no_difference = record {
  place = 0;
  depth = 0;
  items = 0;
  first = no_standing;
  second = no_standing;
  values = value_difference_told None;
}

-- A difference was set, and the open blocks are at the start of the room; or the room is too small for them; or an allocation
-- failed, and nothing was set.
abbrev pub GivesDifference : Seen → BsDifference → (old new : List BsOpenBlock) → Outcome → Type 0
GivesDifference seen told old new Different = Tells seen told
    × FillsRoom (map block_told (open_in seen.place)) old true new
GivesDifference seen told old new Room = Tells seen told
    × FillsRoom (map block_told (open_in seen.place)) old false new
GivesDifference seen told old new Memory = (told ≡ no_difference) × (new ≡ old)
GivesDifference seen told old new outcome = ⊥

-- both spell marked trees whose first difference was set
abbrev pub DifferSo : Setting → blocks.Limits → List ℕ → List ℕ → BsDifference
    → (old new : List BsOpenBlock) → Outcome → Type 0
DifferSo setting limits first second told old new outcome =
    (a b : Marked) × (seen : Seen) × SpellsInput limits first a × SpellsInput limits second b
    × FirstDifference setting a b seen × GivesDifference seen told old new outcome

-- Both spell trees that are the same under the setting; or their first difference is set; or nothing is set, for this reason.
abbrev pub Differences : Setting → blocks.Limits → List ℕ → List ℕ → BsDifference
    → (old new : List BsOpenBlock) → Outcome → Type 0
Differences setting limits first second told old new Done =
    (a b : Marked) × SpellsInput limits first a × SpellsInput limits second b
    × (under setting (tree_of a) ≡ under setting (tree_of b)) × (told ≡ no_difference)
    × (new ≡ old)
Differences setting limits first second told old new Different = DifferSo setting limits first
    second told old new Different
Differences setting limits first second told old new Room = DifferSo setting limits first second
    told old new Room
Differences setting limits first second told old new outcome = Unread limits first second outcome
    × (told ≡ no_difference) × (new ≡ old)

-- The same for the inputs that two handles gather; or one of them gathers none, the outcome reports that, and nothing is set.
abbrev pub DiffersFed : blocks.Limits → BsLeftOut → (first second : Option (List ℕ))
    → BsDifference → (old new : List BsOpenBlock) → Outcome → Type 0
DiffersFed limits out (Some first) (Some second) told old new outcome = AsksWithin limits out
    ((told ≡ no_difference) × (new ≡ old))
    (Differences (setting_told out) limits first second told old new) outcome
DiffersFed limits out first second told old new outcome = (outcome ≡ Closed)
    × (told ≡ no_difference) × (new ≡ old)
