-- The open blocks, under a setting, in the program's state.
use Rattle.std.specs.Prelude.{◌≡◌, ℕ, Bool, true, List, [], ◌∷◌}
use Rattle.std.specs.List.{list_all}
use Rattle.bit_grammar.specs.Setting.{Setting, keeps, keeps_record}
use Rattle.bit_grammar.specs.Machine.{Event}
use Rattle.bit_grammar.specs.Under.{ids_after, is_left, events_under}
use Rattle.bit_events.specs.declared.open_blocks.Around.{Around}

-- a setting, and the ids of the open blocks, the innermost first
pub record OpenUnder : Type 0 where
  pub setting : Setting
  pub ids : List ℕ

-- whether an event is kept
abbrev pub leaves : OpenUnder → Event → Bool
leaves standing event = is_left standing.setting standing.ids event

-- the state after an event
abbrev pub stands_after : Event → OpenUnder → OpenUnder
stands_after event standing = record {
  setting = standing.setting;
  ids = ids_after event standing.ids;
}

-- the events that are kept
abbrev pub left_of : OpenUnder → List Event → List Event
left_of standing events = events_under standing.setting standing.ids events

-- their ids: the innermost block, those around it with the nearest first, and the top last
abbrev pub ids_of : Around → List Around → List ℕ
ids_of inner [] = []
ids_of inner (next ∷ outer) = inner.id ∷ ids_of next outer

-- what is stored for each block is what the setting says of it
abbrev pub AreJudged : Setting → Around → List Around → Type 0
AreJudged setting inner [] = (inner.is_left ≡ true) × (inner.is_whole ≡ true)
AreJudged setting inner (next ∷ outer) =
    (inner.is_left ≡ list_all (keeps setting) (ids_of inner (next ∷ outer)))
    × (inner.is_whole ≡ true → (inner.is_left ≡ true)
    × ((code : ℕ) → keeps_record setting inner.id code ≡ true)) × AreJudged setting next outer
