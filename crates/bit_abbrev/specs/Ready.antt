-- Definitions that are ready to be read by, and those behind them.
use Rattle.std.specs.Prelude.{◌≡◌, ℕ, ◌+◌, ◌++◌, List, [], Option, Some, None, length, ◌-◌, slice_get}
use Rattle.std.specs.Option.{option_map_or}
use Rattle.std.specs.Global.{Box}
use Rattle.bit_grammar.specs.declared.op.Op.{Op}
use Rattle.bit_grammar.specs.Terms.{Table}
use Rattle.bit_abbrev.specs.declared.held.HeldList.{HeldList}
use Rattle.bit_abbrev.specs.Groups.{ready_for}
use Rattle.bit_abbrev.specs.HeldLists.{all_of, held_for}

-- the definitions that a BLOCKINFO block made: those that are ready, and those behind them
pub record InfoLists : Type 0 where
  pub ready : List (ℕ × List (List Op))
  pub later : List (ℕ × List Op)

abbrev pub no_lists : InfoLists
no_lists = record { ready = []; later = [] }

-- those for each block id
unfoldable pub table_of : InfoLists → Table
table_of lists id = ready_for lists.ready id ++ held_for lists.later id

-- the definitions that a BLOCKINFO block made, the last one of all, and the same if it is ready
pub record InfoMade : Type 0 where
  pub made : InfoLists
  pub newest : Option (List Op)
  pub ready : Option (List Op)

abbrev pub last_one : List (List Op) → Option (List Op)
last_one definitions = slice_get definitions (length definitions - 1)

-- those behind the ones that are ready
abbrev pub later_list : Option (Box HeldList) → List (ℕ × List Op)
later_list later = option_map_or (λ box. box.value) later []

-- the last one of them, or else the last one of those that are ready
abbrev pub newest_of : List (List Op) → Option (Box HeldList) → Option (List Op)
newest_of ready later = option_map_or (λ box. last_one (all_of box.value)) later (last_one ready)

-- the last one, if it is ready
abbrev pub newest_ready_of : List (List Op) → Option (Box HeldList) → Option (List Op)
newest_ready_of ready None = last_one ready
newest_ready_of ready (Some later) = None

-- the last definition, from one that was made anew and one that is ready
abbrev pub either : (made ready : Option (List Op)) → Option (List Op)
either None ready = ready
either (Some made) ready = Some made

-- some of the definitions in force are ready: the first ones of the table, of which there are so many, and the first own ones
pub record AreReady (all shared : List (List Op)) (count : ℕ) (own : List (List Op)) : Type 0 where
  pub first : (i : ℕ) (ops : List Op) → slice_get shared i ≡ Some ops → slice_get all i ≡ Some ops
  pub behind : (i : ℕ) (ops : List Op) → slice_get own i ≡ Some ops → slice_get all (count + i) ≡ Some ops
