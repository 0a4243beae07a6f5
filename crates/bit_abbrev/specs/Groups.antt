-- Groups of definitions for block ids.
use Rattle.std.specs.Prelude.{◌≡◌, ◌≢◌, ℕ, ◌<◌, ◌≤◌, List, [], ◌∷◌, Some, length, nat_eq, if◌then◌else◌, slice_get}
use Rattle.std.specs.Option.{option_map_or}
use Rattle.bit_grammar.specs.declared.op.Op.{Op}
use Rattle.bit_grammar.specs.Terms.{Table}

-- the definitions for a block id, of the first group for it
abbrev pub ready_for : List (ℕ × List (List Op)) → Table
ready_for [] id = []
ready_for (group ∷ groups) id = if nat_eq id group.0 then group.1 else ready_for groups id

-- those of the group at a place
abbrev pub ready_at : List (ℕ × List (List Op)) → (place : ℕ) → List (List Op)
ready_at groups place = option_map_or (λ group. group.1) (slice_get groups place) []

-- the place of the first group for a block id, or the number of groups if there is none
pub record IsPlaceOf (groups : List (ℕ × List (List Op))) (id place : ℕ) : Type 0 where
  pub within : place ≤ length groups
  pub before : (i : ℕ) (group : ℕ × List (List Op)) → i < place → slice_get groups i ≡ Some group
      → group.0 ≢ id
  pub here : (group : ℕ × List (List Op)) → slice_get groups place ≡ Some group → group.0 ≡ id
