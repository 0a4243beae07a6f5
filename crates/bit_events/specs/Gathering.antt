-- Gathering events, one after another.
use Rattle.std.specs.Prelude.{◌≡◌, ◌⊎◌, ℕ, List, [], ◌∷◌, ◌++◌, Option, Some, None}
use Rattle.bit_grammar.specs.Machine.{Event}
use Rattle.bit_grammar.specs.Steps.{MayStand, open_after}

-- how many blocks are open after events, if `count` were open before them
abbrev pub open_behind : List Event → ℕ → ℕ
open_behind [] count = count
open_behind (event ∷ events) count = open_behind events (open_after event count)

-- how many blocks events leave open
abbrev pub left_open : List Event → ℕ
left_open events = open_behind events 0

-- After gathering some events, one more was gathered, which may come after them.
abbrev pub Gathers : {G : Type 0} → (G → List Event → G → Type 0) → G → Event → G → Type 0
Gathers {G} gathered old event new = (first : G) (done : List Event) (deepest : ℕ)
    → gathered first done old → MayStand deepest event (left_open done)
    → gathered first (done ++ event ∷ []) new

-- What came after a gatherer had gathered some events, if the rest was left: nothing; or a call failed at bits, or at the next event.
abbrev pub Stops : {G : Type 0} → (G → Option Event → G → Type 0) → (before : G) → (rest : List Event)
    → (after : G) → Type 0
Stops fails before rest after = (after ≡ before) ⊎ (fails before None after ⊎ ((event : Event)
    × (others : List Event) × (rest ≡ event ∷ others) × fails before (Some event) after))

-- It failed at an event: nothing changed, or a call of the gatherer failed.
abbrev pub FailsAt : {G : Type 0} → (G → Option Event → G → Type 0) → (before : G) → Event → (after : G) → Type 0
FailsAt fails before event after = (after ≡ before) ⊎ fails before (Some event) after
