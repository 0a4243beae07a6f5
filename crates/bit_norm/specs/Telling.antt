-- Trees that are described call by call, and their writers.
use Rattle.std.specs.Prelude.{◌≡◌, ◌≢◌, ℕ, zero, suc, ◌+◌, ◌-◌, ◌^◌, ◌<◌, ◌≤◌, Bool, true, false, not, ◌&&◌, ◌==◌, nat_lt, List, [], ◌∷◌, ◌++◌, length, map, Result, Ok, Err, if◌then◌else◌}
use Rattle.std.specs.List.{AllByRecursion}
use Rattle.bit_grammar.specs.Blocks.{Limits}
use Rattle.bit_grammar.specs.Forest.{Forest, empty, a_block, a_record, Tree, Fit, forest_depth, forest_values, set_bid, names_block, wrapper_magic}
use Rattle.bit_grammar.specs.Machine.{Event, enters, notes, leaves}
use Rattle.bit_grammar.specs.Normal.{Capped}
use Rattle.bit_grammar.specs.Setting.{keep}
use Rattle.bit_fields.specs.Opening.{magic_number}
use Rattle.bit_norm.specs.Building.{IsFormOf}
use Rattle.bit_norm.specs.declared.form_builder.FormBuilder.{FormBuilder}
use Rattle.bit_norm.specs.declared.form_writer.FormWriter.{FormWriter}
use Rattle.bit_norm.specs.declared.form_writer.Inside.{Inside}
use Rattle.bit_norm.specs.declared.form_writer.Inside.TheVariants.{Any, NewInfo, Info}
use Rattle.bit_norm.specs.declared.form_writer.Untold.{Untold}
use Rattle.bit_norm.specs.declared.form_writer.Untold.TheVariants.{Misplaced, Memory}

-- a block with this id begins; or there is a record with this code and these values; or the innermost block ends
pub data Call : Type 0 where
  begins : (id : ℕ) → Call
  holds : (code : ℕ) → List ℕ → Call
  ends : Call

-- the items that calls add to the blocks that are open before them: to the innermost (level 0), to the one around it (level 1),
-- and so on
abbrev pub told : List Call → (level : ℕ) → Forest
told [] level = empty
told (begins id ∷ calls) zero = a_block id (told calls 0) (told calls 1)
told (begins id ∷ calls) (suc level) = told calls (suc (suc level))
told (holds code values ∷ calls) zero = a_record code values (told calls 0)
told (holds code values ∷ calls) (suc level) = told calls (suc level)
told (ends ∷ calls) zero = empty
told (ends ∷ calls) (suc level) = told calls level

-- the tree of a magic and of calls that leave no block open
abbrev pub tree_told : (magic : List ℕ) → List Call → Tree
tree_told magic calls = record { magic = magic_number magic; blocks = told calls 0 }

-- ---- which calls fit

-- how many blocks are open, what may come in the innermost, and how many values all records have so far
pub record Where : Type 0 where
  pub depth : ℕ
  pub inside : Inside
  pub values : ℕ

abbrev pub at_top : Where
at_top = record { depth = 0; inside = Any; values = 0 }

abbrev pub takes_block : Inside → Bool
takes_block Any = true
takes_block NewInfo = false
takes_block Info = false

-- in a BLOCKINFO block the first record sets the described block, and each record that sets it names a block id
abbrev pub takes_record : Inside → (code : ℕ) → List ℕ → Bool
takes_record Any code values = true
takes_record NewInfo code values = if code == set_bid then names_block values else false
takes_record Info code values = if code == set_bid then names_block values else true

-- whether a call fits there: then the blocks described so far are those of a fit tree within the limits on depth and values
abbrev pub fits : Limits → Where → Call → Bool
fits limits w (begins id) = takes_block w.inside && nat_lt w.depth limits.depth
fits limits w (holds code values) = nat_lt 0 w.depth && takes_record w.inside code values
    && not (nat_lt limits.values (w.values + length values))
fits limits w ends = nat_lt 0 w.depth

abbrev pub inside_block : (id : ℕ) → Inside
inside_block id = if id == 0 then NewInfo else Any

abbrev pub behind_record : Inside → Inside
behind_record Any = Any
behind_record NewInfo = Info
behind_record Info = Info

abbrev pub after_call : Call → Where → Where
after_call (begins id) w = record { depth = suc w.depth; inside = inside_block id; values = w.values }
after_call (holds code values) w = record {
  depth = w.depth;
  inside = behind_record w.inside;
  values = w.values + length values;
}
after_call ends w = record { depth = w.depth - 1; inside = Any; values = w.values }

abbrev pub where_after : List Call → Where → Where
where_after [] w = w
where_after (call ∷ calls) w = where_after calls (after_call call w)

-- ids have 32 bits, codes and values 64, by their types
abbrev pub InRange : Call → Type 0
InRange (begins id) = id < 2 ^ 32
InRange (holds code values) = (code < 2 ^ 64) × AllByRecursion (λ v. v < 2 ^ 64) values
InRange ends = Unit {0}

-- each call fits where it comes
abbrev pub AreFit : Limits → Where → List Call → Type 0
AreFit limits w [] = Unit {0}
AreFit limits w (call ∷ calls) = (fits limits w call ≡ true) × InRange call
    × AreFit limits (after_call call w) calls

-- a tree that an input can spell, and that keeps to the limits on depth and values
pub record IsFit (limits : Limits) (tree : Tree) : Type 0 where
  pub fit : Fit tree
  pub depth : forest_depth tree.blocks ≤ limits.depth
  pub values : forest_values tree.blocks ≤ limits.values

-- ---- a writer

-- a call as an event, with 0 for its bits
abbrev pub event_of : Call → Event
event_of (begins id) = enters (record { id = id; width = 2; first = 0; body = 0 })
event_of (holds code values) = notes (record {
  abbreviation = 3;
  code = code;
  values = values;
  first = 0;
  after = 0;
})
event_of ends = leaves 0

-- where a writer is
abbrev pub place_of : FormWriter → Where
place_of w = record { depth = w.depth; inside = w.inside; values = w.values }

-- a writer took these calls, each of which fitted
pub record HasTold (calls : List Call) (w : FormWriter) : Type 0 where
  pub first : FormBuilder
  pub keeps : first.standing.setting ≡ keep
  pub limits : first.limits ≡ w.limits
  pub form : IsFormOf first (map event_of calls) w.builder
  pub place : place_of w ≡ where_after calls at_top
  pub live : w.has_failed ≡ false
  pub fit : AreFit w.limits at_top calls
  pub small : magic_number w.magic < 2 ^ 32
  pub bare : magic_number w.magic ≢ wrapper_magic
  pub capped : Capped w.limits

-- a writer of a tree with this magic under these limits, which has taken no call
pub record Begins (magic : List ℕ) (limits : Limits) (w : FormWriter) : Type 0 where
  pub nothing : HasTold [] w
  pub of_magic : w.magic ≡ magic
  pub under : w.limits ≡ limits

-- a writer took one call more, which fits
pub record ToldMore (call : Call) (old new : FormWriter) : Type 0 where
  pub live : old.has_failed ≡ false
  pub fits : fits old.limits (place_of old) call ≡ true
  pub told : (calls : List Call) → HasTold calls old → HasTold (calls ++ call ∷ []) new
  pub magic : new.magic ≡ old.magic
  pub limits : new.limits ≡ old.limits

-- A writer took a call; or the call does not fit, and the writer is unchanged; or an allocation failed, in this call or in an
-- earlier one, and then the writer is unchanged.
abbrev pub Tells : Call → FormWriter → Result (Unit {0}) Untold → FormWriter → Type 0
Tells call old (Ok done) new = ToldMore call old new
Tells call old (Err Misplaced) new = (fits old.limits (place_of old) call ≡ false) × (new ≡ old)
    × (old.has_failed ≡ false)
Tells call old (Err Memory) new = (new.has_failed ≡ true) × (old.has_failed ≡ true → new ≡ old)
