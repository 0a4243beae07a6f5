-- A tree that C writes call by call.
use Rattle.std.specs.Prelude.{◌≡◌, ◌≢◌, ◌<◌, ⊤, ℕ, List, Option, Some, None, Result, Ok, Err}
use Rattle.std.specs.Global.{Vec}
use Rattle.bit_grammar.specs.Bits.{bits_of_bytes}
use Rattle.bit_grammar.specs.Blocks as blocks
use Rattle.bit_grammar.specs.Forest.{wrapper_magic}
use Rattle.bit_grammar.specs.Normal.{HasTree, normal_form}
use Rattle.bit_grammar.specs.Setting.{keep}
use Rattle.bit_grammar.specs.Size.{size_of}
use Rattle.bit_fields.specs.Opening.{magic_number}
use Rattle.bit_norm.specs.Telling.{Begins, Call, HasTold, IsFit, Tells, ToldMore, begins, holds, ends, place_of, tree_told}
use Rattle.bit_norm.specs.declared.form_writer.FormWriter.{FormWriter}
use Rattle.bit_norm.specs.declared.form_writer.Untold.TheVariants.{Misplaced}
use Rattle.bit_c.specs.declared.home.Home.{Home}
use Rattle.bit_c.specs.declared.home.Home.TheVariants as home
use Rattle.bit_c.specs.declared.outcome.Outcome.{Outcome}
use Rattle.bit_c.specs.declared.outcome.Outcome.TheVariants.{Done, Memory, TooLong, Closed, Unfit}
use Rattle.bit_c.specs.declared.telling.Told.{Told}
use Rattle.bit_c.specs.declared.telling.Told.TheVariants as told

-- The writer of a tree with this magic was begun in a handle; or the handle is closed, because the magic is that of a wrapper or an
-- allocation failed.
abbrev pub OpensWriter : blocks.Limits → (magic : List ℕ) → Option Home → Outcome → Type 0
OpensWriter limits magic (Some (home.Writing writer)) Done = Begins magic limits writer
OpensWriter limits magic None Unfit = magic_number magic ≡ wrapper_magic
OpensWriter limits magic None Memory = ⊤
OpensWriter limits magic new outcome = ⊥

-- the calls to a writer
abbrev pub call_of : Told → Call
call_of (told.Enter id) = begins id
call_of (told.Record code values) = holds code values.now
call_of told.Leave = ends

-- a writer took a call; or the call does not fit, and the writer is unchanged; or an allocation failed, and nothing is claimed
abbrev pub TellsWriter : Call → FormWriter → FormWriter → Outcome → Type 0
TellsWriter call old new Done = ToldMore call old new
TellsWriter call old new Unfit = Tells call old (Err Misplaced) new
TellsWriter call old new Memory = ⊤
TellsWriter call old new outcome = ⊥

-- the same for the object of a handle, which may be no writer
abbrev pub TellsIn : Call → Home → Home → Outcome → Type 0
TellsIn call (home.Writing old) (home.Writing new) outcome = TellsWriter call old new outcome
TellsIn call (home.Writing old) new outcome = ⊥
TellsIn call old new outcome = (outcome ≡ Closed) × (new ≡ old)

-- The writer in a handle took a call; or the call does not fit, and the writer is unchanged; or an allocation failed, and the
-- handle is closed; or it holds no writer.
abbrev pub TellsHandle : Call → Option Home → Option Home → Outcome → Type 0
TellsHandle call (Some old) None Memory = (writer : FormWriter) × (old ≡ home.Writing writer)
TellsHandle call (Some old) (Some new) Memory = ⊥
TellsHandle call (Some old) (Some new) outcome = TellsIn call old new outcome
TellsHandle call None None outcome = outcome ≡ Closed
TellsHandle call old new outcome = ⊥

-- ---- the end

-- these bytes are the normal form of the tree of the calls, which is fit and within the limits of a writer; so they are
-- accepted under these, and hold that tree
pub record IsWritten (old : FormWriter) (calls : List Call) (bytes : List ℕ) : Type 0 where
  pub form : bits_of_bytes bytes ≡ normal_form (tree_told old.magic calls)
  pub fit : IsFit old.limits (tree_told old.magic calls)
  pub read : HasTree keep old.limits bytes (tree_told old.magic calls)

-- the form of a writer's tree; or it has more bytes than the limit; or an allocation failed
abbrev pub MakesForm : FormWriter → Result (Vec ℕ) Outcome → Type 0
MakesForm old (Ok text) = (calls : List Call) → HasTold calls old → IsWritten old calls text.items
MakesForm old (Err TooLong) = (calls : List Call) → HasTold calls old
    → old.limits.bytes < size_of (tree_told old.magic calls)
MakesForm old (Err Memory) = ⊤
MakesForm old (Err outcome) = ⊥

-- A writer's tree was written, and is held as a text; or a block is open, and the writer is unchanged; or the form has more
-- bytes than the limit; or an allocation failed.
abbrev pub EndsWriter : FormWriter → Home → Outcome → Type 0
EndsWriter old (home.Text held) Done = (held.taken ≡ 0)
    × ((calls : List Call) → HasTold calls old → IsWritten old calls held.text.items)
EndsWriter old (home.Writing new) Unfit = ((place_of old).depth ≢ 0) × (new ≡ old)
EndsWriter old new TooLong = (calls : List Call) → HasTold calls old
    → old.limits.bytes < size_of (tree_told old.magic calls)
EndsWriter old new Memory = ⊤
EndsWriter old new outcome = ⊥

-- the same for the object of a handle, which may be no writer
abbrev pub EndsIn : Home → Home → Outcome → Type 0
EndsIn (home.Writing old) new outcome = EndsWriter old new outcome
EndsIn old new outcome = (outcome ≡ Closed) × (new ≡ old)

-- The writer in a handle ended so, and the handle holds the text; or it is unchanged, with a block open; or it is closed, because
-- the form is too long or an allocation failed; or it holds no writer.
abbrev pub EndsHandle : Option Home → Option Home → Outcome → Type 0
EndsHandle (Some (home.Writing old)) None Memory = ⊤
EndsHandle (Some (home.Writing old)) None TooLong = (calls : List Call) → HasTold calls old
    → old.limits.bytes < size_of (tree_told old.magic calls)
EndsHandle (Some (home.Writing old)) (Some new) Done = EndsWriter old new Done
EndsHandle (Some (home.Writing old)) (Some new) Unfit = EndsWriter old new Unfit
EndsHandle (Some (home.Writing old)) new outcome = ⊥
EndsHandle old new outcome = (outcome ≡ Closed) × (new ≡ old)
