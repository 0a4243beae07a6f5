-- The effect of reading lines.
use Rattle.std.specs.Prelude.{◌≡◌, ℕ, ◌<◌, List, ◌++◌, length, drop, slice_index, Option, Some, None, Result, Ok, Err}
use Rattle.bit_grammar.specs.Blocks.{Limits}
use Rattle.bit_norm.specs.Telling.{Call, begins, holds, HasTold}
use Rattle.bit_norm.specs.declared.form_writer.FormWriter.{FormWriter}
use Rattle.bit_text.specs.declared.reason.TextReason.{TextReason}
use Rattle.bit_text.specs.declared.numbers.Stop.{Stop}
use Rattle.bit_text.specs.declared.numbers.Stop.TheVariants.{Refused, Memory}
use Rattle.bit_text.specs.declared.line.Item.{Item}
use Rattle.bit_text.specs.declared.line.Item.TheVariants.{Block, Record}
use Rattle.bit_text.specs.Listings.{Standing, at_start, behind_magic}

-- numbers were read; or a word spells none; or an allocation failed
abbrev pub ReadsNumbers : Result (List ℕ) TextReason → Result (Unit {0}) Stop → List ℕ → Type 0
ReadsNumbers wanted (Ok _) read = wanted ≡ Ok read
ReadsNumbers wanted (Err (Refused reason)) read = wanted ≡ Err reason
ReadsNumbers wanted (Err Memory) read = Unit {0}

-- the call of an item; the code and the values of a record are the numbers
abbrev pub call_of : Item → (numbers : List ℕ) → Call
call_of (Block id) numbers = begins id
call_of Record numbers = holds (slice_index numbers 0) (drop 1 numbers)

-- an item was read; or the line has none; or an allocation failed
abbrev pub ReadsItem : Result Call TextReason → Result Item Stop → (numbers : List ℕ) → Type 0
ReadsItem wanted (Ok item) numbers = (wanted ≡ Ok (call_of item numbers)) × (0 < length numbers)
ReadsItem wanted (Err (Refused reason)) numbers = wanted ≡ Err reason
ReadsItem wanted (Err Memory) numbers = Unit {0}

-- a writer was told these calls, and has this magic and these limits
pub record IsTold (limits : Limits) (magic : List ℕ) (calls : List Call) (w : FormWriter) : Type 0 where
  pub told : HasTold calls w
  pub of_magic : w.magic ≡ magic
  pub under : w.limits ≡ limits

-- A writer was told the calls of an item; or they do not fit; or an allocation failed.
abbrev pub TellsItem : Limits → (magic : List ℕ) → (calls : List Call)
    → Result (List Call) TextReason → Result (Unit {0}) Stop → (new : FormWriter) → Type 0
TellsItem limits magic calls wanted (Ok _) new = (more : List Call) × (wanted ≡ Ok more)
    × IsTold limits magic (calls ++ more) new
TellsItem limits magic calls wanted (Err (Refused reason)) new = wanted ≡ Err reason
TellsItem limits magic calls wanted (Err Memory) new = Unit {0}

-- there is a writer after the magic, which was told the calls
abbrev pub IsAt : Limits → Standing → Option FormWriter → Type 0
IsAt limits at_start None = Unit {0}
IsAt limits at_start (Some w) = ⊥
IsAt limits (behind_magic magic calls) None = ⊥
IsAt limits (behind_magic magic calls) (Some w) = IsTold limits magic calls w

-- A line was read; or it is refused; or an allocation failed.
abbrev pub ReadsLine : Limits → Result Standing TextReason → Result (Unit {0}) Stop
    → (new : Option FormWriter) → Type 0
ReadsLine limits wanted (Ok _) new = (later : Standing) × (wanted ≡ Ok later)
    × IsAt limits later new
ReadsLine limits wanted (Err (Refused reason)) new = wanted ≡ Err reason
ReadsLine limits wanted (Err Memory) new = Unit {0}
