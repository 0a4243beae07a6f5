-- An input that C passes in pieces.
use Rattle.std.specs.Prelude.{◌≡◌, ◌⊎◌, ⊤, ◌++◌, false, ℕ, List, [], Option, Some, None, Result, Ok, Err}
use Rattle.std.specs.Global.{Vec}
use Rattle.bit_grammar.specs.Blocks as blocks
use Rattle.bit_grammar.specs.Normal.{Capped}
use Rattle.bit_grammar.specs.Setting.{Setting, keep}
use Rattle.bit_fields.specs.Opening.{PassCaps}
use Rattle.bit_c.specs.declared.analysing.BsBlockRow.{BsBlockRow}
use Rattle.bit_c.specs.declared.analysing.BsCodeRow.{BsCodeRow}
use Rattle.bit_c.specs.declared.analysing.BsTally.{BsTally}
use Rattle.bit_c.specs.declared.home.Home.{Home}
use Rattle.bit_c.specs.declared.home.Home.TheVariants as home
use Rattle.bit_c.specs.declared.keys.BsKeys.{BsKeys}
use Rattle.bit_c.specs.declared.left_out.BsLeftOut.{BsLeftOut}
use Rattle.bit_c.specs.declared.outcome.Outcome.{Outcome}
use Rattle.bit_c.specs.declared.outcome.Outcome.TheVariants.{Done, Limits, Memory, Closed}
use Rattle.bit_c.specs.declared.texts.Text.{Text}
use Rattle.bit_c.specs.declared.texts.Text.TheVariants.{Report}
use Rattle.bit_c.specs.Calls.{Checks}
use Rattle.bit_c.specs.Holding.{Holds}
use Rattle.bit_c.specs.Limiting.{AsksWithin, DeclinesCall, Within, names_info, setting_told}
use Rattle.bit_c.specs.Rows.{Analyses, LeavesRows, no_tally}
use Rattle.bit_c.specs.Texts.{FailsText, IsTextOf}

-- ---- pieces

-- a piece was added to the input, or an allocation failed, and the input is unchanged; an object that is no input is unchanged too
abbrev pub FeedsIn : (piece : List ℕ) → Home → Home → Outcome → Type 0
FeedsIn piece (home.Input old) (home.Input new) Done = new.items ≡ old.items ++ piece
FeedsIn piece (home.Input old) (home.Input new) Memory = new.items ≡ old.items
FeedsIn piece (home.Input old) new outcome = ⊥
FeedsIn piece old new outcome = (outcome ≡ Closed) × (new ≡ old)

-- an input of one piece was begun in a handle; or an allocation failed, and the handle is closed
abbrev pub BeginsInput : (piece : List ℕ) → Option Home → Outcome → Type 0
BeginsInput piece (Some (home.Input new)) Done = new.items ≡ piece
BeginsInput piece None Memory = ⊤
BeginsInput piece new outcome = ⊥

-- A piece was added to the input that a handle gathers, or began one in a closed handle; or neither, for this reason.
abbrev pub Feeds : (piece : List ℕ) → Option Home → Option Home → Outcome → Type 0
Feeds piece None new outcome = BeginsInput piece new outcome
Feeds piece (Some old) (Some new) outcome = FeedsIn piece old new outcome
Feeds piece (Some old) None outcome = ⊥

-- ---- the gathered input

-- The input that a handle gathers, of no bytes if it is closed, was judged; or it gathers none, and the outcome reports that.
abbrev pub ChecksFed : blocks.Limits → Option Home → Outcome → Type 0
ChecksFed limits (Some (home.Input bytes)) outcome = Within limits ⊤ (Checks limits bytes.items)
    outcome
ChecksFed limits None outcome = Within limits ⊤ (Checks limits []) outcome
ChecksFed limits other outcome = outcome ≡ Closed

-- The input that a handle gathers, of no bytes if it is closed, was analysed; or it gathers none, the outcome reports that, and
-- nothing was set.
abbrev pub AnalysesFed : blocks.Limits → Option Home → BsTally
    → (old_blocks new_blocks : List BsBlockRow) → (old_codes new_codes : List BsCodeRow) → Outcome
    → Type 0
AnalysesFed limits (Some (home.Input bytes)) told old_blocks new_blocks old_codes new_codes outcome =
    Within limits ((told ≡ no_tally) × LeavesRows old_blocks new_blocks old_codes new_codes)
    (Analyses limits bytes.items told old_blocks new_blocks old_codes new_codes) outcome
AnalysesFed limits None told old_blocks new_blocks old_codes new_codes outcome =
    Within limits ((told ≡ no_tally) × LeavesRows old_blocks new_blocks old_codes new_codes)
    (Analyses limits [] told old_blocks new_blocks old_codes new_codes) outcome
AnalysesFed limits other told old_blocks new_blocks old_codes new_codes outcome = (outcome ≡ Closed)
    × (told ≡ no_tally) × LeavesRows old_blocks new_blocks old_codes new_codes

-- a text was made of bytes; or not, for this reason
abbrev pub MakesUnder : Text → Setting → blocks.Limits → (bytes : List ℕ) → Result (Vec ℕ) Outcome
    → Type 0
MakesUnder text setting limits bytes (Ok made) = IsTextOf text setting limits bytes made.items
MakesUnder text setting limits bytes (Err outcome) = FailsText text setting limits bytes outcome

-- nothing was made, for a reason in the outcome
abbrev pub DeclinesText : blocks.Limits → BsLeftOut → Result (Vec ℕ) Outcome → Type 0
DeclinesText limits out (Ok made) = ⊥
DeclinesText limits out (Err outcome) = DeclinesCall limits out outcome

-- the same with limits and names that may be unfit
abbrev pub MakesText : Text → blocks.Limits → BsLeftOut → (bytes : List ℕ) → Result (Vec ℕ) Outcome
    → Type 0
MakesText text limits out bytes made = DeclinesText limits out made
    ⊎ (Capped limits × (names_info out ≡ false)
    × MakesUnder text (setting_told out) limits bytes made)

-- the same for the input that a handle gathers, which may gather none
abbrev pub MakesFed : Text → blocks.Limits → BsLeftOut → Home → Result (Vec ℕ) Outcome → Type 0
MakesFed text limits out (home.Input bytes) made = MakesText text limits out bytes.items made
MakesFed text limits out other made = made ≡ Err Closed

-- a text replaced a handle's object; or the object is unchanged, for this reason
abbrev pub KeepsMade : Home → Result (Vec ℕ) Outcome → Home → Outcome → Type 0
KeepsMade old (Ok text) new outcome = (outcome ≡ Done)
    × (new ≡ home.Text (record { text = text; taken = 0 }))
KeepsMade old (Err why) new outcome = (outcome ≡ why) × (new ≡ old)

-- A text of the input that a handle gathered was made, and replaced the input; or not, for this reason, and the handle's object is
-- unchanged. A closed handle has an input of no bytes, and stays closed if no text was made of it.
abbrev pub HoldsFed : Text → blocks.Limits → BsLeftOut → Option Home → Option Home → Outcome → Type 0
HoldsFed text limits out (Some old) (Some new) outcome = (made : Result (Vec ℕ) Outcome)
    × MakesFed text limits out old made × KeepsMade old made new outcome
HoldsFed text limits out (Some old) None outcome = ⊥
HoldsFed text limits out None new outcome = AsksWithin limits out (new ≡ None)
    (Holds text (setting_told out) limits [] new) outcome

-- ---- the report

-- the report of bytes was made, with limits that may be past their caps; or not, for this reason
abbrev pub MakesReport : BsKeys → blocks.Limits → (bytes : List ℕ) → Result (Vec ℕ) Outcome → Type 0
MakesReport keys limits bytes made = ((made ≡ Err Limits) × PassCaps limits)
    ⊎ (Capped limits × MakesUnder (Report keys) keep limits bytes made)

-- the same for the input that a handle gathers, which may gather none
abbrev pub ReportsIn : BsKeys → blocks.Limits → Home → Result (Vec ℕ) Outcome → Type 0
ReportsIn keys limits (home.Input bytes) made = MakesReport keys limits bytes.items made
ReportsIn keys limits other made = made ≡ Err Closed

-- The report of the input that a handle gathered was made, and replaced the input; or not, for this reason, and the handle's object
-- is unchanged. A closed handle has an input of no bytes, and stays closed if no report was made of it.
abbrev pub ReportsFed : BsKeys → blocks.Limits → Option Home → Option Home → Outcome → Type 0
ReportsFed keys limits (Some old) (Some new) outcome = (made : Result (Vec ℕ) Outcome)
    × ReportsIn keys limits old made × KeepsMade old made new outcome
ReportsFed keys limits (Some old) None outcome = ⊥
ReportsFed keys limits None new outcome = Within limits (new ≡ None)
    (Holds (Report keys) keep limits [] new) outcome
