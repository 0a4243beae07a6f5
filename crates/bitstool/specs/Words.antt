-- The task that the words of a command line ask for: the options that the program declares to `clap`, and how a task is read from
-- what `clap` finds. The names `App`, `Rule`, `Shape`, `subcommand_of` and `fault_of` are clap's own. They define what a command
-- is, and what a parse of words finds or why it fails.
use Rattle.std.specs.Prelude.{◌≡◌, ◌⊎◌, ⊤, ℕ, ◌≤◌, nat_eq, if◌then◌else◌, List, [], ◌∷◌, ◌++◌, true, Option, Some, None, IfSome, unwrap_or, codes, decimal, string_bytes}
use Rattle.std.specs.List.{ends_with, starts_with}
use Rattle.std.specs.Str.{bytes_eq}
use Rattle.clap.specs.Words.{App, Row, Rule, Text, all_of, new_app, new_rule, one_of, subcommand_of, with_rule, with_subcommand}
use Rattle.clap.specs.Kinds.{Kinds, IsAmong}
use Rattle.clap.specs.Faults.{fault_of}
use Rattle.clap.specs.declared.builder.action.ArgAction.TheVariants.{Append, SetTrue}
use Rattle.clap.specs.declared.builder.value_parser.ValueParser.TheVariants.{Unsigned}
use Rattle.clap.specs.declared.error.kind.ErrorKind.{ErrorKind}
use Rattle.clap.specs.declared.error.kind.ErrorKind.TheVariants.{DisplayHelp, DisplayVersion, InvalidSubcommand, OutOfMemory, UnknownArgument, ValueValidation}
use Rattle.bit_grammar.specs.declared.info.RecordName.{RecordName}
use Rattle.bit_grammar.specs.declared.shapes.Shapes.{Shapes}
use Rattle.bit_grammar.specs.declared.shapes.Shapes.TheVariants.{AtDefinition, AtUse}
use Rattle.bit_grammar.specs.declared.value_display.ValueDisplay.{ValueDisplay}
use Rattle.bit_grammar.specs.declared.value_display.ValueDisplay.TheVariants as values
use Rattle.bit_grammar.specs.Blocks.{Limits}
use Rattle.bit_grammar.specs.Normal.{most_bytes, most_depth, most_values}
use Rattle.bit_norm.specs.declared.TheConstants.{FORM_VERSION}
use Rattle.bit_scan.specs.declared.format.EventStyle.{EventStyle}
use Rattle.bit_scan.specs.declared.format.Format.{Format}
use Rattle.bit_scan.specs.declared.format.Format.TheVariants as format
use Rattle.bitstool.specs.declared.names.Unnamed.{Unnamed}
use Rattle.bitstool.specs.declared.names.Unnamed.TheVariants.{Block, Record}
use Rattle.bitstool.specs.declared.task.Explain.{Explain}
use Rattle.bitstool.specs.declared.task.Explain.TheVariants.{Word, Lines, Json}
use Rattle.bitstool.specs.declared.task.LeftOut.{LeftOut}
use Rattle.bitstool.specs.declared.task.Task.{Task}
use Rattle.bitstool.specs.declared.task.Task.TheVariants.{Check, Normal, Same, Analyse, Show, Events, Assemble}
use Rattle.bitstool.specs.declared.task.Parsed.{Parsed}
use Rattle.bitstool.specs.declared.task.Parsed.TheVariants as parsed
use Rattle.bitstool.specs.Names.{IsNumeralOf, IsUnnamed, NameEach, NamesBlock, NamesRecord}

-- ---- the options

-- an option with a number from 0 to `most`
abbrev pub number_rule : (name : Text) → (most : ℕ) → Rule
number_rule name most = record (new_rule name)
    { long = Some name; value_names = 1; parser = Some (Unsigned 0 most) }

-- such an option, whose number is `usual` if it is not given
abbrev pub limit_rule : (name usual : Text) → (most : ℕ) → Rule
limit_rule name usual most = record (number_rule name most) { defaults = usual ∷ [] }

abbrev pub bytes_rule : Rule
bytes_rule = limit_rule (codes "bytes") (codes "1073741824") most_bytes

abbrev pub depth_rule : Rule
depth_rule = limit_rule (codes "depth") (codes "64") most_depth

abbrev pub values_rule : Rule
values_rule = limit_rule (codes "values") (codes "134217728") most_values

-- an option with a text, which may be repeated
abbrev pub name_rule : (name : Text) → Rule
name_rule name = record (new_rule name) { long = Some name; value_names = 1; action = Some Append }

-- a flag
abbrev pub flag_rule : (name : Text) → Rule
flag_rule name = record (new_rule name) { long = Some name; action = Some SetTrue }

-- an option with a number that is required
abbrev pub first_rule : Rule
first_rule = record (number_rule (codes "first") most_bytes) { required = true }

-- ---- the commands

-- a command with the limits that are numbers
abbrev pub with_numbers : Text → App
with_numbers name = with_rule (with_rule (with_rule (new_app name) bytes_rule) depth_rule) values_rule

-- a command with the limits as its options
abbrev pub with_limits : Text → App
with_limits name = with_rule (with_numbers name) (flag_rule (codes "shapes-at-use"))

-- a command that may leave out blocks and records too, with a flag for BLOCKINFO blocks
abbrev pub leaving : Text → App
leaving name = with_rule (with_rule (with_rule (with_limits name) (name_rule (codes "drop-block")))
    (name_rule (codes "drop-record"))) (flag_rule (codes "drop-info"))

abbrev pub comparing : App
comparing = with_rule (with_rule (with_rule (leaving (codes "same")) first_rule)
    (flag_rule (codes "where"))) (flag_rule (codes "json"))

-- a command that may write JSON lines
abbrev pub with_json : Text → App
with_json name = with_rule (with_limits name) (flag_rule (codes "json"))

-- and one that may leave values out
abbrev pub telling : App
telling = with_rule (with_json (codes "events")) (flag_rule (codes "no-values"))

-- only the settings for all commands
abbrev pub for_all_commands : App
for_all_commands = record {
  top = record (new_app (codes "bitstool")).top {
    has_version = true;
    no_binary_name = true;
    disable_help_subcommand = true;
    subcommand_required = true;
  };
  subs = [];
}

-- the whole command line
abbrev pub bitstool : App
bitstool = with_subcommand (with_subcommand (with_subcommand (with_subcommand (with_subcommand
    (with_subcommand (with_subcommand for_all_commands (with_limits (codes "check")).top)
    (leaving (codes "normal")).top) comparing.top) (with_json (codes "analyse")).top)
    (leaving (codes "show")).top) telling.top) (with_numbers (codes "assemble")).top

-- ---- the result of a parse

-- the text found for this option is a numeral of this number
abbrev pub HasNumber : Text → List Row → ℕ → Type 0
HasNumber id rows n = (text : Text) × (one_of id rows ≡ Some text) × IsNumeralOf text n

-- the flag was given
abbrev pub IsGiven : Text → List Row → Type 0
IsGiven id rows = one_of id rows ≡ Some (codes "true")

-- shapes are judged at their use exactly if the flag was given
abbrev pub HasShapes : List Row → Shapes → Type 0
HasShapes rows AtDefinition = ¬ (IsGiven (codes "shapes-at-use") rows)
HasShapes rows AtUse = IsGiven (codes "shapes-at-use") rows

abbrev pub HasLimits : List Row → Limits → Type 0
HasLimits rows limits = HasNumber (codes "bytes") rows limits.bytes
    × HasNumber (codes "depth") rows limits.depth × HasNumber (codes "values") rows limits.values
    × HasShapes rows limits.shapes

-- the texts given for this option, in order
abbrev pub texts_of : Text → List Row → List Text
texts_of id rows = unwrap_or (all_of id rows) []

-- these blocks were named, in order, and these records
abbrev pub NamesBlocks : List Row → List ℕ → Type 0
NamesBlocks rows = NameEach NamesBlock (texts_of (codes "drop-block") rows)

abbrev pub NamesRecords : List Row → List RecordName → Type 0
NamesRecords rows = NameEach NamesRecord (texts_of (codes "drop-record") rows)

-- The blocks with these ids are left out: the named ones, and after them the BLOCKINFO blocks if that flag was given.
abbrev pub HasBlocks : List Row → List ℕ → Type 0
HasBlocks rows ids = (named : List ℕ) × NamesBlocks rows named
    × ((IsGiven (codes "drop-info") rows × (ids ≡ named ++ 0 ∷ []))
    ⊎ (¬ (IsGiven (codes "drop-info") rows) × (ids ≡ named)))

-- and the named records
abbrev pub HasLeftOut : List Row → LeftOut → Type 0
HasLeftOut rows left = HasBlocks rows left.blocks.items × NamesRecords rows left.records.items

-- values are left out exactly if the flag was given
abbrev pub HasValues : List Row → ValueDisplay → Type 0
HasValues rows values.Shown = ¬ (IsGiven (codes "no-values") rows)
HasValues rows values.LeftOut = IsGiven (codes "no-values") rows

-- JSON lines are written exactly if the flag was given
abbrev pub HasFormat : List Row → Format → Type 0
HasFormat rows format.Text = ¬ (IsGiven (codes "json") rows)
HasFormat rows format.JsonLines = IsGiven (codes "json") rows

abbrev pub HasStyle : List Row → EventStyle → Type 0
HasStyle rows style = HasFormat rows style.format × HasValues rows style.values

-- a task with these limits and this part left out, by what was found for the options
abbrev pub IsNormal : Limits → List Row → Task → Type 0
IsNormal limits rows task = (left : LeftOut) × (task ≡ Normal limits left) × HasLeftOut rows left

-- the place where two inputs differ is reported exactly if a flag for it was given, and as JSON exactly if that flag was
abbrev pub HasExplain : List Row → Explain → Type 0
HasExplain rows Word = ¬ (IsGiven (codes "where") rows) × ¬ (IsGiven (codes "json") rows)
HasExplain rows Lines = IsGiven (codes "where") rows × ¬ (IsGiven (codes "json") rows)
HasExplain rows Json = IsGiven (codes "json") rows

-- a comparison of the first `first` bytes with the others
abbrev pub IsSame : ℕ → Limits → List Row → Task → Type 0
IsSame first limits rows task = (left : LeftOut) × (explain : Explain)
    × (task ≡ Same first explain limits left) × HasLeftOut rows left × HasExplain rows explain

abbrev pub IsShow : Limits → List Row → Task → Type 0
IsShow limits rows task = (left : LeftOut) × (task ≡ Show limits left) × HasLeftOut rows left

-- a command, with what was found for its options, asks for this task
abbrev pub Asks : Text → List Row → Task → Type 0
Asks name rows (Check limits) = (name ≡ codes "check") × HasLimits rows limits
Asks name rows (Normal limits left) = (name ≡ codes "normal") × HasLimits rows limits
    × HasLeftOut rows left
Asks name rows (Same first explain limits left) = (name ≡ codes "same")
    × HasNumber (codes "first") rows first × HasLimits rows limits × HasLeftOut rows left
    × HasExplain rows explain
Asks name rows (Analyse limits format) = (name ≡ codes "analyse") × HasLimits rows limits
    × HasFormat rows format
Asks name rows (Show limits left) = (name ≡ codes "show") × HasLimits rows limits
    × HasLeftOut rows left
Asks name rows (Events limits style) = (name ≡ codes "events") × HasLimits rows limits
    × HasStyle rows style
Asks name rows (Assemble limits) = (name ≡ codes "assemble") × HasLimits rows limits

abbrev pub Means : Option (Text × List Row) → Task → Type 0
Means None task = ⊥
Means (Some found) task = Asks found.0 found.1 task

-- the same, with the number within its range
abbrev pub HasWithin : Text → (most : ℕ) → List Row → Type 0
HasWithin id most rows = (n : ℕ) × HasNumber id rows n × (n ≤ most)

-- there is a number for each limit
abbrev pub HasAllLimits : List Row → Type 0
HasAllLimits rows = HasWithin (codes "bytes") most_bytes rows × HasWithin (codes "depth") most_depth rows
    × HasWithin (codes "values") most_values rows

-- a command of this name has, in what was found for its options, all that it needs
pub data IsComplete (rows : List Row) : Text → Type 0 where
  checks : HasAllLimits rows → IsComplete rows (codes "check")
  normalises : HasAllLimits rows → IsComplete rows (codes "normal")
  compares : HasAllLimits rows → HasWithin (codes "first") most_bytes rows
      → IsComplete rows (codes "same")
  analyses : HasAllLimits rows → IsComplete rows (codes "analyse")
  lists : HasAllLimits rows → IsComplete rows (codes "show")
  tells : HasAllLimits rows → IsComplete rows (codes "events")
  assembles : HasAllLimits rows → IsComplete rows (codes "assemble")

abbrev pub FindsAll : Option (Text × List Row) → Type 0
FindsAll None = ⊥
FindsAll (Some found) = IsComplete found.1 found.0

-- ---- invalid names

-- the text of a usage fault: this text is invalid for this option, which needs this
abbrev pub wrong_value : (text option wanted : Text) → Text
wrong_value text option wanted =
    codes "error: invalid value '" ++ (text ++ (codes "' for '"
    ++ (option ++ (codes "': " ++ (wanted
    ++ codes "\n\nFor more information, try '--help'.\n")))))

abbrev pub wrong_block : Text → Text
wrong_block text = wrong_value text (codes "--drop-block <ID>") (codes "no ID from 0 to 4294967295")

abbrev pub wrong_record : Text → Text
wrong_record text = wrong_value text (codes "--drop-record <ID:CODE>")
    (codes "no ID from 1 to 4294967295, colon, and CODE from 0 to 18446744073709551615")

-- not all names given for what is left out are valid, for this reason
abbrev pub Misnamed : List Row → Unnamed → Type 0
Misnamed rows why = IsUnnamed (texts_of (codes "drop-block") rows)
    (texts_of (codes "drop-record") rows) why

abbrev pub MisnamedIn : Option (Text × List Row) → Unnamed → Type 0
MisnamedIn None why = ⊥
MisnamedIn (Some found) why = Misnamed found.1 why

-- the result of that: the text of a usage fault; or out of memory
abbrev pub TellsOf : Unnamed → Parsed → Type 0
TellsOf (Block text) (parsed.Usage line) = string_bytes line ≡ wrong_block text.now
TellsOf (Record text) (parsed.Usage line) = string_bytes line ≡ wrong_record text.now
TellsOf why parsed.Memory = ⊤
TellsOf why other = ⊥

-- ---- the meaning of the words

-- `help` at the beginning of the words is `--help` at their end
abbrev pub help_last : List Text → List Text
help_last [] = []
help_last (word ∷ rest) = if bytes_eq word (codes "help") then rest ++ codes "--help" ∷ [] else word ∷ rest

-- the parse of the words by clap: the command that they name, with what is found for its options
unfoldable pub named_by : List Text → Option (Text × List Row)
named_by words = subcommand_of bitstool words

-- the kinds of fault that clap may find with the words; empty if it finds none
unfoldable pub faults_of : List Text → Kinds
faults_of words = fault_of bitstool words

-- this kind of error is a request for help
abbrev pub IsHelp : ErrorKind → Type 0
IsHelp kind = (kind ≡ DisplayHelp) ⊎ (kind ≡ DisplayVersion)

-- clap finds no fault with the words, and the names in them are invalid, for this reason
abbrev pub MisnamesIn : List Text → Unnamed → Type 0
MisnamesIn words why = (faults_of words ≡ []) × MisnamedIn (named_by words) why

-- the reason why the words give no task: out of memory; or clap finds this fault with them
abbrev pub GivesNoTask : List Text → ErrorKind → Type 0
GivesNoTask words kind = (kind ≡ OutOfMemory) ⊎ IsAmong kind (faults_of words)

-- the text ends with a newline
abbrev pub EndsLine : Text → Type 0
EndsLine text = (front : Text) × (text ≡ front ++ 10 ∷ [])

-- where the input is read from
abbrev pub input_tip : Text
input_tip = codes "\n  tip: the input is read from standard input, as in 'bitstool check < FILE'; no file is opened,\n  so no input can make the program touch one; 'bitsame FILE OTHER' compares two files\n"

-- how a number is written
abbrev pub number_tip : Text
number_tip = codes "\n  tip: a number is written in plain digits, as in 1073741824, and not as 1G, 1e9 or 0x10\n"

-- the end of the displayed text if a word is no number
abbrev pub no_number : Text
no_number = codes ": invalid digit found in string\n\nFor more information, try '--help'.\n"

-- The tip after the displayed text of a fault: `input_tip`, if the fault is a word that may be the name of a file; `number_tip`, if it
-- is a word that is no number.
abbrev pub tip_of : ErrorKind → Text → Text
tip_of InvalidSubcommand displayed = input_tip
tip_of UnknownArgument displayed = if starts_with nat_eq displayed (codes "error: unexpected argument '--") then [] else input_tip
tip_of ValueValidation displayed = if ends_with nat_eq displayed no_number then number_tip else []
tip_of kind displayed = []

-- what comes after the displayed text: a tip, or the version of the normal form after that of the program
abbrev pub after_text : ErrorKind → Text → Text
after_text DisplayVersion displayed = codes "normal form " ++ (decimal FORM_VERSION ++ codes "\n")
after_text kind displayed = tip_of kind displayed

-- The text is the displayed text, if that is known, and what comes after it, to the end of a line.
abbrev pub Shows : Option Text → ErrorKind → (text : Text) → Type 0
Shows output kind text = EndsLine text × ((displayed : Text) × IfSome output (λ bytes. displayed ≡ bytes)
    × ((text ≡ displayed ++ after_text kind displayed) ⊎ (text ≡ (displayed ++ after_text kind displayed) ++ 10 ∷ [])))

-- the text of a usage fault
abbrev pub IsFaultText : Text → Type 0
IsFaultText text = ((rest : Text) × (text ≡ codes "error: " ++ rest)) × EndsLine text

-- the stream for the text of an error
abbrev pub ShowsError : ErrorKind → Parsed → Type 0
ShowsError kind (parsed.Task task) = ⊥
ShowsError kind (parsed.Help text) = IsHelp kind × EndsLine (string_bytes text)
ShowsError kind (parsed.Usage text) = (IsHelp kind → ⊥) × IsFaultText (string_bytes text)
ShowsError kind parsed.Memory = ⊥

-- The meaning of the words: a task if clap finds no fault with them; help if they ask for it; a usage fault if clap finds another
-- fault, or if it finds none and a text that should name blocks or records is invalid; or out of memory while they were
-- read.
abbrev pub Says : List Text → Parsed → Type 0
Says words (parsed.Task task) = (faults_of words ≡ []) × Means (named_by words) task
Says words (parsed.Help text) = (kind : ErrorKind) × IsAmong kind (faults_of words)
    × ShowsError kind (parsed.Help text)
Says words (parsed.Usage text) = ((kind : ErrorKind) × IsAmong kind (faults_of words)
    × ShowsError kind (parsed.Usage text)) ⊎ ((why : Unnamed) × MisnamesIn words why
    × TellsOf why (parsed.Usage text))
Says words parsed.Memory = ⊤
