-- The meaning of the words, from clap's contract for a command that is read as this one.
use Rattle.std.proofs.Common.{◌≡◌, ◌∙◌, ◌⊎◌, true, List, [], Option, Result, Ok, Err, ap, sym, subst, inl, inr}
use Rattle.std.specs.Prelude.{MatchResult}
use Rattle.clap.specs.Words.{App, Row, Text, is_simple, subcommand_of}
use Rattle.clap.specs.Kinds.{IsAmong}
use Rattle.clap.specs.Faults.{fault_of, is_simple_and_free}
use Rattle.clap.specs.declared.error.kind.ErrorKind.{ErrorKind}
use Rattle.clap.specs.declared.error.kind.ErrorKind.TheVariants.{OutOfMemory}
use Rattle.bitstool.specs.declared.names.Unnamed.{Unnamed}
use Rattle.bitstool.specs.declared.task.Task.{Task}
use Rattle.bitstool.specs.declared.task.Parsed.TheVariants as Parsed
use Rattle.bitstool.specs.Words.{GivesNoTask, FindsAll, Means, MisnamedIn, MisnamesIn, Says, bitstool, faults_of, named_by}
use Rattle.bitstool.proofs.Given.{all_found}

pub faultless : (app : App) (words : List Text) → app ≡ bitstool → (is_simple_and_free app ≡ true → fault_of app words ≡ []) → faults_of words ≡ []
unfolding faults_of
faultless app words is none = subst (λ (a : App). fault_of a words ≡ []) is (none (ap is_simple_and_free is))

-- what holds of the found rows holds of those that the words name
pub meant : (app : App) (words : List Text) (rows : Option (Text × List Row)) (P : Option (Text × List Row) → Type 0) → app ≡ bitstool → (is_simple app ≡ true → rows ≡ subcommand_of app words) → P rows → P (named_by words)
unfolding named_by
meant app words rows P is found holds = subst P (found (ap is_simple is) ∙ ap (λ (a : App). subcommand_of a words) is) holds

pub faulty : (app : App) (words : List Text) (kind : ErrorKind) → app ≡ bitstool → (is_simple_and_free app ≡ true → (kind ≡ OutOfMemory) ⊎ IsAmong kind (fault_of app words)) → GivesNoTask words kind
unfolding faults_of
faulty app words kind is why = go (why (ap is_simple_and_free is))
  where
    go : (kind ≡ OutOfMemory) ⊎ IsAmong kind (fault_of app words) → GivesNoTask words kind
    go (inl memory) = inl memory
    go (inr among) = inr (subst (λ (a : App). IsAmong kind (fault_of a words)) is among)

-- a command that is read as this one, and with which clap finds no fault, has all that it needs
pub found_as : (app : App) (words : List Text) (rows : Option (Text × List Row)) → app ≡ bitstool → (is_simple_and_free app ≡ true → fault_of app words ≡ []) → (is_simple app ≡ true → rows ≡ subcommand_of app words) → FindsAll rows
unfolding named_by
found_as app words rows is none found =
    let same : rows ≡ named_by words = found (ap is_simple is) ∙ ap (λ (a : App). subcommand_of a words) is in
    subst FindsAll (sym same) (all_found words (faultless app words is none))

-- a found task, or the reason why the names are invalid
abbrev pub AnswersFor : Option (Text × List Row) → Result Task Unnamed → Type 0
AnswersFor rows answer = MatchResult answer (Means rows) (MisnamedIn rows)

-- is one that the words ask for, or the reason why their names are invalid
pub said : (words : List Text) (answer : Result Task Unnamed) → faults_of words ≡ [] → AnswersFor (named_by words) answer → MatchResult answer (λ task. Says words (Parsed.Task task)) (MisnamesIn words)
said words (Ok task) none h = (none, h)
said words (Err why) none h = (none, h)
