-- Words with which clap finds no fault name a command, and give it all that it needs.
use Rattle.std.proofs.Common.{◌≡◌, ◌∙◌, ◌⊎◌, ℕ, Bool, true, false, cond, ◌&&◌, ◌||◌, not, List, [], ◌∷◌, Option, Some, None, refl, sym, ap, subst, fold, inl, inr, codes, true≢false}
use Rattle.std.proofs.lemmas.Slice.Eq.{bytes_eq-Decides}
use Rattle.std.specs.Prelude.{option_and_then, unwrap_or, ◌++◌, find, is_some, option_map}
use Rattle.std.specs.Option.{option_map_or}
use Rattle.std.specs.List.{list_any}
use Rattle.std.specs.Str.{bytes_eq}
use Rattle.std.specs.Str.Parse.{digits_value, without_leading_plus}
use Rattle.clap.specs.Facts.{explicit_source}
use Rattle.clap.specs.Kinds.{Kinds, check_kinds}
use Rattle.clap.specs.ValueTests.{is_unsigned_in}
use Rattle.clap.specs.Walk.{Held, Row, Rule, Text, answers_to, default_rows, finished, has_row, more_values, nothing_held, one_of, reading_by, row_text, rows_after, settled, walk, walk_from, with_default, with_values}
use Rattle.clap.specs.Simple.{App, Shape, built, built_leaf, entered, filled, inherited, label_of, marked_built, names_of, rows_at, with_leaf_noted}
use Rattle.clap.specs.Takes.{is_given}
use Rattle.clap.specs.Faults.{built_fault, check_fault, defaults_fault, entered_fault, level_fault, settle_fault, walk_fault}
use Rattle.clap.specs.declared.builder.value_parser.Reading.{Reading}
use Rattle.clap.specs.declared.builder.value_parser.ValueParser.TheVariants.{Unsigned}
use Rattle.clap.specs.declared.error.kind.ErrorKind.{ErrorKind}
use Rattle.clap.specs.declared.parser.matches.ValueSource.{ValueSource}
use Rattle.clap.specs.declared.parser.matches.ValueSource.TheVariants.{DefaultValue}
use Rattle.clap.proofs.ValueTestLemmas.{accepts-Accepts}
use Rattle.bitstool.specs.Words.{HasAllLimits, HasWithin, IsComplete, checks, normalises, compares, analyses, lists, tells, assembles, FindsAll, bitstool, with_json, with_limits, with_numbers, leaving, comparing, telling, faults_of, named_by, bytes_rule, depth_rule, values_rule, first_rule}
use Rattle.bitstool.proofs.Walked.{GoodRow, GoodRows, IsNumeric, IsOnly, defaults_good, first_none, settle_good, then_none, walk_good}

-- ---- rows

-- a good row that was found gives a number
found_number : (id : Text) (most : ℕ) (rows : List Row) → GoodRows id most rows → has_row id rows ≡ true → (t : Text) × (one_of id rows ≡ Some t) × (is_unsigned_in 0 most t ≡ true)
found_number id most [] g e = absurd (true≢false (sym e))
found_number id most (r ∷ rs) g e = go (bytes_eq r.id id) g.0 e (λ rest. found_number id most rs g.1 rest)
  where
    go : (b : Bool) → (b ≡ true → GoodRow most r) → (b || has_row id rs) ≡ true → (has_row id rs ≡ true → (t : Text) × (one_of id rs ≡ Some t) × (is_unsigned_in 0 most t ≡ true))
        → (t : Text) × (option_and_then row_text (cond b (Some r) (find (λ x. bytes_eq x.id id) rs)) ≡ Some t) × (is_unsigned_in 0 most t ≡ true)
    go true h e rest = let good = h refl in (good.text, rw (good.reading, good.first) refl, good.number)
    go false h e rest = rest e

pub within : (id : Text) (most : ℕ) (rows : List Row) → GoodRows id most rows → has_row id rows ≡ true → HasWithin id most rows
within id most rows g has =
    let found = found_number id most rows g has in
    let number = accepts-Accepts false (Unsigned 0 most) found.0 found.2 in
    (digits_value 10 (without_leading_plus found.0), (found.0, found.1, (number.0, refl)), number.3)

-- ---- the rows that exist

abbrev Has : Text → List Row → Type 0
Has id rows = has_row id rows ≡ true

-- one more row leaves the existing ones
with_values_keeps : (id key : Text) (how : Reading) (s : ValueSource) (values : List Text) (rows : List Row) → Has id rows → Has id (with_values key how s values rows)
with_values_keeps id key how s values [] has = absurd (true≢false (sym has))
with_values_keeps id key how s values (r ∷ rs) has = go (bytes_eq r.id key) (bytes_eq r.id id) has (λ rest. with_values_keeps id key how s values rs rest)
  where
    inner : (b : Bool) (x : List Row) → (b || has_row id rs) ≡ true → (Has id rs → Has id x) → (b || has_row id x) ≡ true
    inner true x has rest = refl
    inner false x has rest = rest has

    go : (t b : Bool) → (bytes_eq r.id id || has_row id rs) ≡ true → (Has id rs → Has id (with_values key how s values rs)) → Has id (cond t (more_values s values r ++ rs) (r ∷ with_values key how s values rs))
    go true b has rest = has
    go false b has rest = inner (bytes_eq r.id id) (with_values key how s values rs) has rest

-- and exists
with_values_has : (key : Text) (how : Reading) (s : ValueSource) (values : List Text) (rows : List Row) → Has key (with_values key how s values rows)
with_values_has key how s values [] = rw ((bytes_eq-Decides key key).1 refl) refl
with_values_has key how s values (r ∷ rs) = go (bytes_eq r.id key) refl (with_values_has key how s values rs)
  where
    go : (t : Bool) → bytes_eq r.id key ≡ t → Has key (with_values key how s values rs) → Has key (cond t (more_values s values r ++ rs) (r ∷ with_values key how s values rs))
    go true is rest = rw is refl
    go false is rest = rw is rest

default_keeps : (id : Text) (rows : List Row) (b : Rule) → Has id rows → Has id (with_default rows b)
default_keeps id rows b has = go (has_row b.id rows) b.defaults
  where
    go : (t : Bool) (values : List Text) → Has id (cond t rows (default_rows b.id (reading_by b) values rows))
    go true values = has
    go false [] = has
    go false (v ∷ vs) = with_values_keeps id b.id (reading_by b) DefaultValue (v ∷ vs) rows has

defaults_keep : (id : Text) (rules : List Rule) (rows : List Row) → Has id rows → Has id (fold with_default rows rules)
defaults_keep id [] rows has = has
defaults_keep id (b ∷ rest) rows has = defaults_keep id rest (with_default rows b) (default_keeps id rows b has)

-- a rule is in a list
abbrev pub IsIn : Rule → List Rule → Type 0
IsIn a [] = ⊥
IsIn a (x ∷ xs) = (x ≡ a) ⊎ IsIn a xs

default_has : (rows : List Row) (a : Rule) (v : Text) (vs : List Text) → a.defaults ≡ v ∷ vs → Has a.id (with_default rows a)
default_has rows a v vs is = go (has_row a.id rows) refl
  where
    go : (t : Bool) → has_row a.id rows ≡ t → Has a.id (cond t rows (default_rows a.id (reading_by a) a.defaults rows))
    go true has = has
    go false has = rw is (with_values_has a.id (reading_by a) DefaultValue (v ∷ vs) rows)

-- an option with a default exists
defaults_have : (rules : List Rule) (rows : List Row) (a : Rule) (v : Text) (vs : List Text) → IsIn a rules → a.defaults ≡ v ∷ vs → Has a.id (fold with_default rows rules)
defaults_have [] rows a v vs there is = absurd there
defaults_have (x ∷ xs) rows a v vs (inl here) is = defaults_keep a.id xs (with_default rows x) (subst (λ (y : Rule). Has a.id (with_default rows y)) (sym here) (default_has rows a v vs is))
defaults_have (x ∷ xs) rows a v vs (inr later) is = defaults_have xs (with_default rows x) a v vs later is

-- what the words gave exists
given_has : (id : Text) (rows : List Row) → is_given id rows ≡ true → Has id rows
given_has id [] e = absurd (true≢false (sym e))
given_has id (r ∷ rs) e = go (bytes_eq r.id id) e (λ rest. given_has id rs rest)
  where
    go : (b : Bool) → option_map_or (λ (x : Row). explicit_source x.source) (cond b (Some r) (find (λ x. bytes_eq x.id id) rs)) false ≡ true → (is_given id rs ≡ true → Has id rs) → (b || has_row id rs) ≡ true
    go true e rest = refl
    go false e rest = rest e

-- no required option is missing
required_given : (rules : List Rule) (rows : List Row) (a : Rule) → IsIn a rules → a.required ≡ true → list_any (λ b. b.required && not (is_given b.id rows)) rules ≡ false → is_given a.id rows ≡ true
required_given [] rows a there required e = absurd there
required_given (x ∷ xs) rows a (inl here) required e = go (is_given a.id rows) required (subst (λ (y : Rule). (y.required && not (is_given y.id rows) || list_any (λ b. b.required && not (is_given b.id rows)) xs) ≡ false) here e)
  where
    go : (g : Bool) → a.required ≡ true → (a.required && not g || list_any (λ b. b.required && not (is_given b.id rows)) xs) ≡ false → g ≡ true
    go true is e = refl
    go false is e = absurd (true≢false (rw is at e))
required_given (x ∷ xs) rows a (inr later) required e = required_given xs rows a later required (go (x.required && not (is_given x.id rows)) e)
  where
    go : (b : Bool) → (b || list_any (λ b. b.required && not (is_given b.id rows)) xs) ≡ false → list_any (λ b. b.required && not (is_given b.id rows)) xs ≡ false
    go false e = e
    go true e = absurd (true≢false e)

-- ---- the last checks

not_nil : (k : ErrorKind) (ks : Kinds) → ◌≡◌ {A = Kinds} (k ∷ ks) [] → ⊥
not_nil k ks e = absurd (cc)

none_wanted : (help sub arg : Bool) → check_kinds help sub arg ≡ [] → (sub ≡ false) × (arg ≡ false)
none_wanted true sub arg e = absurd (not_nil _ [] e)
none_wanted false true arg e = absurd (not_nil _ [] e)
none_wanted false false true e = absurd (not_nil _ [] e)
none_wanted false false false e = (refl, refl)

-- ---- a command

abbrev AfterWords : Shape → List Text → List Row
AfterWords s words = rows_after s.rules [] words

module _ (s : Shape) (words : List Text) (passes : level_fault s [] nothing_held words false [] ≡ []) where
  abbrev End : Held
  End = (walk s.rules [] nothing_held words).held

  good_rows : (id : Text) (most : ℕ) (a : Rule) → IsNumeric most a → IsOnly id a s.rules → GoodRows id most (AfterWords s words)
  good_rows id most a numeric only =
      let walked = walk_good id most s a numeric only [] (walk_from nothing_held) words (first_none _ _ passes) tt in
      let ended = settle_good id most s.rules s.args_override_self a numeric only End (first_none _ _ (then_none _ _ passes)) walked in
      defaults_good id most s a numeric only s.rules (settled s.rules End).rows only (first_none _ _ (then_none _ _ (then_none _ _ passes))) ended

  pub with_default_within : (most : ℕ) (a : Rule) (v : Text) → IsNumeric most a → IsOnly a.id a s.rules → IsIn a s.rules → a.defaults ≡ v ∷ [] → HasWithin a.id most (AfterWords s words)
  with_default_within most a v numeric only there is =
      within a.id most (AfterWords s words) (good_rows a.id most a numeric only) (defaults_have s.rules (settled s.rules End).rows a v [] there is)

  pub required_within : (most : ℕ) (a : Rule) → IsNumeric most a → IsOnly a.id a s.rules → IsIn a s.rules → a.required ≡ true → s.subcommand_negates_reqs ≡ false → HasWithin a.id most (AfterWords s words)
  required_within most a numeric only there required negates =
      let checked : check_fault s (AfterWords s words) false ≡ [] =
      then_none (defaults_fault (settled s.rules End).rows s.rules) _ (then_none (settle_fault s.rules s.args_override_self End) _ (then_none (walk_fault s [] (walk_from nothing_held) words) _ passes)) in
      let asked = (none_wanted _ _ _ checked).1 in
      let none : list_any (λ b. b.required && not (is_given b.id (AfterWords s words))) s.rules ≡ false = rw negates at asked in
      within a.id most (AfterWords s words) (good_rows a.id most a numeric only) (given_has a.id (AfterWords s words) (required_given s.rules (AfterWords s words) a there required none))

-- words that pass give a command all that it needs
abbrev IsCommand : Shape → Type 0
IsCommand s = (words : List Text) → level_fault s [] nothing_held words false [] ≡ [] → IsComplete (AfterWords s words) s.name

-- the result of building a command below the top
abbrev leaf : App → Shape
leaf a = built_leaf (inherited (with_leaf_noted (marked_built bitstool.top)) a.top)

never : {X : Type 0} → false ≡ true → X
never e = absurd (true≢false (sym e))

bytes_numeric : IsNumeric 17179869180 (filled bytes_rule)
bytes_numeric = record { action = refl; least = refl; parser = refl }

depth_numeric : IsNumeric 255 (filled depth_rule)
depth_numeric = record { action = refl; least = refl; parser = refl }

values_numeric : IsNumeric 4294967295 (filled values_rule)
values_numeric = record { action = refl; least = refl; parser = refl }

first_numeric : IsNumeric 17179869180 (filled first_rule)
first_numeric = record { action = refl; least = refl; parser = refl }

-- no other rule has this id
others : (id : Text) (a : Rule) (rules : List Rule) → list_any (λ x. bytes_eq x.id id) rules ≡ false → IsOnly id a rules
others id a [] none = tt
others id a (x ∷ xs) none = go (bytes_eq x.id id) refl none (others id a xs)
  where
    go : (b : Bool) → bytes_eq x.id id ≡ b → (b || list_any (λ y. bytes_eq y.id id) xs) ≡ false → (list_any (λ y. bytes_eq y.id id) xs ≡ false → IsOnly id a xs) → IsOnly id a (x ∷ xs)
    go true is none rest = absurd (true≢false none)
    go false is none rest = ((λ yes. never (sym is ∙ yes)), rest none)

-- a command that begins with the limits that are numbers, and has other options after them
abbrev Others : List Rule → Type 0
Others tail = (list_any (λ x. bytes_eq x.id (codes "bytes")) tail ≡ false) × (list_any (λ x. bytes_eq x.id (codes "depth")) tail ≡ false) × (list_any (λ x. bytes_eq x.id (codes "values")) tail ≡ false)

numbers_within : (s : Shape) (tail : List Rule) → s.rules ≡ filled bytes_rule ∷ filled depth_rule ∷ filled values_rule ∷ tail → Others tail
    → (words : List Text) → level_fault s [] nothing_held words false [] ≡ [] → HasAllLimits (AfterWords s words)
numbers_within s tail is apart words passes =
    let bytes_only : IsOnly (codes "bytes") (filled bytes_rule) s.rules = subst (IsOnly (codes "bytes") (filled bytes_rule)) (sym is) ((λ _. refl), (never, (never, others (codes "bytes") (filled bytes_rule) tail apart.0))) in
    let depth_only : IsOnly (codes "depth") (filled depth_rule) s.rules = subst (IsOnly (codes "depth") (filled depth_rule)) (sym is) (never, ((λ _. refl), (never, others (codes "depth") (filled depth_rule) tail apart.1))) in
    let values_only : IsOnly (codes "values") (filled values_rule) s.rules = subst (IsOnly (codes "values") (filled values_rule)) (sym is) (never, (never, ((λ _. refl), others (codes "values") (filled values_rule) tail apart.2))) in (
      with_default_within s words passes 17179869180 (filled bytes_rule) (codes "1073741824") bytes_numeric bytes_only (subst (IsIn (filled bytes_rule)) (sym is) (inl refl)) refl,
      with_default_within s words passes 255 (filled depth_rule) (codes "64") depth_numeric depth_only (subst (IsIn (filled depth_rule)) (sym is) (inr (inl refl))) refl,
      with_default_within s words passes 4294967295 (filled values_rule) (codes "134217728") values_numeric values_only (subst (IsIn (filled values_rule)) (sym is) (inr (inr (inl refl)))) refl,
    )

numbers_alone : (name : Text) (words : List Text) → level_fault (leaf (with_numbers name)) [] nothing_held words false [] ≡ [] → HasAllLimits (AfterWords (leaf (with_numbers name)) words)
numbers_alone name words passes = numbers_within (leaf (with_numbers name)) _ refl (refl, refl, refl) words passes

limits_within : (name : Text) (words : List Text) → level_fault (leaf (with_limits name)) [] nothing_held words false [] ≡ [] → HasAllLimits (AfterWords (leaf (with_limits name)) words)
limits_within name words passes = numbers_within (leaf (with_limits name)) _ refl (refl, refl, refl) words passes

json_within : (name : Text) (words : List Text) → level_fault (leaf (with_json name)) [] nothing_held words false [] ≡ [] → HasAllLimits (AfterWords (leaf (with_json name)) words)
json_within name words passes = numbers_within (leaf (with_json name)) _ refl (refl, refl, refl) words passes

leaving_within : (name : Text) (words : List Text) → level_fault (leaf (leaving name)) [] nothing_held words false [] ≡ [] → HasAllLimits (AfterWords (leaf (leaving name)) words)
leaving_within name words passes = numbers_within (leaf (leaving name)) _ refl (refl, refl, refl) words passes

comparing_within : (words : List Text) → level_fault (leaf comparing) [] nothing_held words false [] ≡ [] → HasAllLimits (AfterWords (leaf comparing) words)
comparing_within words passes = numbers_within (leaf comparing) _ refl (refl, refl, refl) words passes

telling_within : (words : List Text) → level_fault (leaf telling) [] nothing_held words false [] ≡ [] → HasAllLimits (AfterWords (leaf telling) words)
telling_within words passes = numbers_within (leaf telling) _ refl (refl, refl, refl) words passes

first_within : (words : List Text) → level_fault (leaf comparing) [] nothing_held words false [] ≡ [] → HasWithin (codes "first") 17179869180 (AfterWords (leaf comparing) words)
first_within words passes = required_within (leaf comparing) words passes 17179869180 (filled first_rule) first_numeric (never, (never, (never, (never, (never, (never, (never, ((λ _. refl), (never, (never, (never, tt)))))))))))
    (inr (inr (inr (inr (inr (inr (inr (inl refl)))))))) refl refl

-- ---- the whole command line

abbrev AreCommands : List Shape → Type 0
AreCommands [] = Unit {0}
AreCommands (s ∷ rest) = IsCommand s × AreCommands rest

commands : AreCommands (built bitstool).subs
commands = (
  λ words passes. checks (limits_within (codes "check") words passes),
  (
    λ words passes. normalises (leaving_within (codes "normal") words passes),
    (
      λ words passes. compares (comparing_within words passes) (first_within words passes),
      (
        λ words passes. analyses (json_within (codes "analyse") words passes),
        (
          λ words passes. lists (leaving_within (codes "show") words passes),
          (λ words passes. tells (telling_within words passes), (λ words passes. assembles (numbers_alone (codes "assemble") words passes), tt)),
        ),
      ),
    ),
  ),
)

found_command : (f : Shape → Bool) (shapes : List Shape) (s : Shape) → AreCommands shapes → find f shapes ≡ Some s → IsCommand s
found_command f [] s all e = absurd (cc)
found_command f (x ∷ xs) s all e = go (f x) e (λ rest. found_command f xs s all.1 rest)
  where
    go : (b : Bool) → cond b (Some x) (find f xs) ≡ Some s → (find f xs ≡ Some s → IsCommand s) → IsCommand s
    go true e rest = subst IsCommand (ap (λ (o : Option Shape). unwrap_or o x) e) all.0
    go false e rest = rest e

module _ (a : App) (needs : a.top.subcommand_required ≡ true) (all : AreCommands a.subs) where
  -- the top requires a command
  asked : (rows : List Row) → check_fault a.top rows false ≡ [] → ⊥
  asked rows e = let none = (none_wanted _ _ _ e).0 in true≢false (sym needs ∙ none)

  enters : (rows : List Row) (stop : Option (Text × List Text)) → entered_fault a stop ≡ [] → check_fault a.top rows (is_some (entered a stop)) ≡ [] → FindsAll (entered a stop)
  enters rows None below checked = absurd (asked rows checked)
  enters rows (Some p) below checked = go (find (λ s. answers_to p.0 (label_of s)) a.subs) refl below checked
    where
      go : (o : Option Shape) → find (λ s. answers_to p.0 (label_of s)) a.subs ≡ o → option_map_or (λ s. level_fault s [] nothing_held p.1 false []) o [] ≡ []
          → check_fault a.top rows (is_some (option_map (λ s. rows_at s p.1) o)) ≡ [] → FindsAll (option_map (λ s. rows_at s p.1) o)
      go None found below checked = absurd (asked rows checked)
      go (Some s) found below checked = found_command (λ x. answers_to p.0 (label_of x)) a.subs s all found p.1 below

  finds_all : (words : List Text) → built_fault a nothing_held words ≡ [] → FindsAll (entered a (walk a.top.rules (names_of a) nothing_held words).stopped)
  finds_all words e =
      let w = walk a.top.rules (names_of a) nothing_held words in
      let below = then_none (walk_fault a.top (names_of a) (walk_from nothing_held) words) _ e in
      let after = then_none (entered_fault a w.stopped) _ below in
      let settled_then = then_none (settle_fault a.top.rules a.top.args_override_self w.held) _ after in
      let checked = then_none (defaults_fault (settled a.top.rules w.held).rows a.top.rules) _ settled_then in
      enters (finished a.top.rules w.held) w.stopped (first_none _ _ below) checked

-- if clap finds no fault with the words, it finds a command in them, and all that the command needs
pub all_found : (words : List Text) → faults_of words ≡ [] → FindsAll (named_by words)
unfolding faults_of named_by
all_found words e = finds_all (built bitstool) refl commands words e
