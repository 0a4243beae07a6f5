-- After a walk over words, if clap finds no fault, each value of an option with a number is a number in its range.
use Rattle.std.proofs.Common.{◌≡◌, ℕ, Bool, true, false, cond, zero, suc, ◌∙◌, List, [], ◌∷◌, ◌++◌, Option, Some, None, refl, sym, ap, subst, fold, length, drop, min, ◌+◌, ◌&&◌, ◌||◌, true≢false, arith}
use Rattle.std.specs.Prelude.{encode_utf8, find, slice_get, is_some, unwrap_or}
use Rattle.std.specs.Option.{option_map_or}
use Rattle.clap.specs.Values.{reading_of}
use Rattle.std.specs.Str.{bytes_eq, chars}
use Rattle.std.proofs.lemmas.Bool.{ne_eqb}
use Rattle.clap.specs.Lexer.{long_of, short_of}
use Rattle.clap.specs.Facts.{parser_of_value, unwrap_or_range}
use Rattle.clap.specs.Kinds.{Kinds, or_else, range_kinds, values_kinds}
use Rattle.clap.specs.ValueTests.{is_unsigned_in}
use Rattle.clap.specs.Walk.{Held, Names, Outcome, Row, Rule, Step, Text, Waiting, Walk, action_of, after_flag, after_step, arg_by_id, arg_by_index, arg_by_long, arg_by_short, at_row, attached_value, bundle, bundle_met, bundle_step, count_of, is_empty}
use Rattle.clap.specs.Walk.{counted, default_rows, done, has_row, is_pending, long_met, long_or_other, more_values, most_values, new_count, next, option, option_met, option_word, plain, plain_word, positional, idle, positional_held, pushed, reacted, reading_by, refused, settled, settled_rows, short_met, short_or_plain, flag_met, used_by_id}
use Rattle.clap.specs.Walk.{subcommand, subcommand_met, subcommand_or_other, takes_several, takes_values, to_positional, trailing, used, used_as, value, values_or_missing, waits, walked, walked_from, with_count, with_default, with_values, without, word_met}
use Rattle.clap.specs.Simple.{Shape}
use Rattle.clap.specs.Faults.{action_fault, bundle_fault, bundle_step_fault, default_fault, defaults_fault, flag_word_fault, flags_fault, given_default_fault, long_fault, option_fault, other_fault, positional_fault, react_fault, settle_fault, short_fault, step_fault, turn_fault, stray_fault, use_fault, values_fault, walk_fault, word_fault}
use Rattle.clap.specs.declared.builder.action.ArgAction.{ArgAction}
use Rattle.clap.specs.declared.builder.action.ArgAction.TheVariants as action
use Rattle.clap.specs.declared.builder.value_parser.ValueParser.TheVariants.{Unsigned}
use Rattle.clap.specs.declared.builder.value_parser.Reading.{Reading}
use Rattle.clap.specs.declared.builder.value_parser.Reading.TheVariants.{AsWritten}
use Rattle.clap.specs.declared.parser.matches.ValueSource.{ValueSource}
use Rattle.clap.specs.declared.parser.matches.ValueSource.TheVariants.{CommandLine, DefaultValue}
use Rattle.clap.specs.declared.error.kind.ErrorKind.{ErrorKind}

-- a rule that takes one number, up to this one
pub record IsNumeric (most : ℕ) (a : Rule) : Type 0 where
  pub action : action_of a ≡ action.Set
  pub least : (unwrap_or_range a.range).start_inclusive ≡ 1
  pub parser : parser_of_value a.parser ≡ Unsigned 0 most

-- the result for it: its first value is such a number
pub record GoodRow (most : ℕ) (r : Row) : Type 0 where
  pub reading : r.reading ≡ AsWritten
  pub text : Text
  pub first : slice_get r.values 0 ≡ Some text
  pub number : is_unsigned_in 0 most text ≡ true

-- ---- no fault

not_nil : (k : ErrorKind) (ks : Kinds) → ◌≡◌ {A = Kinds} (k ∷ ks) [] → ⊥
not_nil k ks e = true≢false (sym (ap (λ (x : Kinds). elim x [ [] ↦ true | y ∷ ys ↦ false ]) e))

pub first_none : (a b : Kinds) → or_else a b ≡ [] → a ≡ []
first_none [] b e = refl
first_none (k ∷ ks) b e = e

pub then_none : (a b : Kinds) → or_else a b ≡ [] → b ≡ []
then_none [] b e = e
then_none (k ∷ ks) b e = absurd (not_nil k ks e)

-- a value for each case of a test
pub either : {X : Type 0} (P : X → Type 0) (b : Bool) (x y : X) → (b ≡ true → P x) → (b ≡ false → P y) → P (cond b x y)
either P true x y is_so is_not = is_so refl
either P false x y is_so is_not = is_not refl

-- the same if a test also chooses the kinds of fault, of which there are none
either_none : {X : Type 0} (P : X → Type 0) (b : Bool) (x y : X) (f g : Kinds) → cond b f g ≡ [] → (f ≡ [] → P x) → (g ≡ [] → P y) → P (cond b x y)
either_none P true x y f g e is_so is_not = is_so e
either_none P false x y f g e is_so is_not = is_not e

-- ---- rows

module _ (id : Text) (most : ℕ) where
  -- each row of the option is good
  abbrev pub GoodRows : List Row → Type 0
  GoodRows [] = Unit {0}
  GoodRows (r ∷ rs) = (bytes_eq r.id id ≡ true → GoodRow most r) × GoodRows rs

  good_append : (xs ys : List Row) → GoodRows xs → GoodRows ys → GoodRows (xs ++ ys)
  good_append [] ys gx gy = gy
  good_append (x ∷ xs) ys gx gy = (gx.0, good_append xs ys gx.1 gy)

  at_good : (key : Text) (change : Row → List Row) (missing rows : List Row) → ((r : Row) → (bytes_eq r.id id ≡ true → GoodRow most r) → GoodRows (change r))
      → GoodRows missing → GoodRows rows → GoodRows (at_row key change missing rows)
  at_good key change missing [] each m g = m
  at_good key change missing (r ∷ rs) each m g =
      either GoodRows (bytes_eq r.id key) (change r ++ rs) (r ∷ at_row key change missing rs) (λ _. good_append (change r) rs (each r g.0) g.1) (λ _. (g.0, at_good key change missing rs each m g.1))

  first_stays : (xs ys : List Text) (t : Text) → slice_get xs 0 ≡ Some t → slice_get (xs ++ ys) 0 ≡ Some t
  first_stays [] ys t e = absurd (cc)
  first_stays (x ∷ xs) ys t e = e

  grown : (r : Row) (values : List Text) (count : Option ℕ) (source : Option ValueSource) → (bytes_eq r.id id ≡ true → GoodRow most r)
      → bytes_eq r.id id ≡ true → GoodRow most (record r { values = r.values ++ values; count = count; source = source })
  grown r values count source g is =
      let h = g is in
      record { reading = h.reading; text = h.text; first = first_stays r.values values h.text h.first; number = h.number }

  without_good : (key : Text) (rows : List Row) → GoodRows rows → GoodRows (without key rows)
  without_good key rows g = at_good key (λ _. []) [] rows (λ r h. tt) tt g

  with_values_good : (key : Text) (how : Reading) (s : ValueSource) (values : List Text) (rows : List Row)
      → (bytes_eq key id ≡ true → GoodRow most (record { id = key; values = values; count = None; source = Some s; reading = how })) → GoodRows rows → GoodRows (with_values key how s values rows)
  with_values_good key how s values rows new g = at_good key (more_values s values) _ rows (λ r h. (grown r values r.count _ h, tt)) (new, tt) g

  with_count_good : (key : Text) (how : Reading) (s : ValueSource) (n : ℕ) (rows : List Row) → (bytes_eq key id ≡ true → ⊥) → GoodRows rows → GoodRows (with_count key how s n rows)
  with_count_good key how s n rows other g = at_good key (new_count s n) _ rows (λ r h. (grown r _ _ _ h, tt)) ((λ is. absurd (other is)), tt) g

  counted_good : (key : Text) (how : Reading) (values : List Text) (rows : List Row) → (bytes_eq key id ≡ true → ⊥) → GoodRows rows → GoodRows (counted key how values rows)
  counted_good key how [] rows other g = with_count_good key how CommandLine (min (count_of key rows + 1) 255) (without key rows) other (without_good key rows g)
  counted_good key how (v ∷ vs) rows other g = with_values_good key how CommandLine (v ∷ vs) (without key rows) (λ is. absurd (other is)) (without_good key rows g)

  -- a use of another option
  used_other : (x : ArgAction) (key : Text) (how : Reading) (values : List Text) (rows : List Row) → (bytes_eq key id ≡ true → ⊥) → GoodRows rows → GoodRows (used_as x key how values rows)
  used_other action.Set key how values rows other g = with_values_good key how CommandLine values (without key rows) (λ is. absurd (other is)) (without_good key rows g)
  used_other action.SetTrue key how values rows other g = with_values_good key how CommandLine values (without key rows) (λ is. absurd (other is)) (without_good key rows g)
  used_other action.SetFalse key how values rows other g = with_values_good key how CommandLine values (without key rows) (λ is. absurd (other is)) (without_good key rows g)
  used_other action.Append key how values rows other g = with_values_good key how CommandLine values rows (λ is. absurd (other is)) g
  used_other action.Count key how values rows other g = counted_good key how values rows other g
  used_other action.Help key how values rows other g = g
  used_other action.HelpShort key how values rows other g = g
  used_other action.HelpLong key how values rows other g = g
  used_other action.Version key how values rows other g = g

-- values of such a rule, none of which is refused
accepted : (b : Bool) (k : ErrorKind) → cond b [] (k ∷ []) ≡ [] → b ≡ true
accepted true k e = refl
accepted false k e = absurd (not_nil k [] e)

new_row : (most : ℕ) (a : Rule) → IsNumeric most a → (v : Text) (vs : List Text) (s : ValueSource) → values_fault a (v ∷ vs) ≡ []
    → GoodRow most (record { id = a.id; values = v ∷ vs; count = None; source = Some s; reading = reading_by a })
new_row most a n v vs s e =
    let kinds : values_kinds a.ignore_case (Unsigned 0 most) (v ∷ vs) ≡ [] = subst (λ p. values_kinds a.ignore_case p (v ∷ vs) ≡ []) n.parser e in
    record { reading = ap reading_of n.parser; text = v; first = refl; number = accepted _ _ (first_none _ _ kinds) }

-- a use of the option itself
used_own : (id : Text) (most : ℕ) (again : Bool) (a : Rule) → IsNumeric most a → (values : List Text) (rows : List Row) → use_fault again a values rows ≡ [] → GoodRows id most rows → GoodRows id most (used a values rows)
used_own id most again a n [] rows e g =
    let none : range_kinds 1 (most_values a) 0 ≡ [] = subst (λ k. range_kinds k (most_values a) 0 ≡ []) n.least (first_none _ _ e) in
    absurd (not_nil _ [] none)
used_own id most again a n (v ∷ vs) rows e g =
    let set : action_fault action.Set again a (v ∷ vs) rows ≡ [] = subst (λ x. action_fault x again a (v ∷ vs) rows ≡ []) n.action (then_none _ _ e) in
    subst (λ x. GoodRows id most (used_as x a.id (reading_by a) (v ∷ vs) rows)) (sym n.action)
    (with_values_good id most a.id (reading_by a) CommandLine (v ∷ vs) (without a.id rows) (λ is. new_row most a n v vs CommandLine (then_none _ _ set)) (without_good id most a.id rows g))

-- ---- the walk

-- the rule is the only one with this id
abbrev pub IsOnly : Text → Rule → List Rule → Type 0
IsOnly id a [] = Unit {0}
IsOnly id a (x ∷ xs) = (bytes_eq x.id id ≡ true → x ≡ a) × IsOnly id a xs

some_same : {X : Type 0} (x y : X) → ◌≡◌ {A = Option X} (Some x) (Some y) → x ≡ y
some_same x y e = ap (λ (o : Option _). unwrap_or o x) e

found_only : (id : Text) (a : Rule) (f : Rule → Bool) (xs : List Rule) (b : Rule) → IsOnly id a xs → find f xs ≡ Some b → bytes_eq b.id id ≡ true → b ≡ a
found_only id a f [] b only e = absurd (cc)
found_only id a f (x ∷ xs) b only e = go (f x) e (λ rest. found_only id a f xs b only.1 rest)
  where
    go : (t : Bool) → cond t (Some x) (find f xs) ≡ Some b → (find f xs ≡ Some b → bytes_eq b.id id ≡ true → b ≡ a) → bytes_eq b.id id ≡ true → b ≡ a
    go true e rest is = let same = some_same x b e in sym same ∙ only.0 (subst (λ (r : Rule). bytes_eq r.id id ≡ true) (sym same) is)
    go false e rest is = rest e is

module _ (id : Text) (most : ℕ) (c : List Rule) (again : Bool) (a : Rule) (numeric : IsNumeric most a) (only : IsOnly id a c) where
  abbrev Good : List Row → Type 0
  Good = GoodRows id most

  abbrev IsMine : Rule → Type 0
  IsMine b = bytes_eq b.id id ≡ true → b ≡ a

  abbrev AreMine : Option Rule → Type 0
  AreMine o = (b : Rule) → o ≡ Some b → IsMine b

  found : (f : Rule → Bool) → AreMine (find f c)
  found f b is = found_only id a f c b only is

  use_good : (b : Rule) → IsMine b → (values : List Text) (rows : List Row) → use_fault again b values rows ≡ [] → Good rows → Good (used b values rows)
  use_good b mine values rows e g = go (bytes_eq b.id id) refl
    where
      go : (t : Bool) → bytes_eq b.id id ≡ t → Good (used b values rows)
      go true is =
          let same = mine is in
          subst (λ (x : Rule). Good (used x values rows)) (sym same) (used_own id most again a numeric values rows (subst (λ (x : Rule). use_fault again x values rows ≡ []) same e) g)
      go false is = used_other id most (action_of b) b.id (reading_by b) (values_or_missing b values) rows (λ y. true≢false (sym y ∙ is)) g

  by_id_good : (values : List Text) (rows : List Row) (o : Option Rule) → AreMine o → option_map_or (λ b. use_fault again b values rows) o [] ≡ [] → Good rows → Good (used_by_id o values rows)
  by_id_good values rows None mine e g = g
  by_id_good values rows (Some b) mine e g = use_good b (mine b refl) values rows e g

  pub settle_good : (h : Held) → settle_fault c again h ≡ [] → Good h.rows → Good (settled c h).rows
  settle_good h e g = go h.pending e
    where
      go : (o : Option (Text × List Text)) → option_map_or (λ p. option_map_or (λ b. use_fault again b p.1 h.rows) (arg_by_id c p.0) []) o [] ≡ [] → Good (settled_rows c o h.rows)
      go None e = g
      go (Some p) e = by_id_good p.1 h.rows (arg_by_id c p.0) (found _) e g

  react_good : (b : Rule) → IsMine b → (values : List Text) (h : Held) → react_fault c again b values h ≡ [] → Good h.rows → Good (reacted c b values h).rows
  react_good b mine values h e g = use_good b mine values (settled c h).rows (then_none _ _ e) (settle_good h (first_none _ _ e) g)

  option_good : (b : Rule) → IsMine b → (v : Option Text) (h : Held) → option_fault c again b v h ≡ [] → Good h.rows → Good (option_met c b v h).0.rows
  option_good b mine (Some v) h e g = react_good b mine (v ∷ []) h e g
  option_good b mine None h e g = settle_good h e g

  flag_good : (b : Rule) → IsMine b → (v : Option Text) (h : Held) (k : ErrorKind) → cond (is_some v) (k ∷ []) (react_fault c again b [] h) ≡ [] → Good h.rows → Good (flag_met c b v h).0.rows
  flag_good b mine (Some v) h k e g = g
  flag_good b mine None h k e g = react_good b mine [] h e g

  long_good : (o : Option Rule) → AreMine o → (v : Option Text) (h : Held) → long_fault c again o v h ≡ [] → Good h.rows → Good (long_met c o v h).0.rows
  long_good None mine v h e g = g
  long_good (Some b) mine v h e g =
      either_none (λ (x : Held × Outcome). Good x.0.rows) (takes_values b) (option_met c b v h) (flag_met c b v h) _ _ e (λ f. option_good b (mine b refl) v h f g) (λ f. flag_good b (mine b refl) v h _ f g)

  short_good : (o : Option Rule) → AreMine o → (rest : Text) (h : Held) (more : Held → Held × Outcome) (faults : Held → Kinds) → ((k : Held) → faults k ≡ [] → Good k.rows → Good (more k).0.rows)
      → short_fault c again o rest h faults ≡ [] → Good h.rows → Good (short_met c o rest h more).0.rows
  short_good None mine rest h more faults then e g = g
  short_good (Some b) mine rest h more faults then e g =
      either_none (λ (x : Held × Outcome). Good x.0.rows) (takes_values b) (option_met c b (attached_value rest) h) (more (reacted c b [] h)) _ _ e
      (λ f. option_good b (mine b refl) (attached_value rest) h f g) (λ f. then (reacted c b [] h) (then_none _ _ f) (react_good b (mine b refl) [] h (first_none _ _ f) g))

  step_good : (o : Option ℕ) (flags : Text) (skip : ℕ) (so_far : Outcome) (h : Held) (more : Text → ℕ → Outcome → Held → Held × Outcome) (faults : Text → ℕ → Held → Kinds)
      → ((f : Text) (s : ℕ) (so : Outcome) (k : Held) → faults f s k ≡ [] → Good k.rows → Good (more f s so k).0.rows)
      → bundle_step_fault c again o flags skip h faults ≡ [] → Good h.rows → Good (bundle_step c o flags skip so_far h more).0.rows
  step_good None flags skip so_far h more faults then e g = g
  step_good (Some x) flags zero so_far h more faults then e g =
      let rest = drop (length (encode_utf8 x)) flags in
      short_good (arg_by_short c x) (found _) rest h (more rest 0 done) (faults rest 0) (λ k none good. then rest 0 done k none good) e g
  step_good (Some x) flags (suc skip) so_far h more faults then e g = then _ skip so_far h e g

  flags_good : (k : ℕ) (flags : Text) (skip : ℕ) (so_far : Outcome) (h : Held) → flags_fault c again k flags skip h ≡ [] → Good h.rows → Good (bundle_met c k flags skip so_far h).0.rows
  unfolding flags_fault bundle_met
  flags_good zero flags skip so_far h e g = g
  flags_good (suc k) flags skip so_far h e g =
      step_good (slice_get (chars flags) 0) flags skip so_far h (bundle_met c k) (flags_fault c again k) (λ f s so held none good. flags_good k f s so held none good) e g

  -- a word that is no flag
  plain_good : (waiting : Waiting) (word : Text) (h : Held) → Good h.rows → Good (plain_word c waiting word h).0.rows
  plain_good idle word h g = g
  plain_good positional word h g = g
  plain_good (option key) word h g = go (arg_by_id c key)
    where
      go : (o : Option Rule) → Good (option_word o key word h).0.rows
      go None = g
      go (Some b) = g

  after_good : (waiting : Waiting) (word : Text) (h : Held) (outcome : Outcome) → Good h.rows → Good (after_flag c waiting word h outcome).0.rows
  after_good waiting word h done g = g
  after_good waiting word h (waits key) g = g
  after_good waiting word h plain g = plain_good waiting word h g
  after_good waiting word h refused g = plain_good waiting word h g

  flag_word_good : (waiting : Waiting) (word : Text) (o : Option (Text × Option Text)) (h : Held) → flag_word_fault c again o word h ≡ [] → Good h.rows → Good (long_or_other c waiting word o h).0.rows
  flag_word_good waiting word (Some p) h e g =
      let met = long_met c (arg_by_long c p.0) p.1 h in
      after_good waiting word met.0 met.1 (long_good (arg_by_long c p.0) (found _) p.1 h e g)
  flag_word_good waiting word None h e g = go (short_of word) e
    where
      go : (o : Option Text) → option_map_or (λ flags. bundle_fault c again flags h) o [] ≡ [] → Good (short_or_plain c waiting word o h).0.rows
      go None e = plain_good waiting word h g
      go (Some flags) e =
          let met = bundle c flags h in
          after_good waiting word met.0 met.1 (flags_good (length flags) flags h.skip plain (record h { skip = 0 }) e g)

-- ---- a command's words

module _ (id : Text) (most : ℕ) (s : Shape) (a : Rule) (numeric : IsNumeric most a) (only : IsOnly id a s.rules) where
  word_good : (names : Names) (is_trailing : Bool) (waiting : Waiting) (position : ℕ) (word : Text) (h : Held) → word_fault s names is_trailing waiting word h ≡ [] → GoodRows id most h.rows
      → GoodRows id most (word_met s.rules names is_trailing waiting position word h).0.rows
  word_good names true waiting position word h e g = g
  word_good names false waiting position word h e g = go (subcommand_met names waiting word) e
    where
      go : (o : Option Text) → other_fault s o word h ≡ [] → GoodRows id most (subcommand_or_other s.rules o waiting position word h).0.rows
      go (Some name) e = g
      go None e =
          either_flag (bytes_eq word (45 ∷ 45 ∷ [])) e
        where
          either_flag : (b : Bool) → cond b [] (flag_word_fault s.rules s.args_override_self (long_of word) word h) ≡ []
              → GoodRows id most (cond b (h, trailing position) (long_or_other s.rules waiting word (long_of word) h)).0.rows
          either_flag true e = g
          either_flag false e = flag_word_good id most s.rules s.args_override_self a numeric only waiting word (long_of word) h e g

  position_good : (b : Rule) (word : Text) (h : Held) → positional_fault s.rules s.args_override_self b h ≡ [] → GoodRows id most h.rows → GoodRows id most (positional_held s.rules b word h).rows
  position_good b word h e g = go (is_pending b h.pending && takes_several b) e
    where
      go : (t : Bool) → cond t [] (settle_fault s.rules s.args_override_self h) ≡ [] → GoodRows id most (pushed b.id word (cond t h (settled s.rules h))).rows
      go true e = g
      go false e = settle_good id most s.rules s.args_override_self a numeric only h e g

  after_step_good : (word : Text) (w : Walk) (h : Held) (step : Step) → step_fault s w.position h step ≡ [] → GoodRows id most h.rows → GoodRows id most (after_step s.rules word w h step).held.rows
  after_step_good word w h (next waiting) e g = g
  after_step_good word w h (trailing position) e g = g
  after_step_good word w h (subcommand name) e g = g
  after_step_good word w h value e g = go (arg_by_index s.rules w.position) e
    where
      go : (o : Option Rule) → option_map_or (λ b. positional_fault s.rules s.args_override_self b h) o (stray_fault s) ≡ [] → GoodRows id most (to_positional s.rules o word w h).held.rows
      go None e = g
      go (Some b) e = position_good b word h e g

  from_good : (names : Names) (w : Walk) (word : Text) (o : Option (Text × List Text))
      → cond (is_some o) [] (or_else (word_fault s names w.is_trailing w.waiting word w.held) (step_fault s w.position (word_met s.rules names w.is_trailing w.waiting w.position word w.held).0 (word_met s.rules names w.is_trailing w.waiting w.position word w.held).1)) ≡ []
      → GoodRows id most w.held.rows → GoodRows id most (walked_from s.rules names o w word).held.rows
  from_good names w word (Some p) e g = g
  from_good names w word None e g =
      let met = word_met s.rules names w.is_trailing w.waiting w.position word w.held in
      after_step_good word w met.0 met.1 (then_none _ _ e) (word_good names w.is_trailing w.waiting w.position word w.held (first_none _ _ e) g)

  turn_good : (names : Names) (w : Walk) (word : Text) → turn_fault s names w word ≡ [] → GoodRows id most w.held.rows → GoodRows id most (walked s.rules names w word).held.rows
  unfolding walked
  turn_good names w word e g = from_good names w word w.stopped e g

  pub walk_good : (names : Names) (w : Walk) (words : List Text) → walk_fault s names w words ≡ [] → GoodRows id most w.held.rows → GoodRows id most (fold (walked s.rules names) w words).held.rows
  unfolding walk_fault
  walk_good names w [] e g = g
  walk_good names w (word ∷ words) e g = walk_good names (walked s.rules names w word) words (then_none _ _ e) (turn_good names w word (first_none _ _ e) g)

  -- ---- defaults

  default_good : (rows : List Row) (b : Rule) → (bytes_eq b.id id ≡ true → b ≡ a) → default_fault rows b ≡ [] → GoodRows id most rows → GoodRows id most (with_default rows b)
  default_good rows b mine e g = go (has_row b.id rows) b.defaults e
    where
      new : (values : List Text) → given_default_fault b values ≡ [] → GoodRows id most (default_rows b.id (reading_by b) values rows)
      new [] e = g
      new (v ∷ vs) e =
          with_values_good id most b.id (reading_by b) DefaultValue (v ∷ vs) rows
          (λ is. subst (λ (x : Rule). values_fault x (v ∷ vs) ≡ [] → GoodRow most (record { id = x.id; values = v ∷ vs; count = None; source = Some DefaultValue; reading = reading_by x })) (sym (mine is)) (new_row most a numeric v vs DefaultValue) (then_none _ _ e)) g

      go : (t : Bool) (values : List Text) → cond (t || is_empty values) [] (given_default_fault b values) ≡ [] → GoodRows id most (cond t rows (default_rows b.id (reading_by b) values rows))
      go true values e = g
      go false [] e = g
      go false (v ∷ vs) e = new (v ∷ vs) (subst (λ (t : Bool). cond t [] (given_default_fault b (v ∷ vs)) ≡ []) (ne_eqb _ _ (λ z. omega arith)) e)

  pub defaults_good : (rules : List Rule) (rows : List Row) → IsOnly id a rules → defaults_fault rows rules ≡ [] → GoodRows id most rows → GoodRows id most (fold with_default rows rules)
  unfolding defaults_fault
  defaults_good [] rows only e g = g
  defaults_good (b ∷ rest) rows only e g = defaults_good rest (with_default rows b) only.1 (then_none _ _ e) (default_good rows b only.0 (first_none _ _ e) g)
