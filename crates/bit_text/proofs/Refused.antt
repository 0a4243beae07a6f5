-- A text is refused at a line for the reason that the words of the format give there.
use Rattle.std.proofs.Common.{◌≡◌, refl, ℕ, ◌+◌, ◌*◌, ◌/◌, ◌%◌, ◌<◌, ◌≤◌, ◌⊎◌, Bool, true, false, not, ◌&&◌, nat_eq, nat_lt, List, [], ◌∷◌, ◌++◌, length, replicate, inl, inr, Option, Some, None, Result, Ok, Err, if◌then◌else◌, sym, ◌∙◌, ap, subst, arith}
use Rattle.std.proofs.lemmas.Bool.{cases_lt}
use Rattle.bit_grammar.specs.Blocks.{Limits}
use Rattle.bit_grammar.specs.Forest.{Tree, Fit, forest_values, wrapper_magic}
use Rattle.bit_grammar.specs.FormatListing.{AreParts, Item, of_block, of_record, IsItem, Entry, IsEntry, IsFreeLine, IsMagicLine}
use Rattle.bit_grammar.specs.Normal.{Capped}
use Rattle.bit_grammar.specs.declared.shapes.Shapes.TheVariants.{AtDefinition}
use Rattle.bit_fields.specs.Opening.{magic_number}
use Rattle.bit_norm.specs.Telling.{Call, Where, at_top, fits, takes_block, takes_record, where_after, IsFit}
use Rattle.bit_text.specs.declared.reason.TextReason.{TextReason}
use Rattle.bit_text.specs.declared.reason.TextReason.TheVariants.{NoMagic, WrapperMagic, BadLine, NumberTooLarge, BadIndentation, TooDeep, TooManyValues, Misplaced}
use Rattle.bit_text.specs.Numbers.{and_then, lines}
use Rattle.bit_text.specs.Lines.{spaces, content, is_free, magic_of, item_of}
use Rattle.bit_text.specs.Listings.{Standing, at_start, behind_magic, begun, misfit, ends_before, item_calls, said, after_line, at_end, told_all, lines_read, reading_of}
use Rattle.bit_text.specs.Entries.{entries_of, Lists}
use Rattle.bit_text.specs.Refusals.{IsTooLarge, HasAfterSpaces, IsSomeItem, AreFree, LinesList, blocks_open, Follows, PassesDepth, PassesValues, Breaks, number_after, IsRefused, HasNoMagic}
use Rattle.bit_text.proofs.Decimals.{is_below}
use Rattle.bit_text.proofs.Entries.{called, open_after, closed, told_with, entries_told, entry_told, entries_of_told, calls_in, depth_closed, tree_entries, open_in_tree, values_in_tree, last_fits}
use Rattle.bit_text.proofs.Fitting.{is_lower, is_other, Good, line_good, lines_fit}
use Rattle.bit_text.proofs.FromWords.{only_parts, BeginsItem, item_read, free_read, magic_read_of, magic_not_free}
use Rattle.bit_text.proofs.InWords.{item_is, spaces_are, says_nothing, free_or_said, first_is, magic_is, is_same, at_most, lines_list, parts_are}
use Rattle.bit_text.proofs.Spelled.{stands, spaced_line, entry_said, listed_read, not_both}
use Rattle.bit_text.proofs.Spelling.{same_byte}
use Rattle.bit_text.proofs.Standings.{ReadsAll, counted, next_number, last_number, reads_on, reads_all, reads_same, stops, refused_same}
use Rattle.bit_text.proofs.Takings.{line_refused}
use Rattle.bit_text.proofs.Tellings.{where_append, not_below, too_far_in, odd_spaces, says}
use Rattle.bit_text.proofs.TooLarge.{IsOfLine, OnlyLine, item_only, item_over, over_item}
use Rattle.bit_text.proofs.Written.{content_of}

never_both : {A : Type 0} (r : Result A TextReason) (a : A) (reason : TextReason) → r ≡ Ok a → r ≡ Err reason → ⊥
never_both r a reason h k = cc

-- ---- lines that are no entries

content_same : (line : List ℕ) (n : ℕ) (text : List ℕ) (found : Result Call TextReason) → line ≡ replicate n 32 ++ text → BeginsItem text found → item_of (content line) ≡ found
content_same line n text found same is = ap (λ (l : List ℕ). item_of (content l)) (same ∙ ap (λ (t : List ℕ). replicate n 32 ++ t) is.same) ∙ ap item_of (content_of n is.first is.rest is.no_space) ∙ is.read

large_is_other : (r : Result Call TextReason) → r ≡ Err BadLine → r ≡ Err NumberTooLarge → ⊥
large_is_other r h k = cc

-- a line whose text is no item
text_broken : (limits : Limits) (before : List (List ℕ)) (line : List ℕ) (tree : Tree) (reason : TextReason) → LinesList limits before tree → (IsFreeLine line → ⊥) → item_of (content line) ≡ Err reason → IsOfLine reason → Breaks limits before line reason
text_broken limits before line tree BadLine lists not_free found only = (
  tree,
  lists,
  not_free,
  λ (n, text, same, (item, is)). never_both (item_of (content line)) (called item) BadLine (content_same line n text (Ok (called item)) same (item_read text item is)) found,
  λ (n, text, same, is). large_is_other (item_of (content line)) found (content_same line n text (Err NumberTooLarge) same (over_item text is)),
)
text_broken limits before line tree NumberTooLarge lists not_free found only = (tree, lists, (spaces line, content line, spaces_are line, item_over (content line) found))
text_broken limits before line tree NoMagic lists not_free found only = absurd only
text_broken limits before line tree WrapperMagic lists not_free found only = absurd only
text_broken limits before line tree BadIndentation lists not_free found only = absurd only
text_broken limits before line tree TooDeep lists not_free found only = absurd only
text_broken limits before line tree TooManyValues lists not_free found only = absurd only
text_broken limits before line tree Misplaced lists not_free found only = absurd only

-- ---- entries that do not fit

-- a test that fails although its last part does not fails whatever that part is
first_fails : (a b c : Bool) → b ≡ true → a && b ≡ false → a && c ≡ true → ⊥
first_fails true b c h k e = absurd cc
first_fails false b c h k e = absurd cc

-- under limits that do not matter an item fits no more than under those to which it keeps
fits_alike : (limits other : Limits) (w : Where) (tree : Tree) (around : ℕ) (item : Item) → w.depth ≡ around → w.values ≡ forest_values tree.blocks → (PassesDepth limits around item → ⊥) → (PassesValues limits tree item → ⊥)
    → fits limits w (called item) ≡ false → fits other w (called item) ≡ true → ⊥
fits_alike limits other w tree around (of_block id) deep many not_deep not_many fails holds_there =
    first_fails (takes_block w.inside) (nat_lt w.depth limits.depth) (nat_lt w.depth other.depth) (within (nat_lt w.depth limits.depth) refl) fails holds_there
  where
    within : (t : Bool) → nat_lt w.depth limits.depth ≡ t → nat_lt w.depth limits.depth ≡ true
    within true h = h
    within false h = absurd (not_deep (omega (arith, deep, at_most w.depth limits.depth h)))
fits_alike limits other w tree around (of_record code values) deep many not_deep not_many fails holds_there =
    first_fails (nat_lt 0 w.depth && takes_record w.inside code values) (not (nat_lt limits.values (w.values + length values))) (not (nat_lt other.values (w.values + length values))) (within (nat_lt limits.values (w.values + length values)) refl) fails holds_there
  where
    within : (t : Bool) → nat_lt limits.values (w.values + length values) ≡ t → not (nat_lt limits.values (w.values + length values)) ≡ true
    within true h = absurd (not_many (omega (arith, many, is_lower limits.values (w.values + length values) h)))
    within false h = ap not h

no_fit_tree : (limits : Limits) (tree : Tree) (e : Entry) → IsFit limits tree → e.around ≤ open_after (calls_in tree) → (PassesDepth limits e.around e.item → ⊥) → (PassesValues limits tree e.item → ⊥)
    → fits limits (where_after (closed (calls_in tree) e.around) at_top) (called e.item) ≡ false → (other : Tree) → Fit other → entries_of 0 other.blocks ≡ entries_of 0 tree.blocks ++ e ∷ [] → ⊥
no_fit_tree limits tree e fit deep not_deep not_many fails other fit_other same =
    let all : Limits = record { bytes = 0; depth = 255; values = forest_values other.blocks; shapes = AtDefinition } in
    let there : IsFit all other = record { fit = fit_other; depth = fit_other.depth; values = omega arith } in
    fits_alike limits all (where_after (closed (calls_in tree) e.around) at_top) tree e.around e.item (depth_closed (calls_in tree) e.around deep) (values_in_tree limits tree e.around fit) not_deep not_many fails (last_fits all tree other e there same)

-- why the entry after the items of a tree is refused
misfit_broken : (limits : Limits) (before : List (List ℕ)) (line : List ℕ) (tree : Tree) (around : ℕ) (item : Item) (w : Where) → LinesList limits before tree → Follows tree line (record { around = around; item = item })
    → w.depth ≡ around → w.values ≡ forest_values tree.blocks → ((PassesDepth limits around item → ⊥) → (PassesValues limits tree item → ⊥) → (other : Tree) → Fit other → entries_of 0 other.blocks ≡ entries_of 0 tree.blocks ++ record { around = around; item = item } ∷ [] → ⊥)
    → Breaks limits before line (misfit limits w (called item))
misfit_broken limits before line tree around (of_block id) w lists follows deep many none = by (nat_lt w.depth limits.depth) refl
  where
    by : (t : Bool) → nat_lt w.depth limits.depth ≡ t → Breaks limits before line (if t then Misplaced else TooDeep)
    by true h =
        let not_deep : PassesDepth limits around (of_block id) → ⊥ = λ past. absurd (omega (arith, deep, past, is_lower w.depth limits.depth h)) in
        (tree, lists, record { around = around; item = of_block id }, follows, not_deep, λ past. past, none not_deep (λ past. past))
    by false h = (tree, lists, record { around = around; item = of_block id }, follows, omega (arith, deep, at_most w.depth limits.depth h))
misfit_broken limits before line tree around (of_record code values) w lists follows deep many none = by (nat_lt limits.values (w.values + length values)) refl
  where
    by : (t : Bool) → nat_lt limits.values (w.values + length values) ≡ t → Breaks limits before line (if t then TooManyValues else Misplaced)
    by true h = (tree, lists, record { around = around; item = of_record code values }, follows, omega (arith, many, is_lower limits.values (w.values + length values) h))
    by false h =
        let not_many : PassesValues limits tree (of_record code values) → ⊥ = λ past. absurd (omega (arith, many, past, at_most limits.values (w.values + length values) h)) in
        (tree, lists, record { around = around; item = of_record code values }, follows, λ past. past, not_many, none (λ past. past) not_many)

-- the reason of an item after so many spaces
spaced_broken : (limits : Limits) (before : List (List ℕ)) (line : List ℕ) (tree : Tree) (item : Item) (reason : TextReason) (deep even fit : Bool) → LinesList limits before tree → IsFit limits tree → IsItem (content line) item
    → nat_lt (open_after (calls_in tree)) (spaces line / 2) ≡ deep → nat_eq (spaces line % 2) 0 ≡ even → fits limits (where_after (closed (calls_in tree) (spaces line / 2)) at_top) (called item) ≡ fit
    → (let w = where_after (calls_in tree) at_top in let closing = ends_before w (spaces line) in (if deep then Err BadIndentation else (if even then (if fit then Ok (closing ++ called item ∷ []) else Err (misfit limits (where_after closing w) (called item))) else Err BadIndentation)) ≡ Err reason)
    → Breaks limits before line reason
spaced_broken limits before line tree item reason true even fit lists of_tree is far odd there h =
    let same : BadIndentation ≡ reason = cc in
    let past : open_after (calls_in tree) < spaces line / 2 = is_lower (open_after (calls_in tree)) (spaces line / 2) far in
    subst (Breaks limits before line) same
    (tree, lists, spaces line, content line, spaces_are line, (item, is), λ around twice. omega (arith, twice, past, open_in_tree limits tree of_tree))
spaced_broken limits before line tree item reason false false fit lists of_tree is far odd there h =
    let same : BadIndentation ≡ reason = cc in
    subst (Breaks limits before line) same
    (tree, lists, spaces line, content line, spaces_are line, (item, is), λ around twice. absurd (is_other (spaces line % 2) 0 odd (omega (arith, twice))))
spaced_broken limits before line tree item reason false true true lists of_tree is far odd there h = absurd cc
spaced_broken limits before line tree item reason false true false lists of_tree is far odd there h =
    let calls = calls_in tree in
    let w = where_after calls at_top in
    let around = spaces line / 2 in
    let e : Entry = record { around = around; item = item } in
    let there_too = where_after (closed calls around) at_top in
    let deep : around ≤ open_after calls = at_most (open_after calls) around far in
    let here : there_too ≡ where_after (ends_before w (spaces line)) w = where_append calls (ends_before w (spaces line)) at_top in
    let same : misfit limits there_too (called item) ≡ reason = ap (λ (p : Where). misfit limits p (called item)) here ∙ (let m : misfit limits (where_after (ends_before w (spaces line)) w) (called item) ≡ reason = cc in m) in
    let twice : spaces line ≡ 2 * around = omega (arith, is_same (spaces line % 2) 0 odd) in
    let entry : IsEntry line e = (content line, spaces_are line ∙ ap (λ (n : ℕ). replicate n 32 ++ content line) twice, is) in
    let follows : Follows tree line e = (entry, subst (λ (n : ℕ). around ≤ n) (open_in_tree limits tree of_tree) deep) in
    subst (Breaks limits before line) same
    (misfit_broken limits before line tree around item there_too lists follows (depth_closed calls around deep) (values_in_tree limits tree around of_tree)
    (λ not_deep not_many. no_fit_tree limits tree e of_tree deep not_deep not_many there))

then_err : (r : Result (List Call) TextReason) (magic : List ℕ) (calls : List Call) (reason : TextReason) → and_then r (λ more. Ok (behind_magic magic (calls ++ more))) ≡ Err reason → r ≡ Err reason
then_err (Ok more) magic calls reason h = absurd cc
then_err (Err why) magic calls reason h = let same : why ≡ reason = cc in ap Err same

found_broken : (limits : Limits) (before : List (List ℕ)) (line : List ℕ) (magic : List ℕ) (tree : Tree) (reason : TextReason) (found : Result Call TextReason) → LinesList limits before tree → IsFit limits tree → (IsFreeLine line → ⊥)
    → item_of (content line) ≡ found → OnlyLine found
    → and_then found (λ call. and_then (item_calls limits (where_after (calls_in tree) at_top) (spaces line) call) (λ more. Ok (behind_magic magic (calls_in tree ++ more)))) ≡ Err reason → Breaks limits before line reason
found_broken limits before line magic tree reason (Err why) lists fit not_free is only h =
    let same : why ≡ reason = cc in
    subst (Breaks limits before line) same (text_broken limits before line tree why lists not_free is only)
found_broken limits before line magic tree reason (Ok call) lists fit not_free is only h =
    let calls = calls_in tree in
    let w = where_after calls at_top in
    let item = item_is (content line) call is in
    let read = then_err (item_calls limits w (spaces line) call) magic calls reason h in
    let there : fits limits (where_after (closed calls (spaces line / 2)) at_top) (called item.0) ≡ fits limits (where_after (ends_before w (spaces line)) w) (called item.0) =
    ap (λ (p : Where). fits limits p (called item.0)) (where_append calls (ends_before w (spaces line)) at_top) in
    spaced_broken limits before line tree item.0 reason (nat_lt (open_after calls) (spaces line / 2)) (nat_eq (spaces line % 2) 0) (fits limits (where_after (ends_before w (spaces line)) w) (called item.0)) lists fit item.2 refl refl there
    (subst (λ (c : Call). item_calls limits w (spaces line) c ≡ Err reason) item.1 read)

-- ---- a line after the magic

line_broken : (limits : Limits) (before : List (List ℕ)) (line : List ℕ) (magic : List ℕ) (tree : Tree) (reason : TextReason) (free : Bool) → LinesList limits before tree → IsFit limits tree → (IsFreeLine line → ⊥)
    → (if free then Ok (behind_magic magic (calls_in tree)) else said limits (behind_magic magic (calls_in tree)) line) ≡ Err reason → Breaks limits before line reason
line_broken limits before line magic tree reason true lists fit not_free h = absurd cc
line_broken limits before line magic tree reason false lists fit not_free h =
    found_broken limits before line magic tree reason (item_of (content line)) lists fit not_free refl (item_only (content line)) h

refused_not_free : (limits : Limits) (now : Standing) (line : List ℕ) (reason : TextReason) → after_line limits now line ≡ Err reason → IsFreeLine line → ⊥
refused_not_free limits now line reason h free = never_both (after_line limits now line) now reason (free_read limits now line free) h

-- ---- a line before the magic

begun_broken : (limits : Limits) (before : List (List ℕ)) (line : List ℕ) (reason : TextReason) (found : Option (List ℕ)) → AreFree before → (IsFreeLine line → ⊥) → magic_of line ≡ found → begun found ≡ Err reason → Breaks limits before line reason
begun_broken limits before line reason None free not_free is h =
    let same : NoMagic ≡ reason = cc in
    subst (Breaks limits before line) same (free, not_free, λ magic line_is. none_some (magic_of line) magic is (magic_read_of line magic line_is))
  where
    none_some : (r : Option (List ℕ)) (magic : List ℕ) → r ≡ None → r ≡ Some magic → ⊥
    none_some r magic h k = cc
begun_broken limits before line reason (Some magic) free not_free is h = by (nat_eq (magic_number magic) wrapper_magic) refl h
  where
    by : (t : Bool) → nat_eq (magic_number magic) wrapper_magic ≡ t → (if t then Err WrapperMagic else Ok (behind_magic magic [])) ≡ Err reason → Breaks limits before line reason
    by true wrapped e =
        let same : WrapperMagic ≡ reason = cc in
        subst (Breaks limits before line) same (free, magic, magic_is line magic is, is_same (magic_number magic) wrapper_magic wrapped)
    by false wrapped e = absurd cc

start_broken : (limits : Limits) (before : List (List ℕ)) (line : List ℕ) (reason : TextReason) (t : Bool) → AreFree before → (IsFreeLine line → ⊥) → (if t then Ok at_start else said limits at_start line) ≡ Err reason → Breaks limits before line reason
start_broken limits before line reason true free not_free h = absurd cc
start_broken limits before line reason false free not_free h = begun_broken limits before line reason (magic_of line) free not_free refl h

-- ---- lines that say nothing

apart : (magic : List ℕ) (calls : List Call) → at_start ≡ behind_magic magic calls → ⊥
apart magic calls h = cc

never_back : (limits : Limits) (lines : List (List ℕ)) (magic : List ℕ) (calls : List Call) → ReadsAll limits (behind_magic magic calls) lines at_start → ⊥
never_back limits [] magic calls same = apart magic calls same
never_back limits (line ∷ lines) magic calls (next, read, more) = elim (free_or_said limits (is_free (content line)) magic calls line next refl read) [
  | inl free ↦ never_back limits lines magic calls (subst (λ (s : Standing). ReadsAll limits s lines at_start) free.1 more)
  | inr entry ↦ never_back limits lines magic (told_with calls entry.0) (subst (λ (s : Standing). ReadsAll limits s lines at_start) entry.1 more)
]

reads_free : (limits : Limits) (lines : List (List ℕ)) → ReadsAll limits at_start lines at_start → AreFree lines
reads_free limits [] same = tt
reads_free limits (line ∷ lines) (next, read, more) = elim (first_is limits (is_free (content line)) line next refl read) [
  | inl free ↦ (free.0, reads_free limits lines (subst (λ (s : Standing). ReadsAll limits s lines at_start) free.1 more))
  | inr magic ↦ absurd (never_back limits lines magic.0 [] (subst (λ (s : Standing). ReadsAll limits s lines at_start) magic.1 more))
]

-- ---- the whole

stopped : (limits : Limits) (text : List ℕ) (reason : TextReason) (number : ℕ) (before after : List (List ℕ)) (line : List ℕ) (there : Standing) → Capped limits → lines text ≡ before ++ line ∷ after → ReadsAll limits at_start before there
    → after_line limits there line ≡ Err reason → Breaks limits before line reason
stopped limits text reason number before after line at_start capped parts read refused =
    start_broken limits before line reason (is_free (content line)) (reads_free limits before read) (refused_not_free limits at_start line reason refused) refused
stopped limits text reason number before after line (behind_magic magic calls) capped parts read refused =
    let tree = told_all magic calls in
    let lists = lines_list limits before tree capped (reads_all limits 0 at_start (behind_magic magic calls) before read) in
    let s = stands limits before tree lists in
    let same = reads_same limits at_start at_start (behind_magic magic calls) (behind_magic s.magic (calls_in tree)) before refl read s.read in
    let again : after_line limits (behind_magic s.magic (calls_in tree)) line ≡ Err reason = subst (λ (n : Standing). after_line limits n line ≡ Err reason) same refused in
    line_broken limits before line s.magic tree reason (is_free (content line)) lists s.fit (refused_not_free limits (behind_magic magic calls) line reason refused) again

ended : (limits : Limits) (text : List ℕ) (reason : TextReason) (number : ℕ) (last : Standing) → ReadsAll limits at_start (lines text) last → at_end (counted 0 (lines text)) last ≡ Err (reason, number) → (reason ≡ NoMagic) × HasNoMagic text number
ended limits text reason number at_start read h =
    let same = refused_same NoMagic reason (counted 0 (lines text)) number h in
    (sym same.0, record { lines = lines text; parts = parts_are 10 text; free = reads_free limits (lines text) read; numbered = sym same.1 ∙ last_number (lines text) })
ended limits text reason number (behind_magic magic calls) read h = absurd cc

pub refused_so : (limits : Limits) (text : List ℕ) (reason : TextReason) (number : ℕ) → Capped limits → reading_of limits text ≡ Err (reason, number) → IsRefused limits text reason number ⊎ ((reason ≡ NoMagic) × HasNoMagic text number)
refused_so limits text reason number capped h = elim (stops limits 0 at_start (lines text) reason number h) [
  | inl s ↦ inl (record {
    before = s.before;
    line = s.line;
    after = s.after;
    parts = subst (AreParts 10 text) s.parts (parts_are 10 text);
    breaks = stopped limits text reason number s.before s.after s.line s.there capped s.parts s.read s.refused;
    numbered = s.numbered ∙ next_number s.before;
  })
  | inr e ↦ inr (ended limits text reason number e.last e.read e.refused)
]

-- ---- a line that breaks is refused

free_reads : (limits : Limits) (lines : List (List ℕ)) → AreFree lines → ReadsAll limits at_start lines at_start
free_reads limits [] free = refl
free_reads limits (line ∷ lines) free = (at_start, free_read limits at_start line free.0, free_reads limits lines free.1)

not_free_content : (line : List ℕ) → (IsFreeLine line → ⊥) → is_free (content line) ≡ false
not_free_content line h = by (is_free (content line)) refl
  where
    by : (t : Bool) → is_free (content line) ≡ t → is_free (content line) ≡ false
    by true free = absurd (h (spaces line, content line, spaces_are line, says_nothing (content line) free))
    by false free = free

-- a line is refused after these
record Refuses (limits : Limits) (before : List (List ℕ)) (line : List ℕ) (reason : TextReason) : Type 0 where
  pub there : Standing
  pub read : ReadsAll limits at_start before there
  pub refused : after_line limits there line ≡ Err reason

no_magic : (limits : Limits) (before : List (List ℕ)) (line : List ℕ) → AreFree before → (IsFreeLine line → ⊥) → ((magic : List ℕ) → IsMagicLine line magic → ⊥) → Refuses limits before line NoMagic
no_magic limits before line free not_free none =
    record { there = at_start; read = free_reads limits before free; refused = says limits at_start line (content line) refl (not_free_content line not_free) ∙ by (magic_of line) refl }
  where
    by : (r : Option (List ℕ)) → magic_of line ≡ r → begun r ≡ Err NoMagic
    by None is = refl
    by (Some magic) is = absurd (none magic (magic_is line magic is))

of_wrapper : (limits : Limits) (before : List (List ℕ)) (line magic : List ℕ) → AreFree before → IsMagicLine line magic → magic_number magic ≡ wrapper_magic → Refuses limits before line WrapperMagic
of_wrapper limits before line magic free is wrapper = record {
  there = at_start;
  read = free_reads limits before free;
  refused = says limits at_start line (content line) refl (magic_not_free line magic is)
      ∙ ap begun (magic_read_of line magic is)
      ∙ ap (λ t. if t then Err WrapperMagic else Ok (behind_magic magic [])) (same_byte (magic_number magic) wrapper_magic wrapper);
}

bad_text : (line : List ℕ) (found : Result Call TextReason) (next : Call → Result Standing TextReason) → item_of (content line) ≡ found → OnlyLine found → (HasAfterSpaces IsSomeItem line → ⊥) → (HasAfterSpaces IsTooLarge line → ⊥) → and_then found next ≡ Err BadLine
bad_text line (Ok call) next is only no_item no_large = let item = item_is (content line) call is in absurd (no_item (spaces line, content line, spaces_are line, (item.0, item.2)))
bad_text line (Err BadLine) next is only no_item no_large = refl
bad_text line (Err NumberTooLarge) next is only no_item no_large = absurd (no_large (spaces line, content line, spaces_are line, item_over (content line) is))
bad_text line (Err NoMagic) next is only no_item no_large = absurd only
bad_text line (Err WrapperMagic) next is only no_item no_large = absurd only
bad_text line (Err BadIndentation) next is only no_item no_large = absurd only
bad_text line (Err TooDeep) next is only no_item no_large = absurd only
bad_text line (Err TooManyValues) next is only no_item no_large = absurd only
bad_text line (Err Misplaced) next is only no_item no_large = absurd only

-- a line is refused after lines that list a tree
after_tree : (limits : Limits) (before : List (List ℕ)) (line : List ℕ) (reason : TextReason) (tree : Tree) → LinesList limits before tree → ((magic : List ℕ) → after_line limits (behind_magic magic (calls_in tree)) line ≡ Err reason) → Refuses limits before line reason
after_tree limits before line reason tree lists refused =
    let s = stands limits before tree lists in
    record { there = behind_magic s.magic (calls_in tree); read = s.read; refused = refused s.magic }

bad_spaces : (limits : Limits) (tree : Tree) (n : ℕ) (call : Call) → IsFit limits tree → ((around : ℕ) → n ≡ 2 * around → blocks_open 0 (entries_of 0 tree.blocks) < around) → item_calls limits (where_after (calls_in tree) at_top) n call ≡ Err BadIndentation
bad_spaces limits tree n call fit bad =
    let w = where_after (calls_in tree) at_top in
    elim (cases_lt w.depth (n / 2)) [
      | inl far ↦ too_far_in limits w n call far
      | inr near ↦ odd_spaces limits w n call near (λ even. absurd (omega (arith, near, open_in_tree limits tree fit, bad (n / 2) (omega (arith, even)))))
    ]

and_false : (a : Bool) → a && false ≡ false
and_false true = refl
and_false false = refl

-- an item that passes a limit does not fit, for this reason
deep_misfit : (limits : Limits) (w : Where) (around : ℕ) (item : Item) → w.depth ≡ around → PassesDepth limits around item → (fits limits w (called item) ≡ false) × (misfit limits w (called item) ≡ TooDeep)
deep_misfit limits w around (of_block id) deep past =
    let fails : nat_lt w.depth limits.depth ≡ false = not_below w.depth limits.depth (omega (arith, deep, past)) in
    (rw fails (and_false (takes_block w.inside)), rw fails refl)
deep_misfit limits w around (of_record code values) deep past = absurd past

many_misfit : (limits : Limits) (w : Where) (tree : Tree) (item : Item) → w.values ≡ forest_values tree.blocks → PassesValues limits tree item → (fits limits w (called item) ≡ false) × (misfit limits w (called item) ≡ TooManyValues)
many_misfit limits w tree (of_block id) many past = absurd past
many_misfit limits w tree (of_record code values) many past =
    let over : nat_lt limits.values (w.values + length values) ≡ true = is_below limits.values (w.values + length values) (omega (arith, many, past)) in
    (rw over (and_false (nat_lt 0 w.depth && takes_record w.inside code values)), rw over refl)

other_misfit : (limits : Limits) (w : Where) (tree : Tree) (around : ℕ) (item : Item) → w.depth ≡ around → w.values ≡ forest_values tree.blocks → (PassesDepth limits around item → ⊥) → (PassesValues limits tree item → ⊥) → misfit limits w (called item) ≡ Misplaced
other_misfit limits w tree around (of_block id) deep many not_deep not_many = by (nat_lt w.depth limits.depth) refl
  where
    by : (t : Bool) → nat_lt w.depth limits.depth ≡ t → (if t then Misplaced else TooDeep) ≡ Misplaced
    by true h = refl
    by false h = absurd (not_deep (omega (arith, deep, at_most w.depth limits.depth h)))
other_misfit limits w tree around (of_record code values) deep many not_deep not_many = by (nat_lt limits.values (w.values + length values)) refl
  where
    by : (t : Bool) → nat_lt limits.values (w.values + length values) ≡ t → (if t then TooManyValues else Misplaced) ≡ Misplaced
    by true h = absurd (not_many (omega (arith, many, is_lower limits.values (w.values + length values) h)))
    by false h = refl

entry_refused : (limits : Limits) (before : List (List ℕ)) (line : List ℕ) (tree : Tree) (e : Entry) (reason : TextReason) → LinesList limits before tree → Follows tree line e
    → fits limits (where_after (closed (calls_in tree) e.around) at_top) (called e.item) ≡ false → misfit limits (where_after (closed (calls_in tree) e.around) at_top) (called e.item) ≡ reason → Refuses limits before line reason
entry_refused limits before line tree e reason lists follows fails why =
    let calls = calls_in tree in
    let s = stands limits before tree lists in
    let deep : e.around ≤ open_after calls = subst (λ (n : ℕ). e.around ≤ n) (sym (open_in_tree limits tree s.fit)) follows.1 in
    after_tree limits before line reason tree lists
    (λ magic. entry_said limits magic calls line e follows.0 deep
    ∙ ap (λ (t : Bool). if t then Ok (behind_magic magic (told_with calls e)) else Err (misfit limits (where_after (closed calls e.around) at_top) (called e.item))) fails
    ∙ ap Err why)

reads_good : (limits : Limits) (now later : Standing) (lines : List (List ℕ)) → Good limits now → ReadsAll limits now lines later → Good limits later
reads_good limits now later [] good same = subst (Good limits) (sym same) good
reads_good limits now later (line ∷ lines) good (next, read, more) = reads_good limits next later lines (line_good limits now line next good read) more

-- an entry that fits is the last of those of a fit tree
fits_in_tree : (limits : Limits) (before : List (List ℕ)) (line : List ℕ) (tree : Tree) (e : Entry) → Capped limits → LinesList limits before tree → IsEntry line e → e.around ≤ open_after (calls_in tree)
    → fits limits (where_after (closed (calls_in tree) e.around) at_top) (called e.item) ≡ true → (other : Tree) × Fit other × (entries_of 0 other.blocks ≡ entries_of 0 tree.blocks ++ e ∷ [])
fits_in_tree limits before line tree e capped lists is deep there =
    let calls = calls_in tree in
    let s = stands limits before tree lists in
    let now = behind_magic s.magic calls in
    let next = behind_magic s.magic (told_with calls e) in
    let good = reads_good limits at_start now before tt s.read in
    let read : after_line limits now line ≡ Ok next =
    entry_said limits s.magic calls line e is deep
    ∙ ap (λ (t : Bool). if t then Ok next else Err (misfit limits (where_after (closed calls e.around) at_top) (called e.item))) there in
    let good_next = line_good limits now line next good read in
    let other = told_all s.magic (told_with calls e) in
    let fit : IsFit limits other = lines_fit limits 0 next [] other capped good_next refl in
    let told : entries_told 0 calls ≡ entries_of 0 tree.blocks = entries_of_told limits calls good.2 ∙ ap (entries_of 0) (tree_entries limits tree s.fit).1 in
    (other, fit.fit, sym (entries_of_told limits (told_with calls e) good_next.2) ∙ entry_told calls e deep ∙ ap (λ (es : List Entry). es ++ e ∷ []) told)

misplaced : (limits : Limits) (before : List (List ℕ)) (line : List ℕ) (tree : Tree) (e : Entry) → Capped limits → LinesList limits before tree → Follows tree line e → (PassesDepth limits e.around e.item → ⊥) → (PassesValues limits tree e.item → ⊥)
    → ((other : Tree) → Fit other → entries_of 0 other.blocks ≡ entries_of 0 tree.blocks ++ e ∷ [] → ⊥) → Refuses limits before line Misplaced
misplaced limits before line tree e capped lists follows not_deep not_many none =
    let calls = calls_in tree in
    let s = stands limits before tree lists in
    let w = where_after (closed calls e.around) at_top in
    let deep : e.around ≤ open_after calls = subst (λ (n : ℕ). e.around ≤ n) (sym (open_in_tree limits tree s.fit)) follows.1 in
    entry_refused limits before line tree e Misplaced lists follows (fails (fits limits w (called e.item)) refl)
    (other_misfit limits w tree e.around e.item (depth_closed calls e.around deep) (values_in_tree limits tree e.around s.fit) not_deep not_many)
  where
    fails : (t : Bool) → fits limits (where_after (closed (calls_in tree) e.around) at_top) (called e.item) ≡ t → fits limits (where_after (closed (calls_in tree) e.around) at_top) (called e.item) ≡ false
    fails true there =
        let s = stands limits before tree lists in
        let deep : e.around ≤ open_after (calls_in tree) = subst (λ (n : ℕ). e.around ≤ n) (sym (open_in_tree limits tree s.fit)) follows.1 in
        let found = fits_in_tree limits before line tree e capped lists follows.0 deep there in
        absurd (none found.0 found.1 found.2)
    fails false there = there

breaks_refused : (limits : Limits) (before : List (List ℕ)) (line : List ℕ) (reason : TextReason) → Capped limits → Breaks limits before line reason → Refuses limits before line reason
breaks_refused limits before line NoMagic capped (free, not_free, none) = no_magic limits before line free not_free none
breaks_refused limits before line WrapperMagic capped (free, magic, is, wrapper) = of_wrapper limits before line magic free is wrapper
breaks_refused limits before line BadLine capped (tree, lists, not_free, no_item, no_large) =
    after_tree limits before line BadLine tree lists
    (λ magic. says limits (behind_magic magic (calls_in tree)) line (content line) refl (not_free_content line not_free) ∙ bad_text line (item_of (content line)) _ refl (item_only (content line)) no_item no_large)
breaks_refused limits before line NumberTooLarge capped (tree, lists, (n, text, same, is)) =
    after_tree limits before line NumberTooLarge tree lists (λ magic. spaced_line limits magic (calls_in tree) line n text (Err NumberTooLarge) same (over_item text is))
breaks_refused limits before line BadIndentation capped (tree, lists, n, text, same, (item, is), bad) =
    let s = stands limits before tree lists in
    after_tree limits before line BadIndentation tree lists
    (λ magic. spaced_line limits magic (calls_in tree) line n text (Ok (called item)) same (item_read text item is)
    ∙ ap (λ (r : Result (List Call) TextReason). and_then r (λ more. Ok (behind_magic magic (calls_in tree ++ more)))) (bad_spaces limits tree n (called item) s.fit bad))
breaks_refused limits before line TooDeep capped (tree, lists, e, follows, past) =
    let s = stands limits before tree lists in
    let deep : e.around ≤ open_after (calls_in tree) = subst (λ (n : ℕ). e.around ≤ n) (sym (open_in_tree limits tree s.fit)) follows.1 in
    let m = deep_misfit limits (where_after (closed (calls_in tree) e.around) at_top) e.around e.item (depth_closed (calls_in tree) e.around deep) past in
    entry_refused limits before line tree e TooDeep lists follows m.0 m.1
breaks_refused limits before line TooManyValues capped (tree, lists, e, follows, past) =
    let s = stands limits before tree lists in
    let m = many_misfit limits (where_after (closed (calls_in tree) e.around) at_top) tree e.item (values_in_tree limits tree e.around s.fit) past in
    entry_refused limits before line tree e TooManyValues lists follows m.0 m.1
breaks_refused limits before line Misplaced capped (tree, lists, e, follows, not_deep, not_many, none) = misplaced limits before line tree e capped lists follows not_deep not_many none

-- a text with these lines is refused at the last of them
pub so_refused : (limits : Limits) (text : List ℕ) (reason : TextReason) (number : ℕ) → Capped limits → IsRefused limits text reason number → reading_of limits text ≡ Err (reason, number)
so_refused limits text reason number capped is =
    let r = breaks_refused limits is.before is.line reason capped is.breaks in
    ap (lines_read limits 0 at_start) (only_parts 10 text (is.before ++ is.line ∷ is.after) is.parts)
    ∙ reads_on limits 0 at_start r.there is.before (is.line ∷ is.after) r.read
    ∙ line_refused limits (counted 0 is.before) r.there reason is.line is.after r.refused
    ∙ ap (λ (n : ℕ). Err (reason, n)) (next_number is.before ∙ sym is.numbered)

pub so_ended : (limits : Limits) (text : List ℕ) (number : ℕ) → HasNoMagic text number → reading_of limits text ≡ Err (NoMagic, number)
so_ended limits text number is =
    ap (lines_read limits 0 at_start) (only_parts 10 text is.lines is.parts)
    ∙ reads_all limits 0 at_start at_start is.lines (free_reads limits is.lines is.free)
    ∙ ap (λ (n : ℕ). Err (NoMagic, n)) (last_number is.lines ∙ sym is.numbered)

-- no text with these lines lists a tree
pub never_listed : (limits : Limits) (before after : List (List ℕ)) (line : List ℕ) (reason : TextReason) (text : List ℕ) (tree : Tree) → Capped limits → Breaks limits before line reason → AreParts 10 text (before ++ line ∷ after) → Lists limits text tree → ⊥
never_listed limits before after line reason text tree capped breaks parts lists =
    not_both (reading_of limits text) tree (reason, number_after (length before)) (listed_read limits text tree lists)
    (so_refused limits text reason (number_after (length before)) capped (record { before = before; line = line; after = after; parts = parts; breaks = breaks; numbered = refl }))
