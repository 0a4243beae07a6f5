-- The items of a tree are those that its calls tell.
use Rattle.std.proofs.Common.{◌≡◌, refl, ℕ, zero, suc, ◌+◌, ◌-◌, ◌≤◌, List, [], ◌∷◌, ◌++◌, length, replicate, true, sym, ◌∙◌, ap, subst, arith, append_assoc, append-nil}
use Rattle.std.proofs.lemmas.List.{replicate_more}
use Rattle.bit_grammar.specs.Blocks.{Limits}
use Rattle.bit_grammar.specs.Forest.{Forest, empty, a_block, a_record, Tree, forest_values}
use Rattle.bit_grammar.specs.FormatListing.{Item, of_block, of_record, Entry}
use Rattle.bit_norm.specs.Calls.{calls_of}
use Rattle.bit_norm.specs.Telling.{Call, begins, holds, ends, Where, at_top, fits, after_call, where_after, told, AreFit, IsFit}
use Rattle.bit_norm.proofs.Calls.{only_trees, tell_tree, fit_tree}
use Rattle.bit_text.specs.Entries.{entries_of}
use Rattle.bit_text.specs.Refusals.{open_with, blocks_open}
use Rattle.bit_text.proofs.Fitting.{ends_fit, fit_append}
use Rattle.bit_text.proofs.Tellings.{where_append, depth_ended}

-- the call of an item
abbrev pub called : Item → Call
called (of_block id) = begins id
called (of_record code values) = holds code values

-- how many blocks are open after these calls
abbrev pub open_after : List Call → ℕ
open_after calls = (where_after calls at_top).depth

-- these calls, and the ends of the blocks that an item at this level is not in
abbrev pub closed : List Call → (around : ℕ) → List Call
closed calls around = calls ++ replicate (open_after calls - around) ends

-- these calls, and those of an entry
abbrev pub told_with : List Call → Entry → List Call
told_with calls e = closed calls e.around ++ called e.item ∷ []

-- these calls, and those of entries
abbrev pub calls_with : List Call → List Entry → List Call
calls_with calls [] = calls
calls_with calls (e ∷ entries) = calls_with (told_with calls e) entries

-- ---- depths

pub depth_closed : (calls : List Call) (around : ℕ) → around ≤ open_after calls → open_after (closed calls around) ≡ around
depth_closed calls around h =
    let w = where_after calls at_top in
    ap (λ (p : Where). p.depth) (where_append calls (replicate (w.depth - around) ends) at_top) ∙ depth_ended (w.depth - around) w ∙ (let same : w.depth - (w.depth - around) ≡ around = omega (arith, h) in same)

pub where_next : (calls : List Call) (call : Call) → where_after (calls ++ call ∷ []) at_top ≡ after_call call (where_after calls at_top)
where_next calls call = where_append calls (call ∷ []) at_top

-- where nothing is to be ended
closed_same : (calls : List Call) (around : ℕ) → open_after calls ≡ around → closed calls around ≡ calls
closed_same calls around h =
    let none : open_after calls - around ≡ 0 = omega (arith, h) in
    ap (λ (n : ℕ). calls ++ replicate n ends) none ∙ append-nil calls

closed_further : (calls : List Call) (around : ℕ) → suc around ≤ open_after calls → closed calls around ≡ closed calls (suc around) ++ ends ∷ []
closed_further calls around h =
    let d = open_after calls in
    let one : d - around ≡ d - suc around + 1 = omega (arith, h) in
    ap (λ (n : ℕ). calls ++ replicate n ends) one
    ∙ ap (λ (cs : List Call). calls ++ cs) (sym (replicate_more (d - suc around) ends))
    ∙ sym (append_assoc calls (replicate (d - suc around) ends) (ends ∷ []))

-- ---- the items that calls tell

-- with so many blocks open before them
abbrev pub entries_told : (level : ℕ) → List Call → List Entry
entries_told level [] = []
entries_told level (begins id ∷ calls) = record { around = level; item = of_block id } ∷ entries_told (suc level) calls
entries_told level (holds code values ∷ calls) = record { around = level; item = of_record code values } ∷ entries_told level calls
entries_told level (ends ∷ calls) = entries_told (level - 1) calls

told_append : (calls more : List Call) (w : Where) → entries_told w.depth (calls ++ more) ≡ entries_told w.depth calls ++ entries_told (where_after calls w).depth more
told_append [] more w = refl
told_append (begins id ∷ calls) more w = ap (λ (es : List Entry). record { around = w.depth; item = of_block id } ∷ es) (told_append calls more (after_call (begins id) w))
told_append (holds code values ∷ calls) more w = ap (λ (es : List Entry). record { around = w.depth; item = of_record code values } ∷ es) (told_append calls more (after_call (holds code values) w))
told_append (ends ∷ calls) more w = told_append calls more (after_call ends w)

none_told : (k level : ℕ) → entries_told level (replicate k ends) ≡ []
none_told zero level = refl
none_told (suc k) level = none_told k (level - 1)

told_closed : (calls : List Call) (around : ℕ) → entries_told 0 (closed calls around) ≡ entries_told 0 calls
told_closed calls around =
    told_append calls (replicate (open_after calls - around) ends) at_top
    ∙ ap (λ (es : List Entry). entries_told 0 calls ++ es) (none_told (open_after calls - around) (open_after calls))
    ∙ append-nil (entries_told 0 calls)

one_told : (around : ℕ) (item : Item) → entries_told around (called item ∷ []) ≡ record { around = around; item = item } ∷ []
one_told around (of_block id) = refl
one_told around (of_record code values) = refl

pub entry_told : (calls : List Call) (e : Entry) → e.around ≤ open_after calls → entries_told 0 (told_with calls e) ≡ entries_told 0 calls ++ e ∷ []
entry_told calls e h =
    told_append (closed calls e.around) (called e.item ∷ []) at_top
    ∙ ap (λ (es : List Entry). es ++ entries_told (open_after (closed calls e.around)) (called e.item ∷ [])) (told_closed calls e.around)
    ∙ ap (λ (n : ℕ). entries_told 0 calls ++ entries_told n (called e.item ∷ [])) (depth_closed calls e.around h)
    ∙ ap (λ (es : List Entry). entries_told 0 calls ++ es) (one_told e.around e.item)

told_of : (f : Forest) (level : ℕ) (after : List Call) → entries_told level (calls_of f after) ≡ entries_of level f ++ entries_told level after
told_of empty level after = refl
told_of (a_record code values others) level after = ap (λ (es : List Entry). record { around = level; item = of_record code values } ∷ es) (told_of others level after)
told_of (a_block id inner others) level after =
    let back : suc level - 1 ≡ level = omega arith in
    ap (λ (es : List Entry). record { around = level; item = of_block id } ∷ es)
    (told_of inner (suc level) (ends ∷ calls_of others after)
    ∙ ap (λ (n : ℕ). entries_of (suc level) inner ++ entries_told n (calls_of others after)) back
    ∙ ap (λ (es : List Entry). entries_of (suc level) inner ++ es) (told_of others level after)
    ∙ sym (append_assoc (entries_of (suc level) inner) (entries_of level others) (entries_told level after)))

-- all blocks that are open are ended
pub all_closed : (limits : Limits) (calls : List Call) → AreFit limits at_top calls → AreFit limits at_top (calls ++ replicate (open_after calls) ends) × (open_after (calls ++ replicate (open_after calls) ends) ≡ 0)
all_closed limits calls fit =
    let w = where_after calls at_top in
    let closing : AreFit limits w (replicate w.depth ends) = subst (AreFit limits w) (append-nil (replicate w.depth ends)) (ends_fit limits w.depth w [] (omega arith) tt) in
    let none : w.depth - w.depth ≡ 0 = omega arith in
    (fit_append limits calls (replicate w.depth ends) at_top fit closing, ap (λ (p : Where). p.depth) (where_append calls (replicate w.depth ends) at_top) ∙ depth_ended w.depth w ∙ none)

-- the items of the blocks that calls tell, if those that are open after them end
pub entries_of_told : (limits : Limits) (calls : List Call) → AreFit limits at_top calls → entries_told 0 calls ≡ entries_of 0 (told (calls ++ replicate (open_after calls) ends) 0)
entries_of_told limits calls fit =
    let all = calls ++ replicate (open_after calls) ends in
    let closing = all_closed limits calls fit in
    let f = told all 0 in
    let same : entries_told 0 all ≡ entries_told 0 calls =
    told_append calls (replicate (open_after calls) ends) at_top
    ∙ ap (λ (es : List Entry). entries_told 0 calls ++ es) (none_told (open_after calls) (open_after calls))
    ∙ append-nil (entries_told 0 calls) in
    sym same ∙ ap (entries_told 0) (sym (only_trees limits all closing.0 closing.1)) ∙ told_of f 0 [] ∙ append-nil (entries_of 0 f)

-- ---- the calls that entries tell

-- each entry is in no more blocks than are open, and its call fits
abbrev pub FitEntries : Limits → List Call → List Entry → Type 0
FitEntries limits calls [] = Unit {0}
FitEntries limits calls (e ∷ entries) = (e.around ≤ open_after calls)
    × (fits limits (where_after (closed calls e.around) at_top) (called e.item) ≡ true)
    × FitEntries limits (told_with calls e) entries

pub with_append : (calls : List Call) (entries more : List Entry) → calls_with calls (entries ++ more) ≡ calls_with (calls_with calls entries) more
with_append calls [] more = refl
with_append calls (e ∷ entries) more = with_append (told_with calls e) entries more

entries_append : (limits : Limits) (calls : List Call) (entries more : List Entry) → FitEntries limits calls entries → FitEntries limits (calls_with calls entries) more → FitEntries limits calls (entries ++ more)
entries_append limits calls [] more fit rest = rest
entries_append limits calls (e ∷ entries) more fit rest = (fit.0, fit.1, entries_append limits (told_with calls e) entries more fit.2 rest)

calls_split : (f : Forest) (after : List Call) → calls_of f after ≡ calls_of f [] ++ after
calls_split empty after = refl
calls_split (a_block id inner others) after =
    ap (λ (cs : List Call). begins id ∷ cs)
    (calls_split inner (ends ∷ calls_of others after)
    ∙ ap (λ (cs : List Call). calls_of inner [] ++ ends ∷ cs) (calls_split others after)
    ∙ sym (append_assoc (calls_of inner []) (ends ∷ calls_of others []) after)
    ∙ ap (λ (cs : List Call). cs ++ after) (sym (calls_split inner (ends ∷ calls_of others []))))
calls_split (a_record code values others) after = ap (λ (cs : List Call). holds code values ∷ cs) (calls_split others after)

fit_behind : (limits : Limits) (front after : List Call) (w : Where) → AreFit limits w (front ++ after) → AreFit limits (where_after front w) after
fit_behind limits [] after w h = h
fit_behind limits (call ∷ front) after w h = fit_behind limits front after (after_call call w) h.2

-- the entries of a forest fit, and tell its calls
forest_fits : (limits : Limits) (f : Forest) (around : ℕ) (calls after : List Call) → around ≤ open_after calls → AreFit limits (where_after (closed calls around) at_top) (calls_of f after)
    → FitEntries limits calls (entries_of around f) × (around ≤ open_after (calls_with calls (entries_of around f))) × (closed (calls_with calls (entries_of around f)) around ≡ closed calls around ++ calls_of f [])
forest_fits limits empty around calls after deep fit = (tt, deep, sym (append-nil (closed calls around)))
forest_fits limits (a_record code values others) around calls after deep fit =
    let call = holds code values in
    let next = closed calls around ++ call ∷ [] in
    let at : open_after next ≡ around = ap (λ (p : Where). p.depth) (where_next (closed calls around) call) ∙ depth_closed calls around deep in
    let same = closed_same next around at in
    let fit_others : AreFit limits (where_after (closed next around) at_top) (calls_of others after) =
    subst (λ (cs : List Call). AreFit limits (where_after cs at_top) (calls_of others after)) (sym same) (subst (λ (w : Where). AreFit limits w (calls_of others after)) (sym (where_next (closed calls around) call)) fit.2) in
    let more = forest_fits limits others around next after (omega (arith, at)) fit_others in
    ((deep, fit.0, more.0), more.1, more.2 ∙ ap (λ (cs : List Call). cs ++ calls_of others []) same ∙ append_assoc (closed calls around) (call ∷ []) (calls_of others []))
forest_fits limits (a_block id inner others) around calls after deep fit =
    let call = begins id in
    let next = closed calls around ++ call ∷ [] in
    let w = where_after (closed calls around) at_top in
    let at : open_after next ≡ suc around = ap (λ (p : Where). p.depth) (where_next (closed calls around) call) ∙ ap suc (depth_closed calls around deep) in
    let same = closed_same next (suc around) at in
    let fit_inner : AreFit limits (where_after (closed next (suc around)) at_top) (calls_of inner (ends ∷ calls_of others after)) =
    subst (λ (cs : List Call). AreFit limits (where_after cs at_top) (calls_of inner (ends ∷ calls_of others after))) (sym same)
    (subst (λ (v : Where). AreFit limits v (calls_of inner (ends ∷ calls_of others after))) (sym (where_next (closed calls around) call)) fit.2) in
    let inside = forest_fits limits inner (suc around) next (ends ∷ calls_of others after) (omega (arith, at)) fit_inner in
    let inner_entries = entries_of (suc around) inner in
    let other_entries = entries_of around others in
    let later = calls_with next inner_entries in
    let both : closed later around ≡ next ++ (calls_of inner [] ++ ends ∷ []) =
    closed_further later around inside.1
    ∙ ap (λ (cs : List Call). cs ++ ends ∷ []) (inside.2 ∙ ap (λ (cs : List Call). cs ++ calls_of inner []) same)
    ∙ append_assoc next (calls_of inner []) (ends ∷ []) in
    let split = subst (AreFit limits (after_call call w)) (calls_split inner (ends ∷ calls_of others after)) fit.2 in
    let last = fit_behind limits (calls_of inner []) (ends ∷ calls_of others after) (after_call call w) split in
    let there : where_after (closed later around) at_top ≡ after_call ends (where_after (calls_of inner []) (after_call call w)) =
    ap (λ (cs : List Call). where_after cs at_top) both
    ∙ where_append next (calls_of inner [] ++ ends ∷ []) at_top
    ∙ ap (λ (v : Where). where_after (calls_of inner [] ++ ends ∷ []) v) (where_next (closed calls around) call)
    ∙ where_append (calls_of inner []) (ends ∷ []) (after_call call w) in
    let fit_others : AreFit limits (where_after (closed later around) at_top) (calls_of others after) = subst (λ (v : Where). AreFit limits v (calls_of others after)) (sym there) last.2 in
    let more = forest_fits limits others around later after (omega (arith, inside.1)) fit_others in
    let apart = with_append next inner_entries other_entries in (
      (deep, fit.0, entries_append limits next inner_entries other_entries inside.0 more.0),
      subst (λ (cs : List Call). around ≤ open_after cs) (sym apart) more.1,
      ap (λ (cs : List Call). closed cs around) apart
          ∙ more.2
          ∙ ap (λ (cs : List Call). cs ++ calls_of others []) both
          ∙ append_assoc next (calls_of inner [] ++ ends ∷ []) (calls_of others [])
          ∙ ap (λ (cs : List Call). next ++ cs) (append_assoc (calls_of inner []) (ends ∷ []) (calls_of others []) ∙ sym (calls_split inner (ends ∷ calls_of others [])))
          ∙ append_assoc (closed calls around) (call ∷ []) (calls_of inner (ends ∷ calls_of others [])),
    )

-- the calls of the items of a tree, with no ends after the last one
abbrev pub calls_in : Tree → List Call
calls_in tree = calls_with [] (entries_of 0 tree.blocks)

-- the entries of a tree fit, and their calls are those of the tree but for the last ends
tree_calls : (limits : Limits) (tree : Tree) → IsFit limits tree → FitEntries limits [] (entries_of 0 tree.blocks) × (calls_in tree ++ replicate (open_after (calls_in tree)) ends ≡ calls_of tree.blocks [])
tree_calls limits tree h =
    let i = forest_fits limits tree.blocks 0 [] [] (omega arith) (fit_tree limits tree h) in
    let calls = calls_in tree in
    (i.0, ap (λ (n : ℕ). calls ++ replicate n ends) (let same : open_after calls ≡ open_after calls - 0 = omega arith in same) ∙ i.2)

pub tree_entries : (limits : Limits) (tree : Tree) → IsFit limits tree → FitEntries limits [] (entries_of 0 tree.blocks) × (told (calls_in tree ++ replicate (open_after (calls_in tree)) ends) 0 ≡ tree.blocks)
tree_entries limits tree h =
    let p = tree_calls limits tree h in
    (p.0, ap (λ (cs : List Call). told cs 0) p.1 ∙ tell_tree tree)

-- ---- where an item comes after those of a tree

open_told : (calls : List Call) (around : ℕ) (item : Item) → around ≤ open_after calls → open_after (closed calls around ++ called item ∷ []) ≡ open_with around item
open_told calls around (of_block id) h = ap (λ (p : Where). p.depth) (where_next (closed calls around) (begins id)) ∙ ap suc (depth_closed calls around h)
open_told calls around (of_record code values) h = ap (λ (p : Where). p.depth) (where_next (closed calls around) (holds code values)) ∙ depth_closed calls around h

open_is : (limits : Limits) (calls : List Call) (entries : List Entry) → FitEntries limits calls entries → open_after (calls_with calls entries) ≡ blocks_open (open_after calls) entries
open_is limits calls [] fit = refl
open_is limits calls (e ∷ entries) fit = open_is limits (told_with calls e) entries fit.2 ∙ ap (λ (n : ℕ). blocks_open n entries) (open_told calls e.around e.item fit.0)

pub open_in_tree : (limits : Limits) (tree : Tree) → IsFit limits tree → open_after (calls_in tree) ≡ blocks_open 0 (entries_of 0 tree.blocks)
open_in_tree limits tree h = open_is limits [] (entries_of 0 tree.blocks) (tree_calls limits tree h).0

values_ended : (k : ℕ) (w : Where) → (where_after (replicate k ends) w).values ≡ w.values
values_ended zero w = refl
values_ended (suc k) w = values_ended k (after_call ends w)

-- the values of all records that calls tell
abbrev told_values : List Call → ℕ
told_values [] = 0
told_values (begins id ∷ calls) = told_values calls
told_values (holds code values ∷ calls) = length values + told_values calls
told_values (ends ∷ calls) = told_values calls

values_after : (calls : List Call) (w : Where) → (where_after calls w).values ≡ w.values + told_values calls
values_after [] w = omega arith
values_after (begins id ∷ calls) w = values_after calls (after_call (begins id) w)
values_after (holds code values ∷ calls) w = omega (arith, values_after calls (after_call (holds code values) w))
values_after (ends ∷ calls) w = values_after calls (after_call ends w)

values_of : (f : Forest) (after : List Call) → told_values (calls_of f after) ≡ forest_values f + told_values after
values_of empty after = omega arith
values_of (a_block id inner others) after = omega (arith, values_of inner (ends ∷ calls_of others after), values_of others after)
values_of (a_record code values others) after = omega (arith, values_of others after)

values_closed : (calls : List Call) (k : ℕ) → (where_after (calls ++ replicate k ends) at_top).values ≡ (where_after calls at_top).values
values_closed calls k = ap (λ (p : Where). p.values) (where_append calls (replicate k ends) at_top) ∙ values_ended k (where_after calls at_top)

pub values_in_tree : (limits : Limits) (tree : Tree) (around : ℕ) → IsFit limits tree → (where_after (closed (calls_in tree) around) at_top).values ≡ forest_values tree.blocks
values_in_tree limits tree around h =
    let calls = calls_in tree in
    values_closed calls (open_after calls - around)
    ∙ sym (values_closed calls (open_after calls))
    ∙ ap (λ (cs : List Call). (where_after cs at_top).values) (tree_calls limits tree h).1
    ∙ values_after (calls_of tree.blocks []) at_top
    ∙ (let sum : 0 + told_values (calls_of tree.blocks []) ≡ forest_values tree.blocks = omega (arith, values_of tree.blocks []) in sum)

fit_after : (limits : Limits) (calls : List Call) (entries more : List Entry) → FitEntries limits calls (entries ++ more) → FitEntries limits (calls_with calls entries) more
fit_after limits calls [] more fit = fit
fit_after limits calls (e ∷ entries) more fit = fit_after limits (told_with calls e) entries more fit.2

-- the last of the items of a tree fits after the others
pub last_fits : (limits : Limits) (tree other : Tree) (e : Entry) → IsFit limits other → entries_of 0 other.blocks ≡ entries_of 0 tree.blocks ++ e ∷ [] → fits limits (where_after (closed (calls_in tree) e.around) at_top) (called e.item) ≡ true
last_fits limits tree other e h same =
    (fit_after limits [] (entries_of 0 tree.blocks) (e ∷ []) (subst (FitEntries limits []) same (tree_calls limits other h).0)).1
