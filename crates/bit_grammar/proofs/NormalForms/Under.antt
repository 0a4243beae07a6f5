-- Trees and events under a setting.
use Rattle.std.proofs.Common.{◌≡◌, ℕ, suc, ◌+◌, ◌≤◌, Bool, true, false, max, List, [], ◌∷◌, ◌++◌, refl, sym, ap, subst, ◌∙◌, arith}
use Rattle.std.specs.Prelude.{if◌then◌else◌, not, ◌&&◌, ◌||◌, ◌==◌}
use Rattle.std.specs.List.{list_any, list_all}
use Rattle.bit_grammar.specs.declared.info.RecordName.{RecordName}
use Rattle.bit_grammar.specs.Setting.{Setting, keep, keeps, is_named, keeps_record, keeps_records}
use Rattle.bit_grammar.specs.Forest.{Forest, empty, a_block, a_record, Tree, forest_depth, forest_values, DescribesBlocks, FitForest, AreBlocks, Fit}
use Rattle.bit_grammar.specs.Marks.{Marks, no_marks, marked_block, marked_record, marked_definition, forest_of}
use Rattle.bit_grammar.specs.Machine.{Event, enters, defines, notes, leaves, flat}
use Rattle.bit_grammar.specs.Under.{items_under, under, HasNoneNamed, ids_after, ids_behind, innermost, events_under, marks_under}

-- ---- tests

and_false : (b c : Bool) → c ≡ false → (b && c) ≡ false
and_false true c e = e
and_false false c e = refl

and_true : (b c : Bool) → b ≡ true → c ≡ true → (b && c) ≡ true
and_true b c e f = rw (e, f) refl

-- ---- records of BLOCKINFO blocks

none_named : (code : ℕ) (names : List RecordName) → list_any (is_named 0 code) names ≡ false
none_named code [] = refl
none_named code (name ∷ names) = none_named code names

pub info_kept : (s : Setting) (code : ℕ) → keeps_record s 0 code ≡ true
info_kept s code = ap not (none_named code s.records)

-- items that describe blocks still do
describes_stays : (s : Setting) (described : Bool) (f : Forest) → DescribesBlocks described f → items_under s 0 f ≡ f
describes_stays s described empty h = refl
describes_stays s described (a_block id inner rest) h = absurd h
describes_stays s described (a_record code values rest) h = rw (info_kept s code, describes_stays s true rest h.1) refl

-- ---- blocks without named records

no_record : (block code : ℕ) (names : List RecordName) → list_any (λ (name : RecordName). name.block == block) names ≡ false → list_any (is_named block code) names ≡ false
no_record block code [] none = refl
no_record block code (name ∷ names) none = go (name.block == block) none (no_record block code names)
  where
    go : (b : Bool) → (b || list_any (λ (n : RecordName). n.block == block) names) ≡ false → (list_any (λ (n : RecordName). n.block == block) names ≡ false → list_any (is_named block code) names ≡ false)
        → (((not (block == 0) && b) && (name.code == code)) || list_any (is_named block code) names) ≡ false
    go true e others = absurd cc
    go false e others = rw (and_false (not (block == 0)) false refl) (others e)

-- if no record of a block is named, each is kept
pub unnamed_kept : (s : Setting) (block : ℕ) → keeps_records s block ≡ true → (code : ℕ) → keeps_record s block code ≡ true
unnamed_kept s block kept code = ap not (no_record block code s.records (not_true (list_any (λ (name : RecordName). name.block == block) s.records) kept))
  where
    not_true : (b : Bool) → not b ≡ true → b ≡ false
    not_true true e = absurd cc
    not_true false e = refl

-- ---- trees

pub all_kept : (around : ℕ) (f : Forest) → items_under keep around f ≡ f
all_kept around empty = refl
all_kept around (a_block id inner rest) = rw (all_kept id inner, all_kept around rest) refl
all_kept around (a_record code values rest) = ap (a_record code values) (all_kept around rest)

pub tree_kept : (tree : Tree) → under keep tree ≡ tree
tree_kept tree = ap (λ (f : Forest). record { magic = tree.magic; blocks = f }) (all_kept 0 tree.blocks)

pub kept_fit : (tree : Tree) → Fit tree → Fit (under keep tree)
kept_fit tree = subst Fit (sym (tree_kept tree))

pub none_left : (s : Setting) (around : ℕ) (f : Forest) → HasNoneNamed s around (items_under s around f)
none_left s around empty = tt
none_left s around (a_block id inner rest) = go (keeps s id) refl (none_left s id inner) (none_left s around rest)
  where
    go : (b : Bool) → keeps s id ≡ b → HasNoneNamed s id (items_under s id inner) → HasNoneNamed s around (items_under s around rest)
        → HasNoneNamed s around (if b then a_block id (items_under s id inner) (items_under s around rest) else items_under s around rest)
    go true e x y = (e, x, y)
    go false e x y = y
none_left s around (a_record code values rest) = go (keeps_record s around code) refl (none_left s around rest)
  where
    go : (b : Bool) → keeps_record s around code ≡ b → HasNoneNamed s around (items_under s around rest) → HasNoneNamed s around (if b then a_record code values (items_under s around rest) else items_under s around rest)
    go true e y = (e, y)
    go false e y = y

pub unnamed_stays : (s : Setting) (around : ℕ) (f : Forest) → HasNoneNamed s around f → items_under s around f ≡ f
unnamed_stays s around empty none = refl
unnamed_stays s around (a_block id inner rest) none = rw (none.0, unnamed_stays s id inner none.1, unnamed_stays s around rest none.2) refl
unnamed_stays s around (a_record code values rest) none = rw (none.0, unnamed_stays s around rest none.1) refl

pub items_again : (s : Setting) (around : ℕ) (f : Forest) → items_under s around (items_under s around f) ≡ items_under s around f
items_again s around f = unnamed_stays s around (items_under s around f) (none_left s around f)

pub under_again : (s : Setting) (tree : Tree) → under s (under s tree) ≡ under s tree
under_again s tree = ap (λ (f : Forest). record { magic = tree.magic; blocks = f }) (items_again s 0 tree.blocks)

pub items_fit : (s : Setting) (around : ℕ) (f : Forest) → FitForest f → FitForest (items_under s around f)
items_fit s around empty fit = tt
items_fit s around (a_block id inner rest) fit = go (keeps s id) (items_fit s id inner fit.2) (items_fit s around rest fit.3)
  where
    info : id ≡ 0 → DescribesBlocks false (items_under s id inner)
    info zero = subst (DescribesBlocks false) (sym (ap (λ (n : ℕ). items_under s n inner) zero ∙ describes_stays s false inner (fit.1 zero))) (fit.1 zero)

    go : (b : Bool) → FitForest (items_under s id inner) → FitForest (items_under s around rest) → FitForest (if b then a_block id (items_under s id inner) (items_under s around rest) else items_under s around rest)
    go true x y = (fit.0, info, x, y)
    go false x y = y
items_fit s around (a_record code values rest) fit = go (keeps_record s around code) (items_fit s around rest fit.2)
  where
    go : (b : Bool) → FitForest (items_under s around rest) → FitForest (if b then a_record code values (items_under s around rest) else items_under s around rest)
    go true y = (fit.0, fit.1, y)
    go false y = y

pub items_are_blocks : (s : Setting) (around : ℕ) (f : Forest) → AreBlocks f → AreBlocks (items_under s around f)
items_are_blocks s around empty blocks = tt
items_are_blocks s around (a_block id inner rest) blocks = go (keeps s id) (items_are_blocks s around rest blocks)
  where
    go : (b : Bool) → AreBlocks (items_under s around rest) → AreBlocks (if b then a_block id (items_under s id inner) (items_under s around rest) else items_under s around rest)
    go true y = y
    go false y = y
items_are_blocks s around (a_record code values rest) blocks = absurd blocks

pub depth_under : (s : Setting) (around : ℕ) (f : Forest) → forest_depth (items_under s around f) ≤ forest_depth f
depth_under s around empty = omega arith
depth_under s around (a_block id inner rest) = go (keeps s id) (depth_under s id inner) (depth_under s around rest)
  where
    go : (b : Bool) → forest_depth (items_under s id inner) ≤ forest_depth inner → forest_depth (items_under s around rest) ≤ forest_depth rest
        → forest_depth (if b then a_block id (items_under s id inner) (items_under s around rest) else items_under s around rest) ≤ max (suc (forest_depth inner)) (forest_depth rest)
    go true x y = omega arith
    go false x y = omega arith
depth_under s around (a_record code values rest) = go (keeps_record s around code) (depth_under s around rest)
  where
    go : (b : Bool) → forest_depth (items_under s around rest) ≤ forest_depth rest → forest_depth (if b then a_record code values (items_under s around rest) else items_under s around rest) ≤ forest_depth rest
    go true y = y
    go false y = y

pub values_under : (s : Setting) (around : ℕ) (f : Forest) → forest_values (items_under s around f) ≤ forest_values f
values_under s around empty = omega arith
values_under s around (a_block id inner rest) = go (keeps s id) (values_under s id inner) (values_under s around rest)
  where
    go : (b : Bool) → forest_values (items_under s id inner) ≤ forest_values inner → forest_values (items_under s around rest) ≤ forest_values rest
        → forest_values (if b then a_block id (items_under s id inner) (items_under s around rest) else items_under s around rest) ≤ forest_values inner + forest_values rest
    go true x y = omega arith
    go false x y = omega arith
values_under s around (a_record code values rest) = go (keeps_record s around code) (values_under s around rest)
  where
    go : (b : Bool) → forest_values (items_under s around rest) ≤ forest_values rest → forest_values (if b then a_record code values (items_under s around rest) else items_under s around rest) ≤ forest_values (a_record code values rest)
    go true y = omega (arith, y)
    go false y = omega (arith, y)

pub fit_under : (s : Setting) (tree : Tree) → Fit tree → Fit (under s tree)
fit_under s tree fit = record {
  magic = fit.magic;
  bare = fit.bare;
  blocks = items_are_blocks s 0 tree.blocks fit.blocks;
  fit = items_fit s 0 tree.blocks fit.fit;
  depth = omega (arith, depth_under s 0 tree.blocks, fit.depth);
}

-- ---- events

-- the ids after one more event
pub ids_behind-push : (events : List Event) (event : Event) (ids : List ℕ) → ids_behind (events ++ event ∷ []) ids ≡ ids_after event (ids_behind events ids)
ids_behind-push [] event ids = refl
ids_behind-push (e ∷ events) event ids = ids_behind-push events event (ids_after e ids)

pub forest_left : (s : Setting) (around : ℕ) (m : Marks) → forest_of (marks_under s around m) ≡ items_under s around (forest_of m)
forest_left s around no_marks = refl
forest_left s around (marked_block mark inner rest) = go (keeps s mark.id) (forest_left s mark.id inner) (forest_left s around rest)
  where
    go : (b : Bool) → forest_of (marks_under s mark.id inner) ≡ items_under s mark.id (forest_of inner) → forest_of (marks_under s around rest) ≡ items_under s around (forest_of rest)
        → forest_of (if b then marked_block mark (marks_under s mark.id inner) (marks_under s around rest) else marks_under s around rest)
        ≡ (if b then a_block mark.id (items_under s mark.id (forest_of inner)) (items_under s around (forest_of rest)) else items_under s around (forest_of rest))
    go true x y = rw (x, y) refl
    go false x y = y
forest_left s around (marked_record mark rest) = go (keeps_record s around mark.code) (forest_left s around rest)
  where
    go : (b : Bool) → forest_of (marks_under s around rest) ≡ items_under s around (forest_of rest)
        → forest_of (if b then marked_record mark (marks_under s around rest) else marks_under s around rest) ≡ (if b then a_record mark.code mark.values (items_under s around (forest_of rest)) else items_under s around (forest_of rest))
    go true y = ap (a_record mark.code mark.values) y
    go false y = y
forest_left s around (marked_definition mark rest) = forest_left s around rest

-- an event before others, if it is kept
abbrev put : Bool → Event → List Event → List Event
put b event others = if b then event ∷ others else others

left_out : (b : Bool) (event : Event) (others : List Event) → b ≡ false → put b event others ≡ others
left_out b event others e = ap (λ (c : Bool). put c event others) e

left : (b : Bool) (event : Event) (others : List Event) → b ≡ true → put b event others ≡ event ∷ others
left b event others e = ap (λ (c : Bool). put c event others) e

-- in a block that is left out nothing is kept
events_passed : (s : Setting) (ids : List ℕ) (m : Marks) (following : List Event) → list_all (keeps s) ids ≡ false → events_under s ids (flat m following) ≡ events_under s ids following
events_passed s ids no_marks following none = refl
events_passed s ids (marked_block mark inner rest) following none =
    let inside = mark.id ∷ ids in
    let still : list_all (keeps s) inside ≡ false = and_false (keeps s mark.id) (list_all (keeps s) ids) none in
    left_out (list_all (keeps s) inside) _ _ still
    ∙ events_passed s inside inner (leaves mark.after ∷ flat rest following) still
    ∙ left_out (list_all (keeps s) inside) (leaves mark.after) (events_under s ids (flat rest following)) still
    ∙ events_passed s ids rest following none
events_passed s ids (marked_record mark rest) following none =
    left_out (list_all (keeps s) ids && keeps_record s (innermost ids) mark.code) (notes mark) (events_under s ids (flat rest following)) (ap (λ (b : Bool). b && keeps_record s (innermost ids) mark.code) none)
    ∙ events_passed s ids rest following none
events_passed s ids (marked_definition mark rest) following none = left_out (list_all (keeps s) ids) (defines mark) (events_under s ids (flat rest following)) none ∙ events_passed s ids rest following none

-- the kept events of marks are those of the kept marks
pub events_left : (s : Setting) (ids : List ℕ) (m : Marks) (following : List Event) → list_all (keeps s) ids ≡ true → events_under s ids (flat m following) ≡ flat (marks_under s (innermost ids) m) (events_under s ids following)
events_left s ids no_marks following all = refl
events_left s ids (marked_block mark inner rest) following all = go (keeps s mark.id) refl (events_left s inside inner (leaves mark.after ∷ flat rest following)) (events_left s ids rest following all)
  where
    inside : List ℕ
    inside = mark.id ∷ ids

    first : Event
    first = enters (record { id = mark.id; width = mark.width; first = mark.first; body = mark.body })

    behind : List Event
    behind = leaves mark.after ∷ flat rest following

    go : (b : Bool) → keeps s mark.id ≡ b → (list_all (keeps s) inside ≡ true → events_under s inside (flat inner behind) ≡ flat (marks_under s mark.id inner) (events_under s inside behind))
        → events_under s ids (flat rest following) ≡ flat (marks_under s (innermost ids) rest) (events_under s ids following)
        → put (list_all (keeps s) inside) first (events_under s inside (flat inner behind))
        ≡ flat (if b then marked_block mark (marks_under s mark.id inner) (marks_under s (innermost ids) rest) else marks_under s (innermost ids) rest) (events_under s ids following)
    go true e within others =
        let still : list_all (keeps s) inside ≡ true = and_true (keeps s mark.id) (list_all (keeps s) ids) e all in
        let closed : events_under s inside behind ≡ leaves mark.after ∷ flat (marks_under s (innermost ids) rest) (events_under s ids following) =
        left (list_all (keeps s) inside) (leaves mark.after) (events_under s ids (flat rest following)) still ∙ ap (λ (es : List Event). leaves mark.after ∷ es) others in
        left (list_all (keeps s) inside) first (events_under s inside (flat inner behind)) still
        ∙ ap (λ (es : List Event). first ∷ es) (within still ∙ ap (flat (marks_under s mark.id inner)) closed)
    go false e within others =
        let none : list_all (keeps s) inside ≡ false = ap (λ (b : Bool). b && list_all (keeps s) ids) e in
        left_out (list_all (keeps s) inside) first (events_under s inside (flat inner behind)) none
        ∙ events_passed s inside inner behind none
        ∙ left_out (list_all (keeps s) inside) (leaves mark.after) (events_under s ids (flat rest following)) none
        ∙ others
events_left s ids (marked_record mark rest) following all = go (keeps_record s (innermost ids) mark.code) refl (events_left s ids rest following all)
  where
    go : (b : Bool) → keeps_record s (innermost ids) mark.code ≡ b → events_under s ids (flat rest following) ≡ flat (marks_under s (innermost ids) rest) (events_under s ids following)
        → put (list_all (keeps s) ids && keeps_record s (innermost ids) mark.code) (notes mark) (events_under s ids (flat rest following))
        ≡ flat (if b then marked_record mark (marks_under s (innermost ids) rest) else marks_under s (innermost ids) rest) (events_under s ids following)
    go true e others = left _ (notes mark) _ (and_true (list_all (keeps s) ids) (keeps_record s (innermost ids) mark.code) all e) ∙ ap (λ (es : List Event). notes mark ∷ es) others
    go false e others = left_out _ (notes mark) _ (and_false (list_all (keeps s) ids) (keeps_record s (innermost ids) mark.code) e) ∙ others
events_left s ids (marked_definition mark rest) following all =
    left (list_all (keeps s) ids) (defines mark) (events_under s ids (flat rest following)) all ∙ ap (λ (es : List Event). defines mark ∷ es) (events_left s ids rest following all)

-- the kept events of marks are those of other marks, whose items are the kept ones
pub marks_left : (s : Setting) (m : Marks) → (n : Marks) × (events_under s [] (flat m []) ≡ flat n []) × (forest_of n ≡ items_under s 0 (forest_of m))
marks_left s m = (marks_under s 0 m, events_left s [] m [] refl, forest_left s 0 m)
