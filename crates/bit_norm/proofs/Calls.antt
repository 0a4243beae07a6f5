-- The calls of a tree fit, and fit calls are those of a tree.
use Rattle.std.proofs.Common.{◌≡◌, ℕ, zero, suc, ◌+◌, ◌<◌, ◌≤◌, Bool, true, false, not, ◌&&◌, nat_lt, List, [], ◌∷◌, ◌++◌, length, refl, sym, ap, subst, ◌∙◌, arith, add-zero, add_assoc}
use Rattle.std.proofs.lemmas.Bool.Decides.{nat_tests}
use Rattle.bit_grammar.specs.Blocks.{Limits}
use Rattle.bit_grammar.specs.Forest.{Forest, empty, a_block, a_record, Tree, FitForest, AreBlocks, DescribesBlocks, forest_depth, forest_values}
use Rattle.bit_norm.specs.Calls.{calls_of}
use Rattle.bit_norm.specs.Telling.{Call, begins, holds, ends, told, Where, at_top, takes_block, takes_record, fits, inside_block, behind_record, after_call, where_after, AreFit, IsFit}
use Rattle.bit_norm.specs.declared.form_writer.Inside.{Inside}
use Rattle.bit_norm.specs.declared.form_writer.Inside.TheVariants.{Any, NewInfo, Info}

-- ---- the calls of a tree tell it

-- the forest, and another after it
abbrev join : Forest → Forest → Forest
join empty after = after
join (a_block id inner others) after = a_block id inner (join others after)
join (a_record code values others) after = a_record code values (join others after)

join_empty : (f : Forest) → join f empty ≡ f
join_empty empty = refl
join_empty (a_block id inner others) = ap (λ (o : Forest). a_block id inner o) (join_empty others)
join_empty (a_record code values others) = ap (λ (o : Forest). a_record code values o) (join_empty others)

told_above : (f : Forest) (after : List Call) (level : ℕ) → told (calls_of f after) (suc level) ≡ told after (suc level)
told_above empty after level = refl
told_above (a_block id inner others) after level = told_above inner (ends ∷ calls_of others after) (suc level) ∙ told_above others after level
told_above (a_record code values others) after level = told_above others after level

told_here : (f : Forest) (after : List Call) → told (calls_of f after) 0 ≡ join f (told after 0)
told_here empty after = refl
told_here (a_block id inner others) after =
    let inside : told (calls_of inner (ends ∷ calls_of others after)) 0 ≡ inner = told_here inner (ends ∷ calls_of others after) ∙ join_empty inner in
    let behind : told (calls_of inner (ends ∷ calls_of others after)) 1 ≡ join others (told after 0) = told_above inner (ends ∷ calls_of others after) 0 ∙ told_here others after in
    rw (inside, behind) refl
told_here (a_record code values others) after = ap (λ (o : Forest). a_record code values o) (told_here others after)

pub tell_tree : (tree : Tree) → told (calls_of tree.blocks []) 0 ≡ tree.blocks
tell_tree tree = told_here tree.blocks [] ∙ join_empty tree.blocks

-- ---- the calls of a fit tree fit

-- what a forest has to be inside a block
abbrev Suits : Inside → Forest → Type 0
Suits Any f = Unit {0}
Suits NewInfo f = DescribesBlocks false f
Suits Info f = DescribesBlocks true f

suits_block : (id : ℕ) (f : Forest) → (id ≡ 0 → DescribesBlocks false f) → Suits (inside_block id) f
suits_block zero f h = h refl
suits_block (suc id) f h = rw (Prim.Native.Nat.compare.suc-zero id) tt

takes_a_block : (i : Inside) (id : ℕ) (inner others : Forest) → Suits i (a_block id inner others) → i ≡ Any
takes_a_block Any id inner others h = refl
takes_a_block NewInfo id inner others h = absurd h
takes_a_block Info id inner others h = absurd h

takes_a_record : (i : Inside) (code : ℕ) (values : List ℕ) (others : Forest) → Suits i (a_record code values others) → takes_record i code values ≡ true
takes_a_record Any code values others h = refl
takes_a_record NewInfo code values others h = h.0
takes_a_record Info code values others h = h.0

suits_others : (i : Inside) (code : ℕ) (values : List ℕ) (others : Forest) → Suits i (a_record code values others) → Suits (behind_record i) others
suits_others Any code values others h = tt
suits_others NewInfo code values others h = h.1
suits_others Info code values others h = h.1

both : (a b : Bool) → a ≡ true → b ≡ true → a && b ≡ true
both a b x y = rw (x, y) refl

below : (a b : ℕ) → a < b → nat_lt a b ≡ true
below a b h = grind (arith, nat_tests)

not_above : (a b : ℕ) → b ≤ a → not (nat_lt a b) ≡ true
not_above a b h = grind (arith, nat_tests)

positive : (n : ℕ) → (n ≡ 0 → ⊥) → 0 < n
positive n h = omega (arith, h)

-- what is known where a forest comes
record Fitting (limits : Limits) (w : Where) (f : Forest) : Type 0 where
  pub fit : FitForest f
  pub suits : Suits w.inside f
  pub top : w.depth ≡ 0 → AreBlocks f
  pub depth : forest_depth f + w.depth ≤ limits.depth
  pub values : w.values + forest_values f ≤ limits.values

-- the calls after a forest fit there
abbrev FitsAfter : Limits → Where → Forest → List Call → Type 0
FitsAfter limits w f after = (i : Inside) → (w.inside ≡ Any → i ≡ Any)
    → AreFit limits (record { depth = w.depth; inside = i; values = w.values + forest_values f }) after

fit_calls : (limits : Limits) (f : Forest) (w : Where) (after : List Call) → Fitting limits w f → FitsAfter limits w f after → AreFit limits w (calls_of f after)
fit_calls limits empty w after h rest = subst (λ (n : ℕ). AreFit limits (record { depth = w.depth; inside = w.inside; values = n }) after) (add-zero w.values) (rest w.inside (λ e. e))
fit_calls limits (a_block id inner others) w after h rest =
    let there = takes_a_block w.inside id inner others h.suits in
    let more : AreFit limits (record { depth = w.depth; inside = Any; values = w.values + forest_values inner }) (calls_of others after) =
    fit_calls limits others (record { depth = w.depth; inside = Any; values = w.values + forest_values inner }) after (record { fit = h.fit.3; suits = tt; top = h.top; depth = omega (arith, h.depth); values = omega (arith, h.values) })
    (λ j e. subst (λ (n : ℕ). AreFit limits (record { depth = w.depth; inside = j; values = n }) after) (sym (add_assoc w.values (forest_values inner) (forest_values others))) (rest j (λ a. e refl))) in (
      both (takes_block w.inside) (nat_lt w.depth limits.depth) (ap takes_block there) (below w.depth limits.depth (omega (arith, h.depth))),
      h.fit.0,
      fit_calls limits inner (after_call (begins id) w) (ends ∷ calls_of others after) (record { fit = h.fit.2; suits = suits_block id inner h.fit.1; top = λ e. absurd (omega (arith, e)); depth = omega (arith, h.depth); values = omega (arith, h.values) })
          (λ i e. (below 0 (suc w.depth) (omega arith), tt, subst (λ (n : ℕ). AreFit limits (record { depth = n; inside = Any; values = w.values + forest_values inner }) (calls_of others after)) (omega arith) more)),
    )
fit_calls limits (a_record code values others) w after h rest = (
  both (nat_lt 0 w.depth && takes_record w.inside code values) (not (nat_lt limits.values (w.values + length values)))
      (both (nat_lt 0 w.depth) (takes_record w.inside code values) (below 0 w.depth (positive w.depth h.top)) (takes_a_record w.inside code values others h.suits))
      (not_above limits.values (w.values + length values) (omega (arith, h.values))),
  (h.fit.0, h.fit.1),
  fit_calls limits others (after_call (holds code values) w) after (record { fit = h.fit.2; suits = suits_others w.inside code values others h.suits; top = λ e. absurd (h.top e); depth = h.depth; values = omega (arith, h.values) })
      (λ i e. subst (λ (n : ℕ). AreFit limits (record { depth = w.depth; inside = i; values = n }) after) (sym (add_assoc w.values (length values) (forest_values others))) (rest i (λ a. e (ap behind_record a)))),
)

pub fit_tree : (limits : Limits) (tree : Tree) → IsFit limits tree → AreFit limits at_top (calls_of tree.blocks [])
fit_tree limits tree h = fit_calls limits tree.blocks at_top [] (record { fit = h.fit.fit; suits = tt; top = λ e. h.fit.blocks; depth = omega (arith, h.depth); values = omega (arith, h.values) }) (λ i e. tt)

-- ---- a call that does not fit

fits_where : (limits : Limits) (w : Where) (before after : List Call) (call : Call) → AreFit limits w (before ++ call ∷ after) → fits limits (where_after before w) call ≡ true
fits_where limits w [] after call h = h.0
fits_where limits w (first ∷ before) after call h = fits_where limits (after_call first w) before after call h.2

pub not_misplaced : (limits : Limits) (tree : Tree) (before after : List Call) (call : Call) → fits limits (where_after before at_top) call ≡ false → calls_of tree.blocks [] ≡ before ++ call ∷ after → IsFit limits tree → ⊥
not_misplaced limits tree before after call h same fit =
    let there : fits limits (where_after before at_top) call ≡ true = fits_where limits at_top before after call (subst (AreFit limits at_top) same (fit_tree limits tree fit)) in
    absurd cc

-- ---- calls that fit are those of a tree

-- the calls of what is told from a level on: the rest of the block there, then of each around it
abbrev upwards : (blocks level : ℕ) → List Call → List Call
upwards zero level calls = calls_of (told calls level) []
upwards (suc n) level calls = calls_of (told calls level) (ends ∷ upwards n (suc level) calls)

up_begins : (n level id : ℕ) (calls : List Call) → upwards n (suc level) (begins id ∷ calls) ≡ upwards n (suc (suc level)) calls
up_begins zero level id calls = refl
up_begins (suc n) level id calls = ap (λ (after : List Call). calls_of (told calls (suc (suc level))) (ends ∷ after)) (up_begins n (suc level) id calls)

up_holds : (n level code : ℕ) (values : List ℕ) (calls : List Call) → upwards n (suc level) (holds code values ∷ calls) ≡ upwards n (suc level) calls
up_holds zero level code values calls = refl
up_holds (suc n) level code values calls = ap (λ (after : List Call). calls_of (told calls (suc level)) (ends ∷ after)) (up_holds n (suc level) code values calls)

up_ends : (n level : ℕ) (calls : List Call) → upwards n (suc level) (ends ∷ calls) ≡ upwards n level calls
up_ends zero level calls = refl
up_ends (suc n) level calls = ap (λ (after : List Call). calls_of (told calls level) (ends ∷ after)) (up_ends n (suc level) calls)

fits_inside : (limits : Limits) (w : Where) → fits limits w ends ≡ true → 0 < w.depth
fits_inside limits w h = grind (arith, nat_tests)

told_upwards : (limits : Limits) (calls : List Call) (w : Where) (n : ℕ) → w.depth ≡ n → AreFit limits w calls → (where_after calls w).depth ≡ 0 → upwards n 0 calls ≡ calls
told_upwards limits [] w n is fit none = rw (sym is ∙ none) refl
told_upwards limits (begins id ∷ calls) w zero is fit none =
    ap (λ (cs : List Call). begins id ∷ cs) (told_upwards limits calls (after_call (begins id) w) 1 (ap suc is) fit.2 none)
told_upwards limits (begins id ∷ calls) w (suc n) is fit none =
    ap (λ (after : List Call). begins id ∷ calls_of (told calls 0) (ends ∷ calls_of (told calls 1) (ends ∷ after))) (up_begins n 0 id calls)
    ∙ ap (λ (cs : List Call). begins id ∷ cs) (told_upwards limits calls (after_call (begins id) w) (suc (suc n)) (ap suc is) fit.2 none)
told_upwards limits (holds code values ∷ calls) w zero is fit none =
    ap (λ (cs : List Call). holds code values ∷ cs) (told_upwards limits calls (after_call (holds code values) w) 0 is fit.2 none)
told_upwards limits (holds code values ∷ calls) w (suc n) is fit none =
    ap (λ (after : List Call). holds code values ∷ calls_of (told calls 0) (ends ∷ after)) (up_holds n 0 code values calls)
    ∙ ap (λ (cs : List Call). holds code values ∷ cs) (told_upwards limits calls (after_call (holds code values) w) (suc n) is fit.2 none)
told_upwards limits (ends ∷ calls) w zero is fit none = absurd (omega (arith, is, fits_inside limits w fit.0))
told_upwards limits (ends ∷ calls) w (suc n) is fit none =
    ap (λ (after : List Call). ends ∷ after) (up_ends n 0 calls ∙ told_upwards limits calls (after_call ends w) n (omega (arith, is)) fit.2 none)

pub only_trees : (limits : Limits) (calls : List Call) → AreFit limits at_top calls → (where_after calls at_top).depth ≡ 0 → calls_of (told calls 0) [] ≡ calls
only_trees limits calls fit none = told_upwards limits calls at_top 0 refl fit none
