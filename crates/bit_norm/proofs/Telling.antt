-- The trees that calls describe, and the writer that takes the calls.
use Rattle.std.proofs.Common.{◌≡◌, ◌≢◌, ℕ, zero, suc, ◌+◌, ◌-◌, ◌^◌, ◌<◌, ◌≤◌, Bool, true, false, not, ◌&&◌, nat_lt, List, [], ◌∷◌, ◌++◌, length, map, refl, sym, ap, subst, ◌∙◌, arith}
use Rattle.std.specs.List.{list_all}
use Rattle.std.proofs.lemmas.List.{map-append}
use Rattle.std.proofs.lemmas.Bool.Decides.{nat_tests}
use Rattle.bit_grammar.specs.Blocks.{Limits}
use Rattle.bit_grammar.specs.Forest.{Forest, a_record, FitForest, AreBlocks, DescribesBlocks, forest_depth, forest_values, wrapper_magic}
use Rattle.bit_grammar.specs.Machine.{Event, enters, defines, notes, leaves}
use Rattle.bit_grammar.specs.Normal.{Capped, normal}
use Rattle.bit_grammar.specs.Setting.{Setting, keep, keeps}
use Rattle.bit_grammar.specs.Steps.{MayStand}
use Rattle.bit_grammar.specs.Under.{is_left, ids_after, events_under}
use Rattle.bit_events.specs.Gathering.{Gathers, open_behind, left_open}
use Rattle.bit_fields.specs.Opening.{magic_number}
use Rattle.bit_norm.specs.Building.{IsFormOf, form_of}
use Rattle.bit_norm.specs.Told.{told_at_level}
use Rattle.bit_norm.specs.Telling.{Call, begins, holds, ends, told, tree_told, Where, at_top, takes_block, takes_record, fits, inside_block, behind_record, after_call, where_after, InRange, AreFit, IsFit, event_of, place_of, HasTold, ToldMore}
use Rattle.bit_norm.specs.declared.form_builder.FormBuilder.{FormBuilder}
use Rattle.bit_norm.specs.declared.form_writer.FormWriter.{FormWriter}
use Rattle.bit_norm.specs.declared.form_writer.Inside.{Inside}
use Rattle.bit_norm.specs.declared.form_writer.Inside.TheVariants.{Any, NewInfo, Info}

-- ---- tests

pub both_true : (a b : Bool) → a && b ≡ true → (a ≡ true) × (b ≡ true)
both_true true b h = (refl, h)
both_true false b h = absurd cc

is_any : (i : Inside) → takes_block i ≡ true → i ≡ Any
is_any Any h = refl
is_any NewInfo h = absurd cc
is_any Info h = absurd cc

pub below : (a b : ℕ) → nat_lt a b ≡ true → a < b
below a b h = grind (arith, nat_tests)

not_above : (a b : ℕ) → not (nat_lt a b) ≡ true → b ≤ a
not_above a b h = grind (arith, nat_tests)

-- what is known of a call that fits
abbrev pub Fitted : Limits → Where → Call → Type 0
Fitted limits w (begins id) = (w.inside ≡ Any) × (w.depth < limits.depth)
Fitted limits w (holds code values) = (0 < w.depth) × (takes_record w.inside code values ≡ true)
    × (w.values + length values ≤ limits.values)
Fitted limits w ends = 0 < w.depth

pub fitted : (limits : Limits) (w : Where) (call : Call) → fits limits w call ≡ true → Fitted limits w call
fitted limits w (begins id) h =
    let p = both_true (takes_block w.inside) (nat_lt w.depth limits.depth) h in
    (is_any w.inside p.0, below w.depth limits.depth p.1)
fitted limits w (holds code values) h =
    let p = both_true (nat_lt 0 w.depth && takes_record w.inside code values) (not (nat_lt limits.values (w.values + length values))) h in
    let q = both_true (nat_lt 0 w.depth) (takes_record w.inside code values) p.0 in
    (below 0 w.depth q.0, q.1, not_above limits.values (w.values + length values) p.1)
fitted limits w ends h = below 0 w.depth h

-- ---- what calls describe is fit

fit_begins : (id : ℕ) (calls : List Call) → id < 2 ^ 32 → (id ≡ 0 → DescribesBlocks false (told calls 0)) → ((level : ℕ) → FitForest (told calls level)) → (level : ℕ) → FitForest (told (begins id ∷ calls) level)
fit_begins id calls small info others zero = (small, info, others 0, others 1)
fit_begins id calls small info others (suc level) = others (suc (suc level))

fit_holds : (code : ℕ) (values : List ℕ) (calls : List Call) → InRange (holds code values) → ((level : ℕ) → FitForest (told calls level)) → (level : ℕ) → FitForest (told (holds code values ∷ calls) level)
fit_holds code values calls range others zero = (range.0, range.1, others 0)
fit_holds code values calls range others (suc level) = others (suc level)

fit_ends : (calls : List Call) → ((level : ℕ) → FitForest (told calls level)) → (level : ℕ) → FitForest (told (ends ∷ calls) level)
fit_ends calls others zero = tt
fit_ends calls others (suc level) = others level

not_info : (i : Inside) → i ≡ Any → i ≡ Info → ⊥
not_info i a b = absurd cc

not_new_info : (i : Inside) → i ≡ Any → i ≡ NewInfo → ⊥
not_new_info i a b = absurd cc

fit_told : (limits : Limits) (w : Where) (calls : List Call) → AreFit limits w calls
    → ((level : ℕ) → FitForest (told calls level)) × (w.inside ≡ NewInfo → DescribesBlocks false (told calls 0)) × (w.inside ≡ Info → DescribesBlocks true (told calls 0))
fit_told limits w [] h = (λ level. tt, λ e. tt, λ e. tt)
fit_told limits w (begins id ∷ calls) h =
    let there = fitted limits w (begins id) h.0 in
    let more = fit_told limits (after_call (begins id) w) calls h.2 in
    (fit_begins id calls h.1 (λ (e : id ≡ 0). more.1 (ap inside_block e)) more.0, λ e. absurd (not_new_info w.inside there.0 e), λ e. absurd (not_info w.inside there.0 e))
fit_told limits w (holds code values ∷ calls) h =
    let there = fitted limits w (holds code values) h.0 in
    let more = fit_told limits (after_call (holds code values) w) calls h.2 in (
      fit_holds code values calls h.1 more.0,
      λ (e : w.inside ≡ NewInfo). (rw e at there.1, more.2 (ap behind_record e)),
      λ (e : w.inside ≡ Info). (rw e at there.1, more.2 (ap behind_record e)),
    )
fit_told limits w (ends ∷ calls) h = (fit_ends calls (fit_told limits (after_call ends w) calls h.2).0, λ e. tt, λ e. tt)

depth_told : (limits : Limits) (w : Where) (calls : List Call) → w.depth ≤ limits.depth → AreFit limits w calls → (level : ℕ) → forest_depth (told calls level) + (w.depth - level) ≤ limits.depth
depth_told limits w [] top h level = omega (arith, top)
depth_told limits w (begins id ∷ calls) top h zero =
    let there = fitted limits w (begins id) h.0 in
    let more = depth_told limits (after_call (begins id) w) calls there.1 h.2 in
    omega (arith, there.1, more 0, more 1)
depth_told limits w (begins id ∷ calls) top h (suc level) =
    let there = fitted limits w (begins id) h.0 in
    omega (arith, depth_told limits (after_call (begins id) w) calls there.1 h.2 (suc (suc level)))
depth_told limits w (holds code values ∷ calls) top h zero = depth_told limits (after_call (holds code values) w) calls top h.2 0
depth_told limits w (holds code values ∷ calls) top h (suc level) = depth_told limits (after_call (holds code values) w) calls top h.2 (suc level)
depth_told limits w (ends ∷ calls) top h zero = omega (arith, top)
depth_told limits w (ends ∷ calls) top h (suc level) =
    let less : w.depth - 1 ≤ limits.depth = omega (arith, top) in
    omega (arith, depth_told limits (after_call ends w) calls less h.2 level)

blocks_told : (limits : Limits) (w : Where) (calls : List Call) → AreFit limits w calls → (n : ℕ) → w.depth ≡ n → AreBlocks (told calls n)
blocks_told limits w [] h n is = tt
blocks_told limits w (begins id ∷ calls) h zero is = blocks_told limits (after_call (begins id) w) calls h.2 1 (ap suc is)
blocks_told limits w (begins id ∷ calls) h (suc n) is = blocks_told limits (after_call (begins id) w) calls h.2 (suc (suc n)) (ap suc is)
blocks_told limits w (holds code values ∷ calls) h zero is =
    let there = fitted limits w (holds code values) h.0 in
    absurd (omega (arith, there.0, is))
blocks_told limits w (holds code values ∷ calls) h (suc n) is = blocks_told limits (after_call (holds code values) w) calls h.2 (suc n) is
blocks_told limits w (ends ∷ calls) h zero is = tt
blocks_told limits w (ends ∷ calls) h (suc n) is = blocks_told limits (after_call ends w) calls h.2 n (omega (arith, is))

-- how many values there are at the levels up to one
total : ℕ → (ℕ → Forest) → ℕ
total zero f = forest_values (f 0)
total (suc n) f = forest_values (f 0) + total n (λ level. f (suc level))

total_none : (n : ℕ) → total n (λ level. told [] level) ≡ 0
unfolding total
total_none zero = refl
total_none (suc n) = omega (arith, total_none n)

values_told : (limits : Limits) (w : Where) (calls : List Call) → AreFit limits w calls → (n : ℕ) → w.depth ≡ n → total n (λ level. told calls level) + w.values ≡ (where_after calls w).values
unfolding total
values_told limits w [] h n is = omega (arith, total_none n)
values_told limits w (begins id ∷ calls) h zero is = values_told limits (after_call (begins id) w) calls h.2 1 (ap suc is)
values_told limits w (begins id ∷ calls) h (suc n) is = omega (arith, values_told limits (after_call (begins id) w) calls h.2 (suc (suc n)) (ap suc is))
values_told limits w (holds code values ∷ calls) h zero is =
    let there = fitted limits w (holds code values) h.0 in
    absurd (omega (arith, there.0, is))
values_told limits w (holds code values ∷ calls) h (suc n) is = omega (arith, values_told limits (after_call (holds code values) w) calls h.2 (suc n) is)
values_told limits w (ends ∷ calls) h zero is =
    let there = fitted limits w ends h.0 in
    absurd (omega (arith, there, is))
values_told limits w (ends ∷ calls) h (suc n) is = omega (arith, values_told limits (after_call ends w) calls h.2 n (omega (arith, is)))

few_told : (limits : Limits) (w : Where) (calls : List Call) → AreFit limits w calls → w.values ≤ limits.values → (where_after calls w).values ≤ limits.values
few_told limits w [] h few = few
few_told limits w (begins id ∷ calls) h few = few_told limits (after_call (begins id) w) calls h.2 few
few_told limits w (holds code values ∷ calls) h few = few_told limits (after_call (holds code values) w) calls h.2 (fitted limits w (holds code values) h.0).2
few_told limits w (ends ∷ calls) h few = few_told limits (after_call ends w) calls h.2 few

-- calls that fit describe a fit tree
pub tree_fit : (limits : Limits) (magic : List ℕ) (calls : List Call) → Capped limits → magic_number magic < 2 ^ 32 → magic_number magic ≢ wrapper_magic → AreFit limits at_top calls → IsFit limits (tree_told magic calls)
unfolding total
tree_fit limits magic calls capped small bare h =
    let deep = depth_told limits at_top calls (omega arith) h 0 in
    let few = few_told limits at_top calls h (omega arith) in
    record {
      fit = record {
        magic = small;
        bare = bare;
        blocks = blocks_told limits at_top calls h 0 refl;
        fit = (fit_told limits at_top calls h).0 0;
        depth = omega (arith, deep, capped.depth);
      };
      depth = omega (arith, deep);
      values = omega (arith, few, values_told limits at_top calls h 0 refl);
    }

pub told_fit : (calls : List Call) (w : FormWriter) → HasTold calls w → IsFit w.limits (tree_told w.magic calls)
told_fit calls w was = tree_fit w.limits w.magic calls was.capped was.small was.bare was.fit

-- ---- calls as events

told_events : (calls : List Call) (level : ℕ) → told calls level ≡ told_at_level (map event_of calls) level
told_events [] level = refl
told_events (begins id ∷ calls) zero = rw (told_events calls 0, told_events calls 1) refl
told_events (begins id ∷ calls) (suc level) = told_events calls (suc (suc level))
told_events (holds code values ∷ calls) zero = ap (a_record code values) (told_events calls 0)
told_events (holds code values ∷ calls) (suc level) = told_events calls (suc level)
told_events (ends ∷ calls) zero = refl
told_events (ends ∷ calls) (suc level) = told_events calls level

open_told : (calls : List Call) (w : Where) → open_behind (map event_of calls) w.depth ≡ (where_after calls w).depth
open_told [] w = refl
open_told (begins id ∷ calls) w = open_told calls (after_call (begins id) w)
open_told (holds code values ∷ calls) w = open_told calls (after_call (holds code values) w)
open_told (ends ∷ calls) w = open_told calls (after_call ends w)

-- nothing is left out if all is kept
all_kept : (ids : List ℕ) → list_all (keeps keep) ids ≡ true
all_kept [] = refl
all_kept (id ∷ ids) = all_kept ids

event_kept : (ids : List ℕ) (event : Event) → is_left keep ids event ≡ true
event_kept ids (enters o) = all_kept ids
event_kept ids (defines mark) = all_kept ids
event_kept ids (notes mark) = rw (all_kept ids) refl
event_kept ids (leaves after) = all_kept ids

events_kept : (ids : List ℕ) (events : List Event) → events_under keep ids events ≡ events
events_kept ids [] = refl
events_kept ids (event ∷ events) = rw (event_kept ids event) (ap (λ (es : List Event). event ∷ es) (events_kept (ids_after event ids) events))

-- the form of calls as events is that of the tree that they describe
pub form_told : (first : FormBuilder) (calls : List Call) → first.standing.setting ≡ keep → normal (told calls 0) 32 ≡ form_of first (map event_of calls)
form_told first calls kept =
    ap (λ (f : Forest). normal f 32) (told_events calls 0)
    ∙ ap (λ (es : List Event). normal (told_at_level es 0) 32) (sym (events_kept [] (map event_of calls)))
    ∙ ap (λ (s : Setting). normal (told_at_level (events_under s [] (map event_of calls)) 0) 32) (sym kept)

-- a writer with no open block took calls that leave none open
pub none_open : (calls : List Call) (w : FormWriter) → HasTold calls w → (place_of w).depth ≡ 0 → left_open (map event_of calls) ≡ 0
none_open calls w was none = open_told calls at_top ∙ ap (λ (p : Where). p.depth) (sym was.place) ∙ none

-- ---- one call more

where_more : (calls : List Call) (call : Call) (w : Where) → where_after (calls ++ call ∷ []) w ≡ after_call call (where_after calls w)
where_more [] call w = refl
where_more (first ∷ calls) call w = where_more calls call (after_call first w)

fit_more : (limits : Limits) (calls : List Call) (call : Call) (w : Where) → AreFit limits w calls → fits limits (where_after calls w) call ≡ true → InRange call → AreFit limits w (calls ++ call ∷ [])
fit_more limits [] call w h there range = (there, range, tt)
fit_more limits (first ∷ calls) call w h there range = (h.0, h.1, fit_more limits calls call (after_call first w) h.2 there range)

may_stand : (limits : Limits) (w : Where) (call : Call) → fits limits w call ≡ true → (deepest : ℕ) × MayStand deepest (event_of call) w.depth
may_stand limits w (begins id) h = (suc w.depth, omega arith)
may_stand limits w (holds code values) h = (0, (fitted limits w (holds code values) h).0)
may_stand limits w ends h = (0, fitted limits w ends h)

pub told_more : (call : Call) (old new : FormWriter) → old.has_failed ≡ false → fits old.limits (place_of old) call ≡ true → InRange call → Gathers IsFormOf old.builder (event_of call) new.builder
    → place_of new ≡ after_call call (place_of old) → new.magic ≡ old.magic → new.limits ≡ old.limits → new.has_failed ≡ old.has_failed → ToldMore call old new
told_more call old new live there range gathers place magic limits failed = record {
  live = live;
  fits = there;
  magic = magic;
  limits = limits;
  told = λ calls was.
      let at : fits old.limits (where_after calls at_top) call ≡ true = ap (λ (p : Where). fits old.limits p call) (sym was.place) ∙ there in
      let may = may_stand old.limits (where_after calls at_top) call at in
      let stands : MayStand may.0 (event_of call) (left_open (map event_of calls)) = subst (λ (n : ℕ). MayStand may.0 (event_of call) n) (sym (open_told calls at_top)) may.1 in
      record {
        first = was.first;
        keeps = was.keeps;
        limits = was.limits ∙ sym limits;
        form = subst (λ (es : List Event). IsFormOf was.first es new.builder) (sym (map-append event_of calls (call ∷ []))) (gathers was.first (map event_of calls) may.0 was.form stands);
        place = place ∙ ap (after_call call) was.place ∙ sym (where_more calls call at_top);
        live = failed ∙ live;
        fit = subst (λ (l : Limits). AreFit l at_top (calls ++ call ∷ [])) (sym limits) (fit_more old.limits calls call at_top was.fit at range);
        small = subst (λ (m : List ℕ). magic_number m < 2 ^ 32) (sym magic) was.small;
        capped = subst (λ (l : Limits). Capped l) (sym limits) was.capped;
        bare = subst (λ (m : List ℕ). magic_number m ≢ wrapper_magic) (sym magic) was.bare;
      };
}
