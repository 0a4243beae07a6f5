-- Properties of the events of a stream: blocks are nested within the limit, and the values are within the limit.
use Rattle.std.proofs.Common.{◌≡◌, ℕ, suc, ◌+◌, ◌-◌, ◌<◌, ◌≤◌, Bool, List, [], ◌∷◌, length, refl, sym, ap, subst, arith, inl, inr}
use Rattle.std.proofs.lemmas.Bool.{ltb-true}
use Rattle.bit_grammar.specs.Grammar.{Spells}
use Rattle.bit_grammar.specs.Marks.{RecordMark, Marks, no_marks, marked_block, marked_record, marked_definition, depth_in, values_in}
use Rattle.bit_grammar.specs.FormatInput.{AreMarkedBlocks}
use Rattle.bit_grammar.specs.Blocks.{Limits, Handed, Scope, BlockHead, record_after}
use Rattle.bit_grammar.specs.Machine.{Event, enters, defines, notes, leaves, flat, Frame, Machine, at_start, frame_of, scope_of, open_block, open_nested, step_after, step_in, step_top, step_of, step, Ending, accepted, broke}
use Rattle.bit_grammar.specs.Steps.{Steps, Leads, open_after, MayStand, IsNested, EndsNested, values_told, all_values_told}
use Rattle.bit_grammar.proofs.WholeInputs.Limits.{leave_used, defines_used}
use Rattle.bit_grammar.proofs.WholeInputs.Rooms.{entry_fitted}

-- Properties of a step with `count` open blocks and `used` values before it: its event is allowed there, there is a frame for each
-- open block, and the values used are those of records.
pub record StepKept (limits : Limits) (count used : ℕ) (v : Event × Machine) : Type 0 where
  pub may : MayStand limits.depth v.0 count
  pub frames : length v.1.frames ≡ open_after v.0 count
  pub values : v.1.handed.used ≡ used + values_told v.0
  pub within : used ≤ limits.values → v.1.handed.used ≤ limits.values

open_kept : (limits : Limits) (frames : List Frame) (first : ℕ) (handed : Handed) (p : ℕ) (s : List Bool) (v : Event × Machine) → Spells (open_block limits frames first handed) p s v → StepKept limits (length frames) handed.used v
unfolding open_block
open_kept limits frames first handed p s v k =
    let fits = ltb-true (length frames) limits.depth k.4.1 in
    subst (StepKept limits (length frames) handed.used) (sym k.5.5.1) (record { may = fits; frames = refl; values = omega arith; within = λ few. few })

after_kept : (limits : Limits) (h : BlockHead) (frames : List Frame) (first : ℕ) (scope : Scope) (id p : ℕ) (s : List Bool) (v : Event × Machine) → Spells (step_after limits h frames first scope id) p s v → StepKept limits (suc (length frames)) scope.handed.used v
unfolding step_after open_nested record_after
after_kept limits h frames first scope id p s v (inl k) =
    let used = leave_used scope.info scope.handed in
    subst (StepKept limits (suc (length frames)) scope.handed.used) (sym k.1.5.1) (record { may = omega arith; frames = omega arith; values = omega (arith, used); within = λ few. omega (arith, used, few) })
after_kept limits h frames first scope id p s v (inr (e, inl k)) = open_kept limits (frame_of h scope ∷ frames) first scope.handed _ k.1.1 v k.1.5
after_kept limits h frames first scope id p s v (inr (e, inr (e', inl k))) =
    let used = defines_used limits.shapes first scope _ k.1.0 k.1.2 k.1.4 in
    subst (StepKept limits (suc (length frames)) scope.handed.used) (sym k.1.5.1) (record { may = omega arith; frames = refl; values = omega (arith, used); within = λ few. omega (arith, used, few) })
after_kept limits h frames first scope id p s v (inr (e, inr (e', inr k))) =
    let r = k.1 in
    let m = r.4 in
    let f = entry_fitted limits.values first id scope _ m.0 m.2 m.4 in
    let made = m.5.5.5.1 in
    let used : r.2.1.handed.used ≡ scope.handed.used + length m.2.values = ap (λ (y : RecordMark × Scope). y.1.handed.used) made in
    let values : length r.2.0.values ≡ length m.2.values = ap (λ (y : RecordMark × Scope). length y.0.values) made in
    subst (StepKept limits (suc (length frames)) scope.handed.used) (sym r.5.1) (record { may = omega arith; frames = refl; values = omega (arith, used, values); within = λ few. omega (arith, used, f.within few) })

frames_kept : (limits : Limits) (frames : List Frame) (handed : Handed) (p : ℕ) (s : List Bool) (v : Event × Machine) → Spells (step_of limits frames handed) p s v → StepKept limits (length frames) handed.used v
unfolding step_in step_top
frames_kept limits [] handed p s v k = open_kept limits [] k.2 handed _ k.5.5.1 v k.5.5.5
frames_kept limits (f ∷ frames) handed p s v k = after_kept limits f.head frames k.2 (scope_of f handed) k.5.2 _ k.5.1 v k.5.5

-- a step keeps to the limits
pub step_kept : (limits : Limits) (m : Machine) (p : ℕ) (s : List Bool) (v : Event × Machine) → Spells (step limits m) p s v → StepKept limits (length m.frames) m.handed.used v
step_kept limits m p s v k = frames_kept limits m.frames m.handed p s v k

-- an event that is allowed within the limit leaves no more blocks open
pub open_within : (deepest : ℕ) (event : Event) (count : ℕ) → MayStand deepest event count → count ≤ deepest → open_after event count ≤ deepest
open_within deepest (enters o) count may few = omega (arith, may)
open_within deepest (defines mark) count may few = few
open_within deepest (notes mark) count may few = few
open_within deepest (leaves after) count may few = omega (arith, few)

pub frames_within : (limits : Limits) (m new : Machine) (p : ℕ) (s : List Bool) (event : Event) → Spells (step limits m) p s (event, new) → length m.frames ≤ limits.depth → length new.frames ≤ limits.depth
frames_within limits m new p s event k few =
    let kept = step_kept limits m p s (event, new) k in
    omega (arith, kept.frames, open_within limits.depth event (length m.frames) kept.may few)

-- ---- all remaining events

pub run_nested : (limits : Limits) (m : Machine) (p : ℕ) (r : List Bool) (events : List Event) (ending : Ending) → length m.frames ≤ limits.depth → Steps limits m p r events ending → EndsNested limits.depth (length m.frames) events ending
run_nested limits m p r [] (accepted q) few h = sym (ap length h.0.0)
run_nested limits m p r [] (broke fault) few h = (length m.frames, few, refl)
run_nested limits m p r (event ∷ events) (accepted q) few h =
    let kept = step_kept limits m p h.0 (event, h.2) h.5 in
    let more = run_nested limits h.2 (p + length h.0) h.1 events (accepted q) (frames_within limits m h.2 p h.0 event h.5 few) h.6 in
    (kept.may, subst (λ (n : ℕ). IsNested limits.depth n events 0) kept.frames more)
run_nested limits m p r (event ∷ events) (broke fault) few h =
    let kept = step_kept limits m p h.0 (event, h.2) h.5 in
    let more = run_nested limits h.2 (p + length h.0) h.1 events (broke fault) (frames_within limits m h.2 p h.0 event h.5 few) h.6 in
    (more.0, more.1, (kept.may, subst (λ (n : ℕ). IsNested limits.depth n events more.0) kept.frames more.2))

pub run_values : (limits : Limits) (m : Machine) (p : ℕ) (r : List Bool) (events : List Event) (ending : Ending) → m.handed.used ≤ limits.values → Steps limits m p r events ending → m.handed.used + all_values_told events ≤ limits.values
run_values limits m p r [] ending few h = omega (arith, few)
run_values limits m p r (event ∷ events) ending few h =
    let kept = step_kept limits m p h.0 (event, h.2) h.5 in
    omega (arith, kept.values, run_values limits h.2 (p + length h.0) h.1 events ending (kept.within few) h.6)

-- ---- a step, and all remaining events from the start

pub frames_of_step : (limits : Limits) (m new : Machine) (p : ℕ) (s : List Bool) (event : Event) → Spells (step limits m) p s (event, new)
    → MayStand limits.depth event (length m.frames) × (length new.frames ≡ open_after event (length m.frames)) × (length m.frames ≤ limits.depth → length new.frames ≤ limits.depth)
frames_of_step limits m new p s event k = (let kept = step_kept limits m p s (event, new) k in (kept.may, kept.frames, frames_within limits m new p s event k))

pub values_of_step : (limits : Limits) (m new : Machine) (p : ℕ) (s : List Bool) (event : Event) → Spells (step limits m) p s (event, new)
    → (new.handed.used ≡ m.handed.used + values_told event) × (m.handed.used ≤ limits.values → new.handed.used ≤ limits.values)
values_of_step limits m new p s event k = (let kept = step_kept limits m p s (event, new) k in (kept.values, kept.within))

pub nested_from_start : (limits : Limits) (p : ℕ) (r : List Bool) (events : List Event) (ending : Ending) → Steps limits at_start p r events ending → EndsNested limits.depth 0 events ending
nested_from_start limits p r events ending h = run_nested limits at_start p r events ending (omega arith) h

pub values_from_start : (limits : Limits) (p : ℕ) (r : List Bool) (events : List Event) (ending : Ending) → Steps limits at_start p r events ending → all_values_told events ≤ limits.values
values_from_start limits p r events ending h = omega (arith, run_values limits at_start p r events ending (omega arith) h)

-- properties of the machine after these events
pub leads_kept : (limits : Limits) (m new : Machine) (p : ℕ) (s : List Bool) (events : List Event) → Leads limits m p s events new
    → IsNested limits.depth (length m.frames) events (length new.frames) × (new.handed.used ≡ m.handed.used + all_values_told events) × (m.handed.used ≤ limits.values → new.handed.used ≤ limits.values)
leads_kept limits m new p s [] h =
    let used = ap (λ (x : Machine). x.handed.used) h.1 in
    (ap (λ (x : Machine). length x.frames) h.1, omega (arith, used), λ few. omega (arith, used, few))
leads_kept limits m new p s (event ∷ events) h =
    let kept = step_kept limits m p h.0 (event, h.2) h.5 in
    let more = leads_kept limits h.2 new (p + length h.0) h.1 events h.6 in
    ((kept.may, subst (λ (n : ℕ). IsNested limits.depth n events (length new.frames)) kept.frames more.0), omega (arith, kept.values, more.1), λ few. more.2 (kept.within few))

-- ---- the events of marks

pub values_of_marks : (marks : Marks) (following : List Event) → all_values_told (flat marks following) ≡ values_in marks + all_values_told following
values_of_marks no_marks following = omega arith
values_of_marks (marked_block mark inner rest) following = omega (arith, values_of_marks inner (leaves mark.after ∷ flat rest following), values_of_marks rest following)
values_of_marks (marked_record mark rest) following = omega (arith, values_of_marks rest following)
values_of_marks (marked_definition mark rest) following = omega (arith, values_of_marks rest following)

-- in a block, with room for this much more depth
nested_inside : (deepest count left : ℕ) (marks : Marks) (following : List Event) → 0 < count → count + depth_in marks ≤ deepest → IsNested deepest count following left → IsNested deepest count (flat marks following) left
nested_inside deepest count left no_marks following some few more = more
nested_inside deepest count left (marked_block mark inner rest) following some few more =
    let after = nested_inside deepest count left rest following some (omega (arith, few)) more in
    (omega (arith, few), nested_inside deepest (suc count) left inner (leaves mark.after ∷ flat rest following) (omega arith) (omega (arith, few)) (omega arith, subst (λ (n : ℕ). IsNested deepest n (flat rest following) left) (let same : count ≡ suc count - 1 = omega arith in same) after))
nested_inside deepest count left (marked_record mark rest) following some few more = (some, nested_inside deepest count left rest following some few more)
nested_inside deepest count left (marked_definition mark rest) following some few more = (some, nested_inside deepest count left rest following some few more)

-- at the top
pub nested_marks : (deepest : ℕ) (marks : Marks) → AreMarkedBlocks marks → depth_in marks ≤ deepest → IsNested deepest 0 (flat marks []) 0
nested_marks deepest no_marks only few = refl
nested_marks deepest (marked_block mark inner rest) only few =
    (omega (arith, few), nested_inside deepest 1 0 inner (leaves mark.after ∷ flat rest []) (omega arith) (omega (arith, few)) (omega arith, nested_marks deepest rest only (omega (arith, few))))
nested_marks deepest (marked_record mark rest) only few = absurd only
nested_marks deepest (marked_definition mark rest) only few = absurd only
