-- The steps of a stream are its remaining events.
use Rattle.std.proofs.Common.{◌≡◌, ℕ, zero, suc, ◌+◌, ◌<◌, Bool, false, List, [], ◌∷◌, ◌++◌, length, Ok, Err, refl, sym, ap, subst, ◌∙◌, append_assoc, arith, inl, inr}
use Rattle.std.specs.Prelude.{◌↔◌}
use Rattle.std.proofs.lemmas.List.{length-append}
use Rattle.bit_grammar.specs.Grammar.{Fault, Spells, reading}
use Rattle.bit_grammar.specs.Marks.{Item, marks_of}
use Rattle.bit_grammar.specs.Blocks.{Limits}
use Rattle.bit_grammar.specs.Whole.{SpellsAll, StopsAll}
use Rattle.bit_grammar.specs.Input.{top_blocks}
use Rattle.bit_grammar.specs.Machine.{Event, flat, Frame, Machine, at_start, step, Ending, accepted, broke, Told, is_done, told_of_step, to_come}
use Rattle.bit_grammar.specs.Steps.{AreWide, IsOver, Steps, Leads}
use Rattle.bit_grammar.proofs.Readings.Deciding.{reads, breaks, is_spelled, is_stopped}
use Rattle.bit_grammar.proofs.Readings.Wholes.{decides_all}
use Rattle.bit_grammar.proofs.Events.Machines.{Step, Stepped, stepped, comes, step_takes, step_wide}
use Rattle.bit_grammar.proofs.Events.Follows.{tells_spelled, tells_stopped}

-- if bits are left, or a block is open, it isn't done
not_done : (frames : List Frame) (r : List Bool) → ((frames ≡ []) × (r ≡ []) → ⊥) → is_done frames r ≡ false
not_done [] [] open_more = absurd (open_more (refl, refl))
not_done [] (b ∷ bits) open_more = refl
not_done (f ∷ frames) r open_more = refl

bits_left : (frames : List Frame) (r : List Bool) → 0 < length r → is_done frames r ≡ false
bits_left [] [] some = absurd (omega (arith, some))
bits_left [] (b ∷ bits) some = refl
bits_left (f ∷ frames) r some = refl

-- when it is done, and when not
pub data IsDone (frames : List Frame) (r : List Bool) : Type 0 where
  is_over : frames ≡ [] → r ≡ [] → IsDone frames r
  goes_on : is_done frames r ≡ false → ((frames ≡ []) × (r ≡ []) → ⊥) → IsDone frames r

decide_done : (frames : List Frame) (r : List Bool) → IsDone frames r
decide_done [] [] = is_over refl refl
decide_done [] (b ∷ bits) = goes_on refl (λ e. let e' = e.1 in absurd cc)
decide_done (f ∷ frames) r = goes_on refl (λ e. let e' = e.0 in absurd cc)

over_comes : (limits : Limits) (m : Machine) (p : ℕ) (r : List Bool) → m.frames ≡ [] → r ≡ [] → to_come limits m p r ≡ ([], accepted p)
unfolding to_come
over_comes limits m p r none empty = rw (none, empty) refl

-- the steps are the remaining events
pub steps_come : (limits : Limits) (m : Machine) (p : ℕ) (r : List Bool) (events : List Event) (ending : Ending) → AreWide m.frames → Steps limits m p r events ending → to_come limits m p r ≡ (events, ending)
steps_come limits m p r [] (accepted q) wide h = over_comes limits m p r h.0.0 h.0.1 ∙ ap (λ (n : ℕ). ([], accepted n)) (sym h.1)
steps_come limits m p r [] (broke fault) wide h = comes limits m p r wide (not_done m.frames r h.0) ∙ ap (told_of_step (to_come limits)) (breaks (step limits m) p r fault h.1)
steps_come limits m p r (event ∷ events) ending wide h =
    let first = h.0 in
    let others = h.1 in
    let new = h.2 in
    let some : 0 < length r = omega (arith, ap length h.3, length-append first others, h.4) in
    let one = ap (reading (step limits m) p) h.3 ∙ reads (step limits m) p first (event, new) others h.5 in
    let more = steps_come limits new (p + length first) others events ending (step_wide limits m.frames m.handed p first (event, new) wide h.5) h.6 in
    comes limits m p r wide (bits_left m.frames r some) ∙ ap (told_of_step (to_come limits)) one ∙ ap (λ (told : Told). (event ∷ told.0, told.1)) more

abbrev AreSteps : Limits → Machine → ℕ → List Bool → Told → Type 0
AreSteps limits m p r told = Steps limits m p r told.0 told.1

-- the remaining events after a step are steps
abbrev StepsAfter : Limits → List Bool → Type 0
StepsAfter limits r = (x : (Event × Machine) × ℕ × List Bool) → Stepped r x → AreSteps limits x.0.1 x.1 x.2 (to_come limits x.0.1 x.1 x.2)

-- the remaining events are steps
come_steps : (limits : Limits) (n : ℕ) (m : Machine) (p : ℕ) (r : List Bool) → length r < n → AreWide m.frames → AreSteps limits m p r (to_come limits m p r)
come_steps limits zero m p r lt wide = absurd (omega (arith, lt))
come_steps limits (suc n) m p r lt wide = by_done (decide_done m.frames r) (λ x s. come_steps limits n x.0.1 x.1 x.2 (omega (arith, lt, s.shorter)) s.wide)
  where
    by_reading : (read : Step) → reading (step limits m) p r ≡ read → (IsOver m r → ⊥) → StepsAfter limits r → AreSteps limits m p r (told_of_step (to_come limits) read)
    by_reading (Ok x) e over more =
        let s = is_spelled (step limits m) p r x.0 x.1 x.2 e in
        let some = step_takes limits m.frames m.handed p s.0 x.0 wide s.3 in
        let rest : AreSteps limits x.0.1 (p + length s.0) x.2 (to_come limits x.0.1 x.1 x.2) = subst (λ (q : ℕ). AreSteps limits x.0.1 q x.2 (to_come limits x.0.1 x.1 x.2)) s.2 (more x (stepped limits m p r x wide e)) in
        (s.0, x.2, x.0.1, s.1, some, s.3, rest)
    by_reading (Err fault) e over more = (over, is_stopped (step limits m) p r fault e)

    by_done : IsDone m.frames r → StepsAfter limits r → AreSteps limits m p r (to_come limits m p r)
    by_done (is_over none empty) more = rw (over_comes limits m p r none empty) ((none, empty), refl)
    by_done (goes_on not_yet over) more = rw (comes limits m p r wide not_yet) (by_reading (reading (step limits m) p r) refl over more)

pub told_steps : (limits : Limits) (m : Machine) (p : ℕ) (r : List Bool) (events : List Event) (ending : Ending) → AreWide m.frames → to_come limits m p r ≡ (events, ending) → Steps limits m p r events ending
told_steps limits m p r events ending wide e = subst (λ (told : Told). AreSteps limits m p r told) e (come_steps limits (suc (length r)) m p r (omega arith) wide)

-- ---- the blocks of a stream

pub spelled_steps : (limits : Limits) (p : ℕ) (r : List Bool) (v : List Item × ℕ) → SpellsAll (top_blocks limits) p r v → Steps limits at_start p r (flat (marks_of v.0) []) (accepted v.1)
spelled_steps limits p r v h = told_steps limits at_start p r _ _ tt (tells_spelled limits p r v h)

pub stopped_steps : (limits : Limits) (p : ℕ) (r : List Bool) (fault : Fault) → StopsAll (top_blocks limits) p r fault → (events : List Event) × Steps limits at_start p r events (broke fault)
stopped_steps limits p r fault h =
    let told = to_come limits at_start p r in
    (told.0, subst (λ (e : Ending). Steps limits at_start p r told.0 e) (tells_stopped limits p r fault h) (told_steps limits at_start p r told.0 told.1 tt refl))

-- the same events and the same end
pub one_run : (limits : Limits) (m : Machine) (p : ℕ) (r : List Bool) (events others : List Event) (ending other : Ending) → AreWide m.frames → Steps limits m p r events ending → Steps limits m p r others other → (events ≡ others) × (ending ≡ other)
one_run limits m p r events others ending other wide h k =
    let same = sym (steps_come limits m p r events ending wide h) ∙ steps_come limits m p r others other wide k in
    (ap (λ (told : Told). told.0) same, ap (λ (told : Told). told.1) same)

accepted_is : (p q : ℕ) → accepted p ≡ accepted q → p ≡ q
accepted_is p q e = cc

broke_is : (f g : Fault) → broke f ≡ broke g → f ≡ g
broke_is f g e = cc

no_other_end : (p : ℕ) (fault : Fault) → accepted p ≡ broke fault → ⊥
no_other_end p fault e = absurd cc

-- the events of a stream that is accepted are those of its blocks
pub steps_spelled : (limits : Limits) (p : ℕ) (r : List Bool) (events : List Event) (q : ℕ) → Steps limits at_start p r events (accepted q)
    → (v : List Item × ℕ) × SpellsAll (top_blocks limits) p r v × (events ≡ flat (marks_of v.0) []) × (q ≡ v.1)
steps_spelled limits p r events q h =
    elim (decides_all (top_blocks limits) p r) [
      | inl found ↦
          let same = one_run limits at_start p r events (flat (marks_of found.0.0) []) (accepted q) (accepted found.0.1) tt h (spelled_steps limits p r found.0 found.1) in
          (found.0, found.1, same.0, accepted_is q found.0.1 same.1)
      | inr stopped ↦
          let other = stopped_steps limits p r stopped.0 stopped.1 in
          absurd (no_other_end q stopped.0 (one_run limits at_start p r events other.0 (accepted q) (broke stopped.0) tt h other.1).1)
    ]

-- a stream whose steps break breaks with the same fault
pub steps_stopped : (limits : Limits) (p : ℕ) (r : List Bool) (events : List Event) (fault : Fault) → Steps limits at_start p r events (broke fault) → StopsAll (top_blocks limits) p r fault
steps_stopped limits p r events fault h =
    elim (decides_all (top_blocks limits) p r) [
      | inl found ↦ absurd (no_other_end found.0.1 fault (one_run limits at_start p r (flat (marks_of found.0.0) []) events (accepted found.0.1) (broke fault) tt (spelled_steps limits p r found.0 found.1) h).1)
      | inr stopped ↦
          let other = stopped_steps limits p r stopped.0 stopped.1 in
          let same = one_run limits at_start p r other.0 events (broke stopped.0) (broke fault) tt other.1 h in
          subst (StopsAll (top_blocks limits) p r) (broke_is stopped.0 fault same.1) stopped.1
    ]

-- ---- both ways

pub steps_told : (limits : Limits) (m : Machine) (p : ℕ) (r : List Bool) (events : List Event) (ending : Ending) → AreWide m.frames → (Steps limits m p r events ending ↔ (to_come limits m p r ≡ (events, ending)))
steps_told limits m p r events ending wide = (steps_come limits m p r events ending wide, told_steps limits m p r events ending wide)

pub accepted_steps : (limits : Limits) (p : ℕ) (r : List Bool) (events : List Event) (q : ℕ) → (Steps limits at_start p r events (accepted q) ↔ ((v : List Item × ℕ) × SpellsAll (top_blocks limits) p r v × (events ≡ flat (marks_of v.0) []) × (q ≡ v.1)))
accepted_steps limits p r events q = (steps_spelled limits p r events q, λ h. subst (λ (e : List Event). Steps limits at_start p r e (accepted q)) (sym h.2) (subst (λ (n : ℕ). Steps limits at_start p r (flat (marks_of h.0.0) []) (accepted n)) (sym h.3) (spelled_steps limits p r h.0 h.1)))

pub broken_steps : (limits : Limits) (p : ℕ) (r : List Bool) (fault : Fault) → (StopsAll (top_blocks limits) p r fault ↔ ((events : List Event) × Steps limits at_start p r events (broke fault)))
broken_steps limits p r fault = (stopped_steps limits p r fault, λ h. steps_stopped limits p r h.0 fault h.1)

-- with widths for its open blocks a machine takes bits with each step, and the next one has widths too
pub step_on : (limits : Limits) (m new : Machine) (p : ℕ) (s : List Bool) (event : Event) → AreWide m.frames → Spells (step limits m) p s (event, new) → (0 < length s) × AreWide new.frames
step_on limits m new p s event wide h = (step_takes limits m.frames m.handed p s (event, new) wide h, step_wide limits m.frames m.handed p s (event, new) wide h)

-- ---- some steps, and those after them

pub steps_after : (limits : Limits) (m new : Machine) (p : ℕ) (s r : List Bool) (events others : List Event) (ending : Ending) → Leads limits m p s events new → Steps limits new (p + length s) r others ending → Steps limits m p (s ++ r) (events ++ others) ending
steps_after limits m new p s r [] others ending (empty, same) h =
    let place : p + length s ≡ p = omega (arith, ap length empty) in
    subst (λ (t : List Bool). Steps limits m p (t ++ r) others ending) (sym empty) (subst (λ (n : ℕ). Steps limits m n r others ending) place (subst (λ (x : Machine). Steps limits x (p + length s) r others ending) same h))
steps_after limits m new p s r (event ∷ events) others ending k h =
    let parts : s ++ r ≡ k.0 ++ (k.1 ++ r) = ap (λ (t : List Bool). t ++ r) k.3 ∙ append_assoc k.0 k.1 r in
    let place : p + length s ≡ p + length k.0 + length k.1 = omega (arith, ap length k.3, length-append k.0 k.1) in
    (k.0, k.1 ++ r, k.2, parts, k.4, k.5, steps_after limits k.2 new (p + length k.0) k.1 r events others ending k.6 (subst (λ (n : ℕ). Steps limits new n r others ending) place h))

-- the machine after the first events, and the bits before and after that
abbrev pub Parted : Limits → Machine → ℕ → List Bool → List Event → List Event → Ending → Type 0
Parted limits m p r events others ending = (first rest : List Bool) × (new : Machine) × (r ≡ first ++ rest) × Leads limits m p first events new × Steps limits new (p + length first) rest others ending

pub steps_parted : (limits : Limits) (m : Machine) (p : ℕ) (r : List Bool) (events others : List Event) (ending : Ending) → Steps limits m p r (events ++ others) ending → Parted limits m p r events others ending
steps_parted limits m p r [] others ending h = ([], r, m, refl, (refl, refl), subst (λ (n : ℕ). Steps limits m n r others ending) (omega arith) h)
steps_parted limits m p r (event ∷ events) others ending h =
    let more = steps_parted limits h.2 (p + length h.0) h.1 events others ending h.6 in
    let parts : r ≡ (h.0 ++ more.0) ++ more.1 = h.3 ∙ ap (λ (t : List Bool). h.0 ++ t) more.3 ∙ sym (append_assoc h.0 more.0 more.1) in
    let place : p + length h.0 + length more.0 ≡ p + length (h.0 ++ more.0) = omega (arith, length-append h.0 more.0) in
    (h.0 ++ more.0, more.1, more.2, parts, (h.0, more.0, h.2, refl, h.4, h.5, more.4), subst (λ (n : ℕ). Steps limits more.2 n more.1 others ending) place more.5)

pub steps_in_parts : (limits : Limits) (m : Machine) (p : ℕ) (r : List Bool) (events others : List Event) (ending : Ending) → (Steps limits m p r (events ++ others) ending ↔ Parted limits m p r events others ending)
steps_in_parts limits m p r events others ending = (
  steps_parted limits m p r events others ending,
  λ h. subst (λ (t : List Bool). Steps limits m p t (events ++ others) ending) (sym h.3) (steps_after limits m h.2 p h.0 h.1 events others ending h.4 h.5),
)

pub leads_on : (limits : Limits) (m new : Machine) (p : ℕ) (s : List Bool) (events : List Event) → AreWide m.frames → Leads limits m p s events new → AreWide new.frames
leads_on limits m new p s [] wide h = subst (λ (x : Machine). AreWide x.frames) (sym h.1) wide
leads_on limits m new p s (event ∷ events) wide h = leads_on limits h.2 new (p + length h.0) h.1 events (step_wide limits m.frames m.handed p h.0 (event, h.2) wide h.5) h.6
