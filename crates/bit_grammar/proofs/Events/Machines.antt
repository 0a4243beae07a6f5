-- The machine's steps take bits, so that the remaining events are found step by step.
use Rattle.std.proofs.Common.{◌≡◌, ℕ, zero, suc, ◌<◌, ◌≤◌, Bool, false, List, [], ◌∷◌, length, Result, Ok, Err, refl, sym, ap, subst, arith, inl, inr}
use Rattle.std.proofs.lemmas.List.{length-append}
use Rattle.bit_grammar.specs.Grammar.{Fault, Spells, reading}
use Rattle.bit_grammar.specs.Blocks.{Limits, Handed, Scope, BlockHead}
use Rattle.bit_grammar.specs.Machine.{Event, Frame, Machine, frame_of, scope_of, open_block, open_nested, step_after, step_in, step_top, step_of, step, Told, is_done, unless_done, told_of_step, told_at, to_come}
use Rattle.bit_grammar.specs.Steps.{AreWide}
use Rattle.bit_grammar.proofs.Readings.Deciding.{is_spelled}
use Rattle.bit_grammar.proofs.Words.Fields.{fixed_is}
use Rattle.bit_grammar.proofs.Readings.Items.{head_width}

open_wide : (limits : Limits) (frames : List Frame) (first : ℕ) (handed : Handed) (p : ℕ) (s : List Bool) (v : Event × Machine) → AreWide frames → Spells (open_block limits frames first handed) p s v → AreWide v.1.frames
unfolding open_block
open_wide limits frames first handed p s v wide k =
    let h = k.5 in
    subst (λ (w : Event × Machine). AreWide w.1.frames) (sym h.5.1) (head_width _ h.0 h.2 h.4, wide)

after_wide : (limits : Limits) (h : BlockHead) (frames : List Frame) (first : ℕ) (scope : Scope) (id p : ℕ) (s : List Bool) (v : Event × Machine) → 1 ≤ h.width → AreWide frames → Spells (step_after limits h frames first scope id) p s v → AreWide v.1.frames
unfolding step_after open_nested
after_wide limits h frames first scope id p s v one wide (inl k) = subst (λ (w : Event × Machine). AreWide w.1.frames) (sym k.1.5.1) wide
after_wide limits h frames first scope id p s v one wide (inr (e, inl k)) = open_wide limits (frame_of h scope ∷ frames) first scope.handed _ k.1.1 v (one, wide) k.1.5
after_wide limits h frames first scope id p s v one wide (inr (e, inr (e', inl k))) = subst (λ (w : Event × Machine). AreWide w.1.frames) (sym k.1.5.1) (one, wide)
after_wide limits h frames first scope id p s v one wide (inr (e, inr (e', inr k))) = subst (λ (w : Event × Machine). AreWide w.1.frames) (sym k.1.5.1) (one, wide)

pub step_wide : (limits : Limits) (frames : List Frame) (handed : Handed) (p : ℕ) (s : List Bool) (v : Event × Machine) → AreWide frames → Spells (step_of limits frames handed) p s v → AreWide v.1.frames
unfolding step_in step_top
step_wide limits [] handed p s v wide k = open_wide limits [] k.2 handed _ k.5.5.1 v tt k.5.5.5
step_wide limits (f ∷ frames) handed p s v wide k = after_wide limits f.head frames k.2 (scope_of f handed) k.5.2 _ k.5.1 v wide.0 wide.1 k.5.5

pub step_takes : (limits : Limits) (frames : List Frame) (handed : Handed) (p : ℕ) (s : List Bool) (v : Event × Machine) → AreWide frames → Spells (step_of limits frames handed) p s v → 0 < length s
unfolding step_in step_top
step_takes limits [] handed p s v wide k =
    let i = k.5 in
    let id = fixed_is 2 _ i.0 i.2 i.4 in
    omega (arith, ap length k.3, length-append k.0 k.1, ap length i.3, length-append i.0 i.1, id.length)
step_takes limits (f ∷ frames) handed p s v wide k =
    let i = k.5 in
    let id = fixed_is f.head.width _ i.0 i.2 i.4 in
    omega (arith, wide.0, ap length k.3, length-append k.0 k.1, ap length i.3, length-append i.0 i.1, id.length)

pub record Stepped (r : List Bool) (x : (Event × Machine) × ℕ × List Bool) : Type 0 where
  pub wide : AreWide x.0.1.frames
  pub shorter : length x.2 < length r

pub stepped : (limits : Limits) (m : Machine) (p : ℕ) (r : List Bool) (x : (Event × Machine) × ℕ × List Bool) → AreWide m.frames → reading (step limits m) p r ≡ Ok x → Stepped r x
stepped limits m p r x wide e =
    let f = is_spelled (step limits m) p r x.0 x.1 x.2 e in
    record {
      wide = step_wide limits m.frames m.handed p f.0 x.0 wide f.3;
      shorter = omega (arith, step_takes limits m.frames m.handed p f.0 x.0 wide f.3, ap length f.1, length-append f.0 x.2);
    }

-- ---- the remaining events, whatever bounds them

abbrev pub Step : Type 0
Step = Result ((Event × Machine) × ℕ × List Bool) Fault

abbrev pub one_before : Event → Told → Told
one_before event told = (event ∷ told.0, told.1)

enough : (limits : Limits) (n k : ℕ) (m : Machine) (p : ℕ) (r : List Bool) → AreWide m.frames → length r < n → length r < k → told_at limits n m p r ≡ told_at limits k m p r
enough limits zero k m p r wide a b = absurd (omega (arith, a))
enough limits (suc n) zero m p r wide a b = absurd (omega (arith, b))
enough limits (suc n) (suc k) m p r wide a b = ap (unless_done (is_done m.frames r) p) (go (reading (step limits m) p r) refl (λ x s. enough limits n k x.0.1 x.1 x.2 s.wide (omega (arith, a, s.shorter)) (omega (arith, b, s.shorter))))
  where
    go : (read : Step) → reading (step limits m) p r ≡ read → ((x : (Event × Machine) × ℕ × List Bool) → Stepped r x → told_at limits n x.0.1 x.1 x.2 ≡ told_at limits k x.0.1 x.1 x.2) → told_of_step (told_at limits n) read ≡ told_of_step (told_at limits k) read
    go (Ok x) e more = ap (one_before x.0.0) (more x (stepped limits m p r x wide e))
    go (Err fault) e more = refl

pub comes : (limits : Limits) (m : Machine) (p : ℕ) (r : List Bool) → AreWide m.frames → is_done m.frames r ≡ false → to_come limits m p r ≡ told_of_step (to_come limits) (reading (step limits m) p r)
unfolding to_come
comes limits m p r wide more = rw more (go (reading (step limits m) p r) refl)
  where
    go : (read : Step) → reading (step limits m) p r ≡ read → told_of_step (told_at limits (length r)) read ≡ told_of_step (to_come limits) read
    go (Ok x) e = (let s = stepped limits m p r x wide e in ap (one_before x.0.0) (enough limits (length r) (suc (length x.2)) x.0.1 x.1 x.2 s.wide s.shorter (omega arith)))
    go (Err fault) e = refl
