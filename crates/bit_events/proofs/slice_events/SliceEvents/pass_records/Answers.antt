use Rattle.std.proofs.Common.{◌≡◌, ℕ, ◌+◌, ◌-◌, ◌≤◌, ◌∷◌, [], length, map, take, sym, ap, subst, ◌∙◌, arith, ltb-true}
use Rattle.bit_grammar.specs.Machine.{notes}
use Rattle.bit_fields.specs.Buffered.{BufferedBits, Sees, beyond}
use Rattle.bit_fields.specs.PlacedView.{placed}
use Rattle.bit_events.specs.FrameView.{frame_shown, frames_onto, frames_shown}
use Rattle.bit_events.proofs.PassedEvents.{run_given, run_passes, run_seen, run_there}
use Rattle.bit_events.proofs.Stepping.{frames-some}
use Rattle.bit_events.proofs.slice_events.SliceEvents.pass_records.Goals as goal

pub overflow_sub-run : goal.overflow_sub-run
overflow_sub-run c =
    let s = c.self.inside in
    let from = c.new-buffered.result in
    let f = c.in-Some.frame.now in
    let first = c.position-first.result in
    let here : placed c.in-Some-new.bits ≡ beyond from (first - from.position) = subst (λ (x : BufferedBits). placed c.in-Some-new.bits ≡ beyond x (first - x.position)) (sym c.new-buffered.ensures) c.in-Some-new.ensures.1 in
    let passed = c.in-Ok.ensures.passes in
    let left : s.limits.values - s.machine.used ≡ c.saturating_sub-room.result = omega (arith, c.saturating_sub-room.ensures, c.values.ensures.values) in
    let run = run_given s.limits f s.machine.used from (placed c.in-Some-new.bits) c.from-width.result c.saturating_sub-room.result first passed.0 c.in-Ok.run' c.from-width.ensures (sym c.is_some.ensures ∙ c.if-is_some.false) left here passed.2 in
    let there : first - from.position ≤ length from.bits = omega (arith, c.len.ensures, c.position-start.ensures) in
    let sees = subst (λ (x : BufferedBits). Sees s.reader x) (sym c.new-buffered.ensures) c.parts_in_slice-parts.ensures.sees in
    let live = sym c.is_live.ensures ∙ c.if-not-is_live.false in
    let now_used : ℕ = s.machine.used + (c.saturating_sub-room.result - c.in-Ok.run'.room) in
    let end = run_there s.limits f s.machine.used first from now_used c.in-Ok.run'.after (map notes passed.0) (omega (arith, sees.position, c.position-first.ensures, c.self.invariant.behind live)) there run in
    omega (arith, end.0, sees.position, c.position-start.ensures, c.position-first.ensures, c.self.invariant.behind live)

pub skip-requires : goal.skip-requires
skip-requires c =
    let s = c.self.inside in
    let from = c.new-buffered.result in
    let f = c.in-Some.frame.now in
    let first = c.position-first.result in
    let here : placed c.in-Some-new.bits ≡ beyond from (first - from.position) = subst (λ (x : BufferedBits). placed c.in-Some-new.bits ≡ beyond x (first - x.position)) (sym c.new-buffered.ensures) c.in-Some-new.ensures.1 in
    let passed = c.in-Ok.ensures.passes in
    let left : s.limits.values - s.machine.used ≡ c.saturating_sub-room.result = omega (arith, c.saturating_sub-room.ensures, c.values.ensures.values) in
    let run = run_given s.limits f s.machine.used from (placed c.in-Some-new.bits) c.from-width.result c.saturating_sub-room.result first passed.0 c.in-Ok.run' c.from-width.ensures (sym c.is_some.ensures ∙ c.if-is_some.false) left here passed.2 in
    let there : first - from.position ≤ length from.bits = omega (arith, c.len.ensures, c.position-start.ensures) in
    let sees = subst (λ (x : BufferedBits). Sees s.reader x) (sym c.new-buffered.ensures) c.parts_in_slice-parts.ensures.sees in
    let live = sym c.is_live.ensures ∙ c.if-not-is_live.false in
    let now_used : ℕ = s.machine.used + (c.saturating_sub-room.result - c.in-Ok.run'.room) in
    let end = run_there s.limits f s.machine.used first from now_used c.in-Ok.run'.after (map notes passed.0) (omega (arith, sees.position, c.position-first.ensures, c.self.invariant.behind live)) there run in
    omega (arith, end.1, c.position-start.ensures)

pub invariant_of-self : goal.invariant_of-self
invariant_of-self c =
    let s = c.self.inside in
    let from = c.new-buffered.result in
    let f = c.in-Some.frame.now in
    let first = c.position-first.result in
    let here : placed c.in-Some-new.bits ≡ beyond from (first - from.position) = subst (λ (x : BufferedBits). placed c.in-Some-new.bits ≡ beyond x (first - x.position)) (sym c.new-buffered.ensures) c.in-Some-new.ensures.1 in
    let passed = c.in-Ok.ensures.passes in
    let left : s.limits.values - s.machine.used ≡ c.saturating_sub-room.result = omega (arith, c.saturating_sub-room.ensures, c.values.ensures.values) in
    let run = run_given s.limits f s.machine.used from (placed c.in-Some-new.bits) c.from-width.result c.saturating_sub-room.result first passed.0 c.in-Ok.run' c.from-width.ensures (sym c.is_some.ensures ∙ c.if-is_some.false) left here passed.2 in
    let there : first - from.position ≤ length from.bits = omega (arith, c.len.ensures, c.position-start.ensures) in
    let sees = subst (λ (x : BufferedBits). Sees s.reader x) (sym c.new-buffered.ensures) c.parts_in_slice-parts.ensures.sees in
    let live = sym c.is_live.ensures ∙ c.if-not-is_live.false in
    let now_used : ℕ = s.machine.used + (c.saturating_sub-room.result - c.in-Ok.run'.room) in
    let frames = s.machine.frames.items in
    let k = length frames - 1 in
    let items = rw c.deref.ensures.value at c.in-Some.ensures.item in
    let split : frames_shown frames ≡ frame_shown f ∷ frames_onto (take k frames) [] = frames-some frames k f (omega (arith, s.machine.frames.ok.0, ltb-true 0 (length frames) (sym items.0))) items.1 in
    let now : c.skip.new.self ≡ beyond from (c.in-Ok.run'.after - from.position) = c.skip.ensures.skipped ∙ ap (λ (n : ℕ). beyond from (c.in-Ok.run'.after - n)) c.position-start.ensures in
    rw (c.forget.ensures, now) (run_seen s.limits s.machine f (frames_onto (take k frames) []) s.reader s.buffered from now_used c.in-Ok.run'.after (map notes passed.0) live split c.self.invariant sees (rw (← c.position-first.ensures) there) (rw (← c.position-first.ensures) run))

pub returns-clause-passes : goal.returns-clause-passes
returns-clause-passes c =
    let s = c.self.inside in
    let from = c.new-buffered.result in
    let f = c.in-Some.frame.now in
    let first = c.position-first.result in
    let here : placed c.in-Some-new.bits ≡ beyond from (first - from.position) = subst (λ (x : BufferedBits). placed c.in-Some-new.bits ≡ beyond x (first - x.position)) (sym c.new-buffered.ensures) c.in-Some-new.ensures.1 in
    let passed = c.in-Ok.ensures.passes in
    let left : s.limits.values - s.machine.used ≡ c.saturating_sub-room.result = omega (arith, c.saturating_sub-room.ensures, c.values.ensures.values) in
    let run = run_given s.limits f s.machine.used from (placed c.in-Some-new.bits) c.from-width.result c.saturating_sub-room.result first passed.0 c.in-Ok.run' c.from-width.ensures (sym c.is_some.ensures ∙ c.if-is_some.false) left here passed.2 in
    let there : first - from.position ≤ length from.bits = omega (arith, c.len.ensures, c.position-start.ensures) in
    let sees = subst (λ (x : BufferedBits). Sees s.reader x) (sym c.new-buffered.ensures) c.parts_in_slice-parts.ensures.sees in
    let live = sym c.is_live.ensures ∙ c.if-not-is_live.false in
    let now_used : ℕ = s.machine.used + (c.saturating_sub-room.result - c.in-Ok.run'.room) in
    let frames = s.machine.frames.items in
    let k = length frames - 1 in
    let items = rw c.deref.ensures.value at c.in-Some.ensures.item in
    let split : frames_shown frames ≡ frame_shown f ∷ frames_onto (take k frames) [] = frames-some frames k f (omega (arith, s.machine.frames.ok.0, ltb-true 0 (length frames) (sym items.0))) items.1 in
    let now : c.skip.new.self ≡ beyond from (c.in-Ok.run'.after - from.position) = c.skip.ensures.skipped ∙ ap (λ (n : ℕ). beyond from (c.in-Ok.run'.after - n)) c.position-start.ensures in
    rw (← c.self.view_is, now) (run_passes s.over s.limits s.head s.machine f (frames_onto (take k frames) []) s.values.taker c.forget.new.values.taker c.forget.new.found s.reader s.buffered from now_used c.in-Ok.run'.after passed.0 (c.args.most - c.pass_records.new.counter.left) (omega (arith, passed.1)) live split c.self.invariant sees (rw (← c.position-first.ensures) there) (rw (← c.position-first.ensures) run))
