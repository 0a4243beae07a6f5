use Rattle.std.proofs.Common.{◌≡◌, ◌-◌, ◌+◌, ℕ, List, [], ◌∷◌, length, take, sym, ap, arith}
use Rattle.std.proofs.lemmas.Bool.{ltb-true}
use Rattle.bit_grammar.specs.Machine as machine
use Rattle.bit_grammar.specs.Machine.{Event, step}
use Rattle.bit_events.specs.FrameView.{frame_shown, frames_onto, frames_shown}
use Rattle.bit_events.specs.MachineView.{handed_shown}
use Rattle.bit_events.proofs.InSlices.{counted_behind}
use Rattle.bit_events.proofs.Stepping.{frames-some}
use Rattle.bit_events.proofs.machine.Machine.buffered_step.Goals as goal

pub overflow_add-self : goal.overflow_add-self
overflow_add-self g c =
    let was = c.requires.took in
    let h = c.in_ok-abbrev.ensures.sees was.0 was.1 in
    let many = counted_behind was.0 h.0 h.2.0 c.count-before.result c.count.result (c.count-before.ensures was.0 was.1) (c.count.ensures h.0 h.1) h.2.1 (omega (arith, c.if-before-gt-MOST_BEFORE.false)) (omega (arith, h.2.2.0, c.room-room.ensures.capped, c.room-room.ensures.room)) in
    omega (arith, many, h.2.2.0, c.room-room.ensures.capped, c.room-room.ensures.room, c.room-room.ensures.used)

pub returns-clause-reads : goal.returns-clause-reads
returns-clause-reads g c = λ before was.
    let m = c.args.self.now in
    let k = length m.frames.items - 1 in
    let f = c.in-Some.frame.now in
    let h = c.in_ok-abbrev.ensures.sees before was in
    let list : List ℕ = h.2.0 in
    let used : ℕ = m.used + (c.count.result - c.count-before.result) in
    let outer : List machine.Frame = frames_onto (take k m.frames.items) [] in
    let many : used ≡ m.used + length list = ap (λ (n : ℕ). m.used + n) (counted_behind before h.0 list c.count-before.result c.count.result (c.count-before.ensures before was) (c.count.ensures h.0 h.1) h.2.1 (omega (arith, c.if-before-gt-MOST_BEFORE.false)) (omega (arith, h.2.2.0, c.room-room.ensures.capped, c.room-room.ensures.room))) in
    let split : frames_shown m.frames.items ≡ frame_shown f ∷ outer = frames-some m.frames.items k f (omega (arith, m.frames.ok.0, ltb-true 0 (length m.frames.items) (sym (rw c.deref.ensures.value at c.in-Some.ensures.item.0)))) (rw c.deref.ensures.value at c.in-Some.ensures.item.1) in
    let same : c.args.limits.now.values - m.used ≡ c.room-room.result = sym c.room-room.ensures.room in
    (h.0, h.1, (list, h.2.1, rw (split, many, c.position-first.ensures, c.position-after.ensures) (h.2.2.1 c.args.limits.now outer (handed_shown m) same)))
