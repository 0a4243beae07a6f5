use Rattle.std.proofs.Common.{◌≡◌, ◌+◌, ◌-◌, ℕ, List, [], Some, refl, sym, ap, ◌∙◌, subst, arith, length}
use Rattle.std.proofs.lemmas.Result.{err_from_is_err_and}
use Rattle.bit_events.specs.Gathering.{Gathers}
use Rattle.bit_events.specs.MachineView.{record_of}
use Rattle.bit_events.proofs.Runs.{gathers_none, gathers_more, passed_forward, stop_later, stop_record}
use Rattle.bit_events.proofs.running.gather_held.Goals as goal

pub loop-id-init : goal.loop-id-init
loop-id-init g c = record {
  gathers = gathers_none g.G.Gatherer.gathered c.args.limits.now c.args.frame.now c.args.used.now c.args.buffered c.args.gatherer.now;
  room = omega (arith, c.saturating_sub-room.ensures, c.values.ensures.values);
  first = c.position-first.ensures;
  took = c.requires.took;
  moved = λ is. absurd (cc);
}

pub held_item-found-requires-clause-took : goal.held_item-found-requires-clause-took
held_item-found-requires-clause-took g c = (let was = c.loop-id.invariant.took in ([], c.truncate.ensures [] was.0 was.1 refl))

pub returns-in_default-clause-took : goal.returns-in_default-clause-took
returns-in_default-clause-took g c = (let was = c.loop-id.invariant.took in c.held_item-found.ensures.keeps [] (c.truncate.ensures [] was.0 was.1 refl))

pub overflow_add-spent : goal.overflow_add-spent
overflow_add-spent g c =
    let l = c.loop-id in
    let read = c.in-Some.ensures.sees [] (c.truncate.ensures [] l.invariant.took.0 l.invariant.took.1 refl) in
    let list : List ℕ = read.2.0 in
    let taken = subst (g.G.Values.ValueTaker.took c.held_item-found.new.values) read.2.1 read.1 in
    omega (arith, c.count-count.ensures list taken, read.2.2.0, l.invariant.room, c.values.ensures.capped, l.auto.spent-fits)

pub returns-in_err-record-clause-took : goal.returns-in_err-record-clause-took
returns-in_err-record-clause-took g c =
    let read = c.in-Some.ensures.sees [] (c.truncate.ensures [] c.loop-id.invariant.took.0 c.loop-id.invariant.took.1 refl) in
    c.in_err-record.ensures.took (read.0, read.1)

pub loop-id-preserved : goal.loop-id-preserved
loop-id-preserved g c =
    let l = c.loop-id in
    let f = c.args.frame.now in
    let d = c.held_item-found.new.buffered in
    let id = c.in-Some.id in
    let code = c.in-Some.code in
    let h = l.gatherer in
    let read = c.in-Some.ensures.sees [] (c.truncate.ensures [] l.invariant.took.0 l.invariant.took.1 refl) in
    let list : List ℕ = read.2.0 in
    let taken = subst (g.G.Values.ValueTaker.took c.held_item-found.new.values) read.2.1 read.1 in
    let more : l.spent + c.count-count.result ≡ l.spent + length list = omega (arith, c.count-count.ensures list taken, read.2.2.0, c.values.ensures.capped, l.invariant.room) in
    let so = l.invariant.gathers in
    record {
      gathers = gathers_more g.G.Gatherer.gathered c.args.limits.now f c.args.used.now c.args.buffered c.args.gatherer.now l.spent l.buffered h id code list d c.record.new.self (l.spent + c.count-count.result) so more
          (λ outer handed same. read.2.2.1 c.args.limits.now outer handed (ap (λ (u : ℕ). c.args.limits.now.values - u) same ∙ sym l.invariant.room))
          (subst (λ (n : ℕ). Gathers g.G.Gatherer.gathered h (record_of id list l.buffered.position (code, n)) c.record.new.self) c.position-after.ensures (subst (λ (n : ℕ). Gathers g.G.Gatherer.gathered h (record_of id list n (code, c.position-after.result)) c.record.new.self) l.invariant.first (c.in_ok-record.ensures.gathers list taken)));
      room = omega (arith, c.saturating_sub-room-in-loop-id.ensures, l.invariant.room);
      first = c.position-after.ensures;
      took = c.in_ok-record.ensures.took (list, taken);
      moved = λ is. omega (arith, passed_forward c.args.buffered l.buffered so.passed, c.in-Some.ensures.moves, c.position-after.ensures);
    }

pub returns-in_err-record-clause-stops : goal.returns-in_err-record-clause-stops
returns-in_err-record-clause-stops g c =
    let l = c.loop-id in
    let f = c.args.frame.now in
    let d = c.held_item-found.new.buffered in
    let id = c.in-Some.id in
    let code = c.in-Some.code in
    let h = l.gatherer in
    let read = c.in-Some.ensures.sees [] (c.truncate.ensures [] l.invariant.took.0 l.invariant.took.1 refl) in
    let list : List ℕ = read.2.0 in
    let taken = subst (g.G.Values.ValueTaker.took c.held_item-found.new.values) read.2.1 read.1 in
    let p = err_from_is_err_and c.from_residual.result c.from_residual.ensures.1 in
    rw p.1 (stop_later g.G.Gatherer.gathered g.G.Gatherer.fails c.args.limits.now f c.args.used.now c.args.buffered c.args.gatherer.now l.spent l.buffered h c.record.new.self l.invariant.gathers
    (stop_record g.G.Gatherer.gathered g.G.Gatherer.fails c.args.limits.now f l.spent l.buffered h c.record.new.self id code list d
    (λ outer handed same. read.2.2.1 c.args.limits.now outer handed (ap (λ (u : ℕ). c.args.limits.now.values - u) same ∙ sym l.invariant.room))
    (subst (λ (n : ℕ). g.G.Gatherer.fails h (Some (record_of id list l.buffered.position (code, n))) c.record.new.self) c.position-after.ensures (subst (λ (n : ℕ). g.G.Gatherer.fails h (Some (record_of id list n (code, c.position-after.result))) c.record.new.self) l.invariant.first (c.in_err-record.ensures.fails list taken)))))
