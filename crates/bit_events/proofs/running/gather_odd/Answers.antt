use Rattle.std.proofs.Common.{◌≡◌, ◌≢◌, ℕ, ◌+◌, ◌-◌, List, [], Some, IfSome, refl, sym, ap, ◌∙◌, subst, arith, length, slice_get}
use Rattle.std.specs.Option.{option_copied}
use Rattle.std.proofs.lemmas.Result.{err_from_is_err_and}
use Rattle.bit_grammar.specs.Terms.{CodeAndValues}
use Rattle.bit_grammar.specs.Blocks.{entry}
use Rattle.bit_fields.specs.Buffered.{reader_at}
use Rattle.bit_fields.proofs.BufferedReads.{reads_forward, took_reads}
use Rattle.bit_events.specs.FrameView.{frame_shown, info_shown}
use Rattle.bit_events.specs.Gathering.{Gathers}
use Rattle.bit_events.specs.MachineView.{record_of}
use Rattle.bit_events.specs.Runs.{IsDefinition}
use Rattle.bit_events.proofs.Framing.{ready_or_missed}
use Rattle.bit_events.proofs.Runs.{added_behind, gathers_none, gathers_more, passed_forward, record_seen, stop_later, stop_record}
use Rattle.bit_events.proofs.running.gather_odd.Goals as goal

pub loop-is_first-init : goal.loop-is_first-init
loop-is_first-init g c = record {
  gathers = gathers_none g.G.Gatherer.gathered c.args.limits.now c.args.frame.now c.args.used.now c.args.buffered c.args.gatherer.now;
  room = omega (arith, c.saturating_sub-room.ensures, c.values.ensures.values);
  first = c.position-first.ensures;
  took = c.requires.took;
  moved = λ is. absurd (cc);
}

pub returns-in_default-clause-took : goal.returns-in_default-clause-took
returns-in_default-clause-took g c = (let was = c.loop-is_first.invariant.took in ([], c.truncate.ensures [] was.0 was.1 refl))

pub returns-then-may_pass-clause-took : goal.returns-then-may_pass-clause-took
returns-then-may_pass-clause-took g c = (let was = c.loop-is_first.invariant.took in ([], c.truncate.ensures [] was.0 was.1 refl))

pub returns-in_default-read_entry-clause-took : goal.returns-in_default-read_entry-clause-took
returns-in_default-read_entry-clause-took g c = (let was = c.loop-is_first.invariant.took in c.in_default-read_entry.ensures.keeps [] (c.truncate.ensures [] was.0 was.1 refl))

pub overflow_add-spent : goal.overflow_add-spent
overflow_add-spent g c =
    let l = c.loop-is_first in
    let f = c.args.frame.now in
    let b = c.record_id.new.buffered in
    let is : IfSome c.get-abbrev.result (λ one. slice_get c.all-definitions.result (c.in-Some.id - 4) ≡ Some one.now) = rw c.saturating_sub.ensures at c.get-abbrev.ensures in
    let known : c.in-Some.id ≢ 3 → IsDefinition _ c.all-definitions.result c.in-Some.id (option_copied c.get-abbrev.result) = λ other. ready_or_missed _ c.all-definitions.result c.in-Some.id c.get-abbrev.result is in
    let added = rw (c.all-definitions.ensures, l.invariant.first) at (c.in-Ok.ensures.adds c.all-definitions.result known [] (c.truncate.ensures [] l.invariant.took.0 l.invariant.took.1 refl)) in
    let read = added_behind (entry l.room l.buffered.position c.in-Some.id f.definitions.all) l.room (reader_at b) c.in-Ok.code (reader_at c.read_entry.new.bits) [] added.0 added.2 in
    let taken = subst (g.G.Values.ValueTaker.took c.read_entry.new.values) read.1 added.1 in
    omega (arith, c.count-count.ensures read.0 taken, read.2.0, l.invariant.room, c.values.ensures.capped, l.auto.spent-fits)

pub returns-in_err-record-clause-took : goal.returns-in_err-record-clause-took
returns-in_err-record-clause-took g c =
    let is : IfSome c.get-abbrev.result (λ one. slice_get c.all-definitions.result (c.in-Some.id - 4) ≡ Some one.now) = rw c.saturating_sub.ensures at c.get-abbrev.ensures in
    let known : c.in-Some.id ≢ 3 → IsDefinition _ c.all-definitions.result c.in-Some.id (option_copied c.get-abbrev.result) = λ other. ready_or_missed _ c.all-definitions.result c.in-Some.id c.get-abbrev.result is in
    let added = c.in-Ok.ensures.adds c.all-definitions.result known [] (c.truncate.ensures [] c.loop-is_first.invariant.took.0 c.loop-is_first.invariant.took.1 refl) in
    c.in_err-record.ensures.took (added.0, added.1)

pub loop-is_first-smaller : goal.loop-is_first-smaller
loop-is_first-smaller g c =
    let l = c.loop-is_first in
    let f = c.args.frame.now in
    let b = c.record_id.new.buffered in
    let d = c.read_entry.new.bits in
    let is : IfSome c.get-abbrev.result (λ one. slice_get c.all-definitions.result (c.in-Some.id - 4) ≡ Some one.now) = rw c.saturating_sub.ensures at c.get-abbrev.ensures in
    let known : c.in-Some.id ≢ 3 → IsDefinition _ c.all-definitions.result c.in-Some.id (option_copied c.get-abbrev.result) = λ other. ready_or_missed _ c.all-definitions.result c.in-Some.id c.get-abbrev.result is in
    let added = rw (c.all-definitions.ensures, l.invariant.first) at (c.in-Ok.ensures.adds c.all-definitions.result known [] (c.truncate.ensures [] l.invariant.took.0 l.invariant.took.1 refl)) in
    let read = added_behind (entry l.room l.buffered.position c.in-Some.id f.definitions.all) l.room (reader_at b) c.in-Ok.code (reader_at d) [] added.0 added.2 in
    let value : CodeAndValues = record { code = c.in-Ok.code; values = read.0 } in
    let rule = entry l.room l.buffered.position c.in-Some.id f.definitions.all in
    let forward = reads_forward rule b value d (took_reads rule b value d read.2.1) in
    omega (arith, c.position-after.ensures, l.invariant.first, c.in-Some.ensures.moves, forward)

pub loop-is_first-preserved : goal.loop-is_first-preserved
loop-is_first-preserved g c =
    let l = c.loop-is_first in
    let f = c.args.frame.now in
    let b = c.record_id.new.buffered in
    let d = c.read_entry.new.bits in
    let id = c.in-Some.id in
    let code = c.in-Ok.code in
    let h = l.gatherer in
    let rule = entry l.room l.buffered.position id f.definitions.all in
    let is : IfSome c.get-abbrev.result (λ one. slice_get c.all-definitions.result (c.in-Some.id - 4) ≡ Some one.now) = rw c.saturating_sub.ensures at c.get-abbrev.ensures in
    let known : c.in-Some.id ≢ 3 → IsDefinition _ c.all-definitions.result c.in-Some.id (option_copied c.get-abbrev.result) = λ other. ready_or_missed _ c.all-definitions.result c.in-Some.id c.get-abbrev.result is in
    let added = rw (c.all-definitions.ensures, l.invariant.first) at (c.in-Ok.ensures.adds c.all-definitions.result known [] (c.truncate.ensures [] l.invariant.took.0 l.invariant.took.1 refl)) in
    let read = added_behind rule l.room (reader_at b) code (reader_at d) [] added.0 added.2 in
    let list : List ℕ = read.0 in
    let value : CodeAndValues = record { code = code; values = list } in
    let forward = reads_forward rule b value d (took_reads rule b value d read.2.1) in
    let taken = subst (g.G.Values.ValueTaker.took c.read_entry.new.values) read.1 added.1 in
    let more : l.spent + c.count-count.result ≡ l.spent + length list = omega (arith, c.count-count.ensures list taken, read.2.0, c.values.ensures.capped, l.invariant.room) in
    let so = l.invariant.gathers in
    record {
      gathers = gathers_more g.G.Gatherer.gathered c.args.limits.now f c.args.used.now c.args.buffered c.args.gatherer.now l.spent l.buffered h id code list d c.record.new.self (l.spent + c.count-count.result) so more
          (λ outer handed same.
          let room = ap (λ (u : ℕ). c.args.limits.now.values - u) same ∙ sym l.invariant.room in
          record_seen c.args.limits.now (frame_shown f) outer handed id code list l.buffered b d (ap info_shown c.requires.plain) c.in-Some.ensures.three c.in-Some.ensures.reads (rw room read.2.1))
          (subst (λ (n : ℕ). Gathers g.G.Gatherer.gathered h (record_of id list l.buffered.position (code, n)) c.record.new.self) c.position-after.ensures (subst (λ (n : ℕ). Gathers g.G.Gatherer.gathered h (record_of id list n (code, c.position-after.result)) c.record.new.self) l.invariant.first (c.in_ok-record.ensures.gathers list taken)));
      room = omega (arith, c.saturating_sub-room-in-loop-is_first.ensures, l.invariant.room);
      first = c.position-after.ensures;
      took = c.in_ok-record.ensures.took (list, taken);
      moved = λ is. omega (arith, passed_forward c.args.buffered l.buffered so.passed, c.in-Some.ensures.moves, forward, c.position-after.ensures);
    }

pub returns-in_err-record-clause-stops : goal.returns-in_err-record-clause-stops
returns-in_err-record-clause-stops g c =
    let l = c.loop-is_first in
    let f = c.args.frame.now in
    let b = c.record_id.new.buffered in
    let d = c.read_entry.new.bits in
    let id = c.in-Some.id in
    let code = c.in-Ok.code in
    let h = l.gatherer in
    let is : IfSome c.get-abbrev.result (λ one. slice_get c.all-definitions.result (c.in-Some.id - 4) ≡ Some one.now) = rw c.saturating_sub.ensures at c.get-abbrev.ensures in
    let known : c.in-Some.id ≢ 3 → IsDefinition _ c.all-definitions.result c.in-Some.id (option_copied c.get-abbrev.result) = λ other. ready_or_missed _ c.all-definitions.result c.in-Some.id c.get-abbrev.result is in
    let added = rw (c.all-definitions.ensures, l.invariant.first) at (c.in-Ok.ensures.adds c.all-definitions.result known [] (c.truncate.ensures [] l.invariant.took.0 l.invariant.took.1 refl)) in
    let read = added_behind (entry l.room l.buffered.position id f.definitions.all) l.room (reader_at b) code (reader_at d) [] added.0 added.2 in
    let list : List ℕ = read.0 in
    let taken = subst (g.G.Values.ValueTaker.took c.read_entry.new.values) read.1 added.1 in
    let p = err_from_is_err_and c.from_residual.result c.from_residual.ensures.1 in
    rw p.1 (stop_later g.G.Gatherer.gathered g.G.Gatherer.fails c.args.limits.now f c.args.used.now c.args.buffered c.args.gatherer.now l.spent l.buffered h c.record.new.self l.invariant.gathers
    (stop_record g.G.Gatherer.gathered g.G.Gatherer.fails c.args.limits.now f l.spent l.buffered h c.record.new.self id code list d
    (λ outer handed same.
    let room = ap (λ (u : ℕ). c.args.limits.now.values - u) same ∙ sym l.invariant.room in
    record_seen c.args.limits.now (frame_shown f) outer handed id code list l.buffered b d (ap info_shown c.requires.plain) c.in-Some.ensures.three c.in-Some.ensures.reads (rw room read.2.1))
    (subst (λ (n : ℕ). g.G.Gatherer.fails h (Some (record_of id list l.buffered.position (code, n))) c.record.new.self) c.position-after.ensures (subst (λ (n : ℕ). g.G.Gatherer.fails h (Some (record_of id list n (code, c.position-after.result))) c.record.new.self) l.invariant.first (c.in_err-record.ensures.fails list taken)))))
