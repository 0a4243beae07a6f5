use Rattle.std.proofs.Common.{◌≡◌, ◌≢◌, ◌-◌, Some, IfSome, slice_get, ap, arith}
use Rattle.std.specs.Option.{option_copied}
use Rattle.bit_grammar.specs.Blocks.{entry}
use Rattle.bit_fields.specs.Buffered.{reader_at}
use Rattle.bit_events.specs.FrameView.{frame_shown, info_shown}
use Rattle.bit_events.specs.Runs.{IsDefinition}
use Rattle.bit_events.proofs.Framing.{ready_or_missed}
use Rattle.bit_events.proofs.Runs.{added_behind, record_seen}
use Rattle.bit_events.proofs.running.buffered_item.Goals as goal

pub returns-in-Ok-clause-sees : goal.returns-in-Ok-clause-sees
returns-in-Ok-clause-sees g c = λ before was.
    let f = c.args.frame.now in
    let a = c.args.buffered.now in
    let b = c.read_entry.new.bits in
    let id = c.in_ok-id.id in
    let is : IfSome c.get-abbrev.result (λ one. slice_get f.definitions.all (id - 4) ≡ Some one.now) = rw c.saturating_sub.ensures at c.get-abbrev.ensures in
    let known : id ≢ 3 → IsDefinition _ f.definitions.all id (option_copied c.get-abbrev.result) = λ other. ready_or_missed _ f.definitions.all id c.get-abbrev.result is in
    let added = rw c.position-first.ensures at (c.in-Ok.ensures.adds f.definitions.all known before was) in
    let read = added_behind (entry c.args.room a.position id f.definitions.all) c.args.room (reader_at c.record_id.new.buffered) c.in-Ok.code (reader_at b) before added.0 added.2 in (
      added.0,
      added.1,
      (
        read.0,
        read.1,
        (
          read.2.0,
          λ limits outer handed is.
              record_seen limits (frame_shown f) outer handed id c.in-Ok.code read.0 a c.record_id.new.buffered b (ap info_shown c.requires.plain) c.in_ok-id.ensures.three c.in_ok-id.ensures.reads (rw is read.2.1),
        ),
      ),
    )

pub returns-in-Ok-clause-moves : goal.returns-in-Ok-clause-moves
returns-in-Ok-clause-moves g c =
    let f = c.args.frame.now in
    let id = c.in_ok-id.id in
    let is : IfSome c.get-abbrev.result (λ one. slice_get f.definitions.all (id - 4) ≡ Some one.now) = rw c.saturating_sub.ensures at c.get-abbrev.ensures in
    let known : id ≢ 3 → IsDefinition _ f.definitions.all id (option_copied c.get-abbrev.result) = λ other. ready_or_missed _ f.definitions.all id c.get-abbrev.result is in
    let added = c.in-Ok.ensures.adds f.definitions.all known c.requires.took.0 c.requires.took.1 in
    omega (arith, c.in_ok-id.ensures.moves, added.2.0.2.forward)
