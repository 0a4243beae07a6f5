use Rattle.std.proofs.Common.{◌≡◌, ◌-◌, Some, Ok, slice_get, ap, sym, ◌∙◌, arith}
use Rattle.bit_grammar.specs.Terms.{CodeAndValues}
use Rattle.bit_grammar.specs.Blocks.{by_definition}
use Rattle.bit_fields.specs.Buffered.{reader_at}
use Rattle.bit_abbrev.specs.InForce.{found_if_any}
use Rattle.bit_events.specs.FrameView.{frame_shown, info_shown}
use Rattle.bit_events.proofs.Framing.{found_entry}
use Rattle.bit_events.proofs.Runs.{added_behind, record_seen}
use Rattle.bit_events.proofs.running.held_item.Goals as goal

pub returns-in-Ok-clause-sees : goal.returns-in-Ok-clause-sees
returns-in-Ok-clause-sees g c = λ before was.
    let f = c.args.frame.now in
    let a = c.args.buffered.now in
    let b = c.record_id.new.buffered in
    let d = c.read_held_record.new.bits in
    let id = c.in_ok-id.id in
    let code = c.in-Ok.code in
    let ops = c.in-Some-Held.ops in
    let found : slice_get f.definitions.all (id - 4) ≡ Some ops = sym c.find.ensures ∙ ap found_if_any (c.in-Some-Held.is ∙ ap Some c.in-Some-Held.field-0-is) in
    let added = rw c.position-first.ensures at (c.in-Ok.ensures.adds before was) in
    let read = added_behind (by_definition a.position c.args.room ops) c.args.room (reader_at b) code (reader_at d) before added.0 added.2 in
    let value : CodeAndValues = record { code = code; values = read.0 } in
    let took = found_entry c.args.room a.position id f.definitions.all ops (reader_at b) (Ok value) (reader_at d) c.if-id-eq3.false found read.2.1 in (
      added.0,
      added.1,
      (
        read.0,
        read.1,
        (
          read.2.0,
          λ limits outer handed is.
              record_seen limits (frame_shown f) outer handed id code read.0 a b d (ap info_shown c.requires.plain) c.in_ok-id.ensures.three c.in_ok-id.ensures.reads (rw is took),
        ),
      ),
    )

pub returns-in-Ok-clause-moves : goal.returns-in-Ok-clause-moves
returns-in-Ok-clause-moves g c =
    let added = c.in-Ok.ensures.adds c.requires.took.0 c.requires.took.1 in
    omega (arith, c.in_ok-id.ensures.moves, added.2.0.2.forward)
