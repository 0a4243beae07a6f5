use Rattle.std.proofs.Common.{◌∙◌, length, take, ap, arith}
use Rattle.std.proofs.lemmas.List.{with_items_is}
use Rattle.bit_scan.proofs.Forwards.{front_kept}
use Rattle.bit_scan.proofs.text_buffer.TextBuffer.add_json_record.Goals as goal

pub returns-then-end-ge-HELD : goal.returns-then-end-ge-HELD
returns-then-end-ge-HELD c =
    let w = c.put_json_record-end in
    ap (take c.self.inside.used) (with_items_is c.make_room.new.bytes w.new.bytes (omega (arith, w.ensures.long, c.deref_mut.ensures.len)))
    ∙ front_kept _ c.self.inside.used w.result c.deref_mut.result.now w.new.bytes w.ensures.end.0 (omega (arith, c.make_room.ensures.long, ap length c.deref_mut.ensures.value)) w.ensures.wrote ∙ ap (take c.self.inside.used) c.deref_mut.ensures.value ∙ c.make_room.ensures.kept ∙ c.self.view_is
