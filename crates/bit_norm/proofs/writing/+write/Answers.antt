use Rattle.std.proofs.Common.{◌+◌, drop, ap, ◌∙◌, arith}
use Rattle.std.proofs.lemmas.Result.{err_from_is_err_and}
use Rattle.bit_grammar.specs.Normal.{normal, end_text}
use Rattle.bit_tree.specs.declared.tree.Record.{Record}
use Rattle.bit_tree.specs.TreeView.{forest_of_items}
use Rattle.bit_norm.specs.Writing.{record_text, whole_block}
use Rattle.bit_norm.proofs.Falls.{block_smaller}
use Rattle.bit_norm.proofs.Going.{goes_on, goes_wrong, goes_ends, room_for}
use Rattle.bit_norm.proofs.Texts.{front_fits, words_fit_field, front_lost, after_front, next_in_items, next_record, no_item}
use Rattle.bit_norm.proofs.writing.+write.Goals as goal
use Rattle.bit_norm.proofs.writing.+write.Goals.{write_items-in-Block+in_ok-write_block-in-Block, write_items-in-Record+in_ok-write_record-in-Record}

-- ---- a block

pub write_block-write_head-requires : goal.write_block-write_head-requires
write_block-write_head-requires g t c =
    let w = c.args.writer.now in
    let b = c.args.block.now in
    record {
      room = front_fits b.id b.items w c.body_words.result c.requires c.body_words.ensures;
      words = words_fit_field b.id b.items w c.body_words.result c.requires c.body_words.ensures;
    }

pub write_block-returns-in_err-write_head : goal.write_block-returns-in_err-write_head
write_block-returns-in_err-write_head g t c =
    let w = c.args.writer.now in
    let b = c.args.block.now in
    let p = err_from_is_err_and c.from_residual.result c.from_residual.ensures.1 in
    rw (p.1, p.2) (front_lost b.id b.items w c.body_words.result c.requires c.body_words.ensures c.write_head.new.writer c.in_err-write_head.field-0.0 c.in_err-write_head.ensures)

pub write_block-write_items-requires : goal.write_block-write_items-requires
write_block-write_items-requires g t c κs within =
    let w = c.args.writer.now in
    let b = c.args.block.now in
    let left = after_front b.id b.items w c.body_words.result c.requires c.body_words.ensures c.write_head.new.writer c.in_ok-write_head.ensures in
    (omega arith, (within, room_for (whole_block b.id b.items w.position) w (normal b.items) end_text c.write_head.new.writer left))

pub write_block-returns-in_err-write_items : goal.write_block-returns-in_err-write_items
write_block-returns-in_err-write_items g t c =
    let w = c.args.writer.now in
    let b = c.args.block.now in
    let left = after_front b.id b.items w c.body_words.result c.requires c.body_words.ensures c.write_head.new.writer c.in_ok-write_head.ensures in
    let p = err_from_is_err_and c.from_residual-in_err-write_items.result c.from_residual-in_err-write_items.ensures.1 in
    rw (p.1, p.2) (goes_wrong (whole_block b.id b.items w.position) w (normal b.items) end_text c.write_head.new.writer c.write_items.new.writer c.in_err-write_items.field-0.0 left c.in_err-write_items.ensures)

pub write_block-write_end-requires : goal.write_block-write_end-requires
write_block-write_end-requires g t c =
    let w = c.args.writer.now in
    let b = c.args.block.now in
    let left = after_front b.id b.items w c.body_words.result c.requires c.body_words.ensures c.write_head.new.writer c.in_ok-write_head.ensures in
    (goes_on (whole_block b.id b.items w.position) w (normal b.items) end_text c.write_head.new.writer c.write_items.new.writer left c.in_ok-write_items.ensures).room

pub write_block-returns : goal.write_block-returns
write_block-returns g t c =
    let w = c.args.writer.now in
    let b = c.args.block.now in
    let left = after_front b.id b.items w c.body_words.result c.requires c.body_words.ensures c.write_head.new.writer c.in_ok-write_head.ensures in
    (goes_on (whole_block b.id b.items w.position) w (normal b.items) end_text c.write_head.new.writer c.write_items.new.writer left c.in_ok-write_items.ensures).completes c.write_end.result c.write_end.new.writer c.write_end.ensures

-- ---- items

pub write_items-write_block-requires : goal.write_items-write_block-requires
write_items-write_block-requires g t c κs within =
    let w = c.args.writer.now in
    let items = c.deref-item-items.result.now in
    let i = c.loop-item.item-index in
    let whole = normal c.args.items.now w.position in
    let rest = normal (forest_of_items (drop (i + 1) items)) in
    let b = c.in-Block.block in
    let viewed = ap forest_of_items c.deref-item-items.ensures.value ∙ c.items.view_is in
    (omega (arith, block_smaller items i c.item-item.result b c.args.items.now c.loop-item-test.true c.item-item.is c.in-Block.is viewed), (within, room_for whole w (whole_block b.id b.items) rest c.loop-item.writer (next_in_items whole w c.loop-item.writer items i c.item-item.result b c.loop-item-test.true c.item-item.is c.in-Block.is c.loop-item.invariant)))

pub write_items-returns-in_err-write_block-in-Block : goal.write_items-returns-in_err-write_block-in-Block
write_items-returns-in_err-write_block-in-Block g t c =
    let w = c.args.writer.now in
    let items = c.deref-item-items.result.now in
    let i = c.loop-item.item-index in
    let whole = normal c.args.items.now w.position in
    let rest = normal (forest_of_items (drop (i + 1) items)) in
    let b = c.in-Block.block in
    let p = err_from_is_err_and c.from_residual.result c.from_residual.ensures.1 in
    rw (p.1, p.2)
    (goes_wrong whole w (whole_block b.id b.items) rest c.loop-item.writer c.write_block.new.writer c.in_err-write_block-in-Block.field-0.0 (next_in_items whole w c.loop-item.writer items i c.item-item.result b c.loop-item-test.true c.item-item.is c.in-Block.is c.loop-item.invariant) c.in_err-write_block-in-Block.ensures)

pub write_items-write_record-requires : goal.write_items-write_record-requires
write_items-write_record-requires g t c =
    let w = c.args.writer.now in
    let items = c.deref-item-items.result.now in
    let i = c.loop-item.item-index in
    let whole = normal c.args.items.now w.position in
    let rest = normal (forest_of_items (drop (i + 1) items)) in
    room_for whole w (record_text c.record.inside.0.0 c.deref.result.now) rest c.loop-item.writer
    (next_record whole w c.loop-item.writer items i c.item-item.result c.in-Record.record c.record.inside.0.0 c.deref.result.now c.loop-item-test.true c.item-item.is c.in-Record.is (ap (λ (r : Record). r.code) c.record.view_is) (c.deref.ensures.value ∙ ap (λ (r : Record). r.values) c.record.view_is) c.loop-item.invariant)

pub write_items-returns-in_err-write_record-in-Record : goal.write_items-returns-in_err-write_record-in-Record
write_items-returns-in_err-write_record-in-Record g t c =
    let w = c.args.writer.now in
    let items = c.deref-item-items.result.now in
    let i = c.loop-item.item-index in
    let whole = normal c.args.items.now w.position in
    let rest = normal (forest_of_items (drop (i + 1) items)) in
    let p = err_from_is_err_and c.from_residual-in_err-write_record-in-Record.result c.from_residual-in_err-write_record-in-Record.ensures.1 in
    rw (p.1, p.2)
    (goes_wrong whole w (record_text c.record.inside.0.0 c.deref.result.now) rest c.loop-item.writer c.write_record.new.writer c.in_err-write_record-in-Record.field-0.0
    (next_record whole w c.loop-item.writer items i c.item-item.result c.in-Record.record c.record.inside.0.0 c.deref.result.now c.loop-item-test.true c.item-item.is c.in-Record.is (ap (λ (r : Record). r.code) c.record.view_is) (c.deref.ensures.value ∙ ap (λ (r : Record). r.values) c.record.view_is) c.loop-item.invariant)
    c.in_err-write_record-in-Record.ensures)

pub write_items-loop-item-preserved : goal.write_items-loop-item-preserved
write_items-loop-item-preserved g t c =
    let old = c.args.writer.now in
    let items = c.deref-item-items.result.now in
    let i = c.loop-item.item-index in
    let whole = normal c.args.items.now old.position in
    let rest = normal (forest_of_items (drop (i + 1) items)) in
    elim c.match-item.branch [
      | write_items-in-Block+in_ok-write_block-in-Block w ↦
          let b = w.in-Block.block in
          rw w.writer-is (goes_on whole old (whole_block b.id b.items) rest c.loop-item.writer w.write_block.new.writer (next_in_items whole old c.loop-item.writer items i c.item-item.result b c.loop-item-test.true c.item-item.is w.in-Block.is c.loop-item.invariant) w.in_ok-write_block-in-Block.ensures)
      | write_items-in-Record+in_ok-write_record-in-Record w ↦
          rw w.writer-is
          (goes_on whole old (record_text w.record.inside.0.0 w.deref.result.now) rest c.loop-item.writer w.write_record.new.writer
          (next_record whole old c.loop-item.writer items i c.item-item.result w.in-Record.record w.record.inside.0.0 w.deref.result.now c.loop-item-test.true c.item-item.is w.in-Record.is (ap (λ (r : Record). r.code) w.record.view_is) (w.deref.ensures.value ∙ ap (λ (r : Record). r.values) w.record.view_is) c.loop-item.invariant)
          w.in_ok-write_record-in-Record.ensures)
    ]

pub write_items-returns : goal.write_items-returns
write_items-returns g t c =
    let w = c.args.writer.now in
    let items = c.deref-item-items.result.now in
    let i = c.loop-item.item-index in
    goes_ends (normal c.args.items.now w.position) w (normal (forest_of_items (drop i items))) c.loop-item.writer (no_item items i c.loop-item.writer.position c.loop-item-test.false) c.loop-item.invariant
