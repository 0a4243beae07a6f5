use Rattle.std.proofs.Common.{◌+◌, drop}
use Rattle.std.proofs.lemmas.Result.{err_from_is_err_and}
use Rattle.bit_grammar.specs.Normal.{normal}
use Rattle.bit_tree.specs.TreeView.{forest_of_blocks}
use Rattle.bit_norm.specs.Writing.{whole_block}
use Rattle.bit_norm.proofs.Going.{goes_on, goes_wrong, goes_ends, room_for}
use Rattle.bit_norm.proofs.Texts.{next_block, no_block}
use Rattle.bit_norm.proofs.writing.write_blocks.Goals as goal

pub write_block-requires : goal.write_block-requires
write_block-requires g c =
    let w = c.args.writer.now in
    let blocks = c.args.blocks.now in
    let i = c.loop-block.block-index in
    let b = c.block-item.result in
    room_for (normal (forest_of_blocks blocks) w.position) w (whole_block b.id b.items) (normal (forest_of_blocks (drop (i + 1) blocks))) c.loop-block.writer (next_block _ _ _ blocks i b c.loop-block-test.true c.block-item.is c.loop-block.invariant)

pub returns-in_err-write_block : goal.returns-in_err-write_block
returns-in_err-write_block g c =
    let w = c.args.writer.now in
    let blocks = c.args.blocks.now in
    let i = c.loop-block.block-index in
    let b = c.block-item.result in
    let p = err_from_is_err_and c.from_residual.result c.from_residual.ensures.1 in
    rw (p.1, p.2)
    (goes_wrong (normal (forest_of_blocks blocks) w.position) w (whole_block b.id b.items) (normal (forest_of_blocks (drop (i + 1) blocks))) c.loop-block.writer c.write_block.new.writer c.in_err-write_block.field-0.0 (next_block _ _ _ blocks i b c.loop-block-test.true c.block-item.is c.loop-block.invariant) c.in_err-write_block.ensures)

pub loop-block-preserved : goal.loop-block-preserved
loop-block-preserved g c =
    let w = c.args.writer.now in
    let blocks = c.args.blocks.now in
    let i = c.loop-block.block-index in
    let b = c.block-item.result in
    goes_on (normal (forest_of_blocks blocks) w.position) w (whole_block b.id b.items) (normal (forest_of_blocks (drop (i + 1) blocks))) c.loop-block.writer c.write_block.new.writer (next_block _ _ _ blocks i b c.loop-block-test.true c.block-item.is c.loop-block.invariant) c.in_ok-write_block.ensures

pub returns : goal.returns
returns g c =
    let w = c.args.writer.now in
    let blocks = c.args.blocks.now in
    let i = c.loop-block.block-index in
    goes_ends (normal (forest_of_blocks blocks) w.position) w (normal (forest_of_blocks (drop i blocks))) c.loop-block.writer (no_block blocks i c.loop-block.writer.position c.loop-block-test.false) c.loop-block.invariant
