use Rattle.std.proofs.Common.{[], refl}
use Rattle.std.proofs.lemmas.Result.{err_from_is_err_and}
use Rattle.bit_tree.specs.TreeView.{tree_with}
use Rattle.bit_grammar.specs.Normal.{put, normal, normal_form}
use Rattle.bit_norm.proofs.Going.{goes_wrong, room_for}
use Rattle.bit_norm.proofs.Texts.{magic_lost, after_magic, after_blocks, are_blocks, form_ends}
use Rattle.bit_norm.proofs.writing.write_tree.Goals as goal

pub returns-in_err-fixed-clause-writes : goal.returns-in_err-fixed-clause-writes
returns-in_err-fixed-clause-writes g c =
    let p = err_from_is_err_and c.from_residual.result c.from_residual.ensures.1 in
    rw (p.1, p.2) (magic_lost (tree_with c.args.magic c.args.blocks.now) c.args.writer.now c.fixed.new.self c.number_of_magic.result c.in_err-fixed.field-0.0 c.number_of_magic.ensures.magic c.requires.begins c.requires.room c.in_err-fixed.ensures.writes)

pub write_blocks-requires : goal.write_blocks-requires
write_blocks-requires g c =
    let w = c.args.writer.now in
    let tree = (tree_with c.args.magic c.args.blocks.now) in
    let a = c.fixed.new.self in
    let left = after_magic tree w a c.number_of_magic.result c.number_of_magic.ensures.magic c.requires.begins c.requires.room c.in_ok-fixed.ensures.writes in
    (room_for (normal_form tree) w (normal tree.blocks) (put []) a left)

pub returns-in_err-write_blocks-clause-writes : goal.returns-in_err-write_blocks-clause-writes
returns-in_err-write_blocks-clause-writes g c =
    let w = c.args.writer.now in
    let tree = (tree_with c.args.magic c.args.blocks.now) in
    let a = c.fixed.new.self in
    let left = after_magic tree w a c.number_of_magic.result c.number_of_magic.ensures.magic c.requires.begins c.requires.room c.in_ok-fixed.ensures.writes in
    let lost = c.in_err-write_blocks.ensures in
    let p = err_from_is_err_and c.from_residual-in_err-write_blocks.result c.from_residual-in_err-write_blocks.ensures.1 in
    rw (p.1, p.2) (goes_wrong (normal_form tree) w (normal tree.blocks) (put []) a c.write_blocks.new.writer c.in_err-write_blocks.field-0.0 left lost)

pub finish-requires : goal.finish-requires
finish-requires g c =
    let w = c.args.writer.now in
    let tree = (tree_with c.args.magic c.args.blocks.now) in
    let a = c.fixed.new.self in
    let left = after_magic tree w a c.number_of_magic.result c.number_of_magic.ensures.magic c.requires.begins c.requires.room c.in_ok-fixed.ensures.writes in
    form_ends tree w c.write_blocks.new.writer (are_blocks c.args.blocks.now) c.requires.begins (after_blocks tree w a c.write_blocks.new.writer _ refl left c.in_ok-write_blocks.ensures)

pub returns-clause-writes : goal.returns-clause-writes
returns-clause-writes g c =
    let w = c.args.writer.now in
    let tree = (tree_with c.args.magic c.args.blocks.now) in
    let a = c.fixed.new.self in
    let left = after_magic tree w a c.number_of_magic.result c.number_of_magic.ensures.magic c.requires.begins c.requires.room c.in_ok-fixed.ensures.writes in
    (after_blocks tree w a c.write_blocks.new.writer _ refl left c.in_ok-write_blocks.ensures).completes c.finish.result c.finish.new.self c.finish.ensures.writes
