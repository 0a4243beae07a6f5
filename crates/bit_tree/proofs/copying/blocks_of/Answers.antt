use Rattle.std.proofs.Common.{refl, sym, ◌∙◌}
use Rattle.bit_grammar.specs.Setting.{setting_of}
use Rattle.bit_tree.proofs.Copies.{copied_block, skipped_block}
use Rattle.bit_tree.proofs.copying.blocks_of.Goals as goal
use Rattle.bit_tree.proofs.copying.blocks_of.Goals.{then-keeps+in_ok-inner+in_ok-push, else-keeps}

pub loop-block-preserved : goal.loop-block-preserved
loop-block-preserved c =
    let h = c.loop-block-test.true in
    let is = c.block-item.is in
    let so_far = c.loop-block.invariant in
    elim c.if-keeps.branch [
      | then-keeps+in_ok-inner+in_ok-push w ↦
          rw (w.blocks-is, w.in_ok-push.ensures.items)
          (copied_block (setting_of c.args.info) 0 _ _ _ _ _ _ h is (λ rest. rw (sym c.keeps.ensures ∙ w.if-keeps.true, w.in_ok-inner.ensures) refl) so_far)
      | else-keeps w ↦ rw w.blocks-is (skipped_block (setting_of c.args.info) 0 _ _ _ _ _ h is (λ rest. rw (sym c.keeps.ensures ∙ w.if-keeps.false) refl) so_far)
    ]
