use Rattle.std.proofs.Common.{refl, sym, ◌∙◌}
use Rattle.bit_grammar.specs.Setting.{setting_of}
use Rattle.bit_tree.proofs.Copies.{copied, skipped}
use Rattle.bit_tree.proofs.copying.+items_of.Goals as goal
use Rattle.bit_tree.proofs.copying.+items_of.Goals.{in-Block+then-keeps+in_ok-inner-in-Block+in_ok-push-in-Block, in-Block+else-keeps, in-Record+then-keeps_record+in_ok-record-in-Record+in_ok-push-in-Record, in-Record+else-keeps_record, in-Define}

pub loop-item-preserved : goal.loop-item-preserved
loop-item-preserved t c =
    let h = c.loop-item-test.true in
    let is = c.item-item.is in
    let so_far = c.loop-item.invariant in
    elim c.match-item.branch [
      | in-Block+then-keeps+in_ok-inner-in-Block+in_ok-push-in-Block w ↦
          rw (w.items-is, w.in_ok-push-in-Block.ensures.items)
          (copied (setting_of c.args.info) c.args.around _ _ _ _ _ _ h is (λ rest. rw (w.in-Block.is, sym w.keeps.ensures ∙ w.if-keeps.true, w.in_ok-inner-in-Block.ensures) refl) so_far)
      | in-Block+else-keeps w ↦ rw w.items-is (skipped (setting_of c.args.info) c.args.around _ _ _ _ _ h is (λ rest. rw (w.in-Block.is, sym w.keeps.ensures ∙ w.if-keeps.false) refl) so_far)
      | in-Record+then-keeps_record+in_ok-record-in-Record+in_ok-push-in-Record w ↦
          rw (w.items-is, w.in_ok-push-in-Record.ensures.items)
          (copied (setting_of c.args.info) c.args.around _ _ _ _ _ _ h is (λ rest. rw (w.in-Record.is, ← w.record.view_is, sym w.keeps_record.ensures ∙ w.if-keeps_record.true, w.in_ok-record-in-Record.ensures.code, w.in_ok-record-in-Record.ensures.values, w.deref-then-keeps_record.ensures.value) refl) so_far)
      | in-Record+else-keeps_record w ↦ rw w.items-is (skipped (setting_of c.args.info) c.args.around _ _ _ _ _ h is (λ rest. rw (w.in-Record.is, ← w.record.view_is, sym w.keeps_record.ensures ∙ w.if-keeps_record.false) refl) so_far)
      | in-Define w ↦ rw w.items-is (skipped (setting_of c.args.info) c.args.around _ _ _ _ _ h is (λ rest. rw w.in-Define.is refl) so_far)
    ]
