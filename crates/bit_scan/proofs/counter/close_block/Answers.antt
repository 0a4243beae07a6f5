use Rattle.std.proofs.Common.{ap, arith}
use Rattle.std.proofs.lemmas.List.{nil_from_length}
use Rattle.bit_scan.proofs.OpenBlocks.{closed, no_block, last_gained}
use Rattle.bit_scan.proofs.counter.close_block.Goals as goal
use Rattle.bit_scan.proofs.counter.close_block.Goals.{in-Some, in_default}

pub returns : goal.returns
returns c around shown =
    closed around c.args.after c.saturating_sub-bits.result c.saturating_sub.result c.args.blocks.now.items c.pop.new.self.items c.match-last_mut.blocks.items c.in_ok-block.block (omega arith) c.saturating_sub-bits.ensures c.saturating_sub.ensures
    c.in_ok-block.ensures.items
    (elim c.match-last_mut.branch [
      | in-Some w ↦ last_gained c.pop.new.self.items c.match-last_mut.blocks.items _ c.saturating_sub-bits.result w.saturating_add-outer.result w.in-Some.outer.now (omega (arith, c.pop.new.self.ok.0, w.in-Some.ensures.item.3.0)) w.in-Some.ensures.value w.saturating_add-outer.ensures (ap (λ v. v.items) w.blocks-is)
      | in_default w ↦ let none = nil_from_length c.pop.new.self.items (omega (arith, w.in_default.ensures.item.3)) in no_block none (rw w.blocks-is none)
    ])
    shown
