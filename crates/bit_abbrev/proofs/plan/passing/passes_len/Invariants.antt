use Rattle.std.proofs.Common.{length, take, ◌-◌, ◌≡◌, ◌+◌, ◌*◌, ◌≤◌}
use Rattle.bit_fields.specs.Buffered.{beyond}
use Rattle.bit_fields.specs.Placed.{bits_at}
use Rattle.bit_fields.specs.PlacedView.{loaded}
use Rattle.bit_abbrev.specs.Plans.{HasPasses}
use Rattle.bit_abbrev.proofs.plan.passing.passes_len.Given as goal

abbrev pub invariant-loop-next : goal.invariant-loop-next
invariant-loop-next l =
    let a = bits_at l.start l.at l.bytes in
    record {
      within : l.next ≤ length l.passes;
      least : a.position ≤ (loaded l.load).position;
      here : loaded l.load ≡ beyond a ((loaded l.load).position - a.position);
      has : HasPasses (take l.next l.passes) a ((loaded l.load).position - a.position);
      left : 336 + 312 * (length l.passes - l.next) ≤ length (loaded l.load).bits;
    }

abbrev pub decreases-loop-next : goal.decreases-loop-next
decreases-loop-next l = length l.passes - l.next
