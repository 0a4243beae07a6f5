use Rattle.std.proofs.Common.{ap}
use Rattle.bit_abbrev.specs.HeldLists.{all_of}
use Rattle.bit_abbrev.specs.InForce.{DefinitionsInForce, finished}
use Rattle.bit_abbrev.specs.Ready.{later_list}
use Rattle.bit_abbrev.proofs.Tables.{are_ready, own_ready}
use Rattle.bit_abbrev.proofs.in_force.InForce.all.Goals as goal

pub invariant_of-result : goal.invariant_of-result
invariant_of-result c =
    let view = ap (λ (d : DefinitionsInForce). d.all) (rw c.in_default.is at c.self.view_is) in
    rw (c.as_slice-own.ensures.value, ← view) (own_ready c.self.inside.own.items (all_of (later_list c.self.inside.later)))

pub invariant_of-result-2 : goal.invariant_of-result-2
invariant_of-result-2 c =
    let shared = c.in-Some.shared in
    let view = ap (λ (d : DefinitionsInForce). d.all) (rw c.in-Some.is at c.self.view_is) in
    rw (c.ready.ensures, c.len.ensures, c.as_slice-own.ensures.value, ← view) (are_ready (finished shared.table.value) shared.id c.self.inside.own.items (all_of (later_list c.self.inside.later)))
