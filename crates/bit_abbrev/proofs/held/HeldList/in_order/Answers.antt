use Rattle.std.proofs.Common.{◌≡◌, rules, sym, ap, ◌∙◌}
use Rattle.std.proofs.lemmas.Fn.{always_returns_same}
use Rattle.std.proofs.lemmas.List.Sorted.{IsNonDecreasingBy-from_sort_by_key}
use Rattle.bit_abbrev.specs.declared.held.Head.{Head}
use Rattle.bit_abbrev.specs.Heads.{all_held}
use Rattle.bit_abbrev.specs.HeldLists.{held_for}
use Rattle.bit_abbrev.proofs.Ordered.{order_shown, sorted_at}
use Rattle.bit_abbrev.proofs.HeldLists.{shown_at}
use Rattle.bit_abbrev.proofs.held.HeldList.in_order.Goals as goal

pub returns-clause-order : goal.returns-clause-order
returns-clause-order c = order_shown c.self.inside.held.items c.sort_by_key.new.self.items
    (IsNonDecreasingBy-from_sort_by_key (λ (h : Head). h.id) c.sort_by_key.new.self.items c.in_ok-sort_by_key.ensures.sorted (λ a r q k. search rules))

pub returns-clause-same : goal.returns-clause-same
returns-clause-same c = λ id.
    let all = c.self.inside.held.items in
    let old = c.self.inside.heads.items in
    let new = c.sort_by_key.new.self.items in
    let stable = c.in_ok-sort_by_key.ensures.stable (λ (h : Head). h.id) (always_returns_same _ (λ a r. r ≡ a.0.now.id) _ (λ a r q k. search rules)) in
    shown_at all new id ∙ ap (all_held all) (sorted_at old new id stable) ∙ sym (shown_at all old id) ∙ ap (λ t. held_for t id) c.self.view_is
