use Rattle.std.proofs.Common.{◌≡◌, ℕ, List, rules, sym, ap, subst, ◌∙◌, arith, length, slice_range}
use Rattle.std.specs.List.Sorted.{IsNonDecreasingBy}
use Rattle.std.proofs.Math.Dec.{leb, ltb}
use Rattle.std.proofs.lemmas.List.{length-map}
use Rattle.std.proofs.lemmas.List.Sorted.{IsPartitionPoint-from_clause, IsPartitionedBy-leb, IsPartitionedBy-ltb}
use Rattle.bit_grammar.specs.declared.op.Op.{Op}
use Rattle.bit_abbrev.specs.declared.held.Head.{Head}
use Rattle.bit_abbrev.specs.declared.held.Run.{Run}
use Rattle.bit_abbrev.specs.Heads.{all_held, ops_of}
use Rattle.bit_abbrev.specs.HeldLists.{held_for, heads_at, InOrder, run_in}
use Rattle.bit_abbrev.proofs.Ordered.{found_run, order_held, run_shown}
use Rattle.bit_abbrev.proofs.HeldLists.{shown_at}
use Rattle.bit_abbrev.proofs.held.HeldList.run_of.Goals as goal

pub returns : goal.returns
returns c =
    let all = c.self.inside.held.items in
    let heads = c.self.inside.heads.items in
    let up : IsNonDecreasingBy (λ (h : Head). h.id) heads = order_held all heads (subst InOrder (sym c.self.view_is) c.requires) in
    let slice = c.as_slice-heads.result.now in
    let rises : IsNonDecreasingBy (λ (h : Head). h.id) slice = subst (IsNonDecreasingBy (λ (h : Head). h.id)) (sym c.as_slice-heads.ensures.value) up in
    let first = IsPartitionPoint-from_clause (λ (h : Head). ltb h.id c.args.id) slice c.partition_point.result c.partition_point.ensures.partitioned (IsPartitionedBy-ltb (λ (h : Head). h.id) slice c.args.id rises) (λ a r q k. search rules) in
    let last = IsPartitionPoint-from_clause (λ (h : Head). leb h.id c.args.id) slice c.partition_point-2.result c.partition_point-2.ensures.partitioned (IsPartitionedBy-leb (λ (h : Head). h.id) slice c.args.id rises) (λ a r q k. search rules) in
    let found = found_run all slice c.args.id c.partition_point.result c.partition_point-2.result (c.partition_point.ensures.bound, first) (c.partition_point-2.ensures.bound, last) in
    let part : slice_range heads c.partition_point.result c.partition_point-2.result ≡ heads_at heads c.args.id = subst (λ (l : List Head). slice_range l c.partition_point.result c.partition_point-2.result ≡ heads_at l c.args.id) c.as_slice-heads.ensures.value found.1 in
    let run : Run = record { start = c.partition_point.result; end = c.partition_point-2.result } in (
      (found.0.0, omega (arith, found.0.1, ap length c.as_slice-heads.ensures.value, length-map {B = ℕ × List Op} heads (λ (h : Head). (h.id, ops_of all h)), ap length c.self.view_is)),
      subst (λ (t : List (ℕ × List Op)). run_in t run ≡ held_for t c.args.id) c.self.view_is (run_shown all heads run ∙ ap (all_held all) part ∙ sym (shown_at all heads c.args.id)),
    )
