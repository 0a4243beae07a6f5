use Rattle.std.proofs.Common.{◌≡◌, ℕ, List, refl}
use Rattle.bit_grammar.specs.Machine.{notes}
use Rattle.bit_tree.specs.declared.marked.MarkedItem.TheVariants as item
use Rattle.bit_tree.proofs.Gathered.{item_added}
use Rattle.bit_events.proofs.Folds.{each_list}
use Rattle.bit_tree.proofs.marked_builder.MarkedBuilderGatherer.record.Goals as goal

pub returns-clause-gathers : goal.returns-clause-gathers
returns-clause-gathers c =
    each_list (λ (list : List ℕ). c.args.values.now.items ≡ list) _ c.add_marked.result (λ list is.
    item_added (item.Record (record { «abbrev» = c.args.id; code = c.args.code; values = c.in_ok-from_slice.field-0.items; first = c.args.first; after = c.args.after })) (notes (record { abbreviation = c.args.id; code = c.args.code; values = list; first = c.args.first; after = c.args.after })) c.args.self.now c.add_marked.new.frames c.add_marked.result
    (λ following. rw (c.in_ok-from_slice.ensures.items, c.deref.ensures.value, is) refl) (λ count. refl) c.add_marked.ensures.items c.add_marked.ensures.len)
