use Rattle.std.proofs.Common.{refl, arith}
use Rattle.bit_grammar.specs.Machine.{enters}
use Rattle.bit_tree.specs.declared.marked_builder.MarkedBuilder.{MarkedBuilder}
use Rattle.bit_tree.proofs.MarkedFlats.{flat_frames-push}
use Rattle.bit_tree.proofs.Gathered.{built_more}
use Rattle.bit_tree.proofs.marked_builder.MarkedBuilderGatherer.enter.Goals as goal

pub returns-clause-gathers : goal.returns-clause-gathers
returns-clause-gathers c = λ first done deepest built stands.
    let new : MarkedBuilder = record { alloc = c.args.self.now.alloc; blocks = c.args.self.now.blocks; frames = c.push.new.self } in
    built_more (enters (record { id = c.args.id; width = c.args.width; first = c.args.first; body = c.args.body })) done c.args.self.now new built
    (λ following. rw (c.in_ok-push.ensures.items, flat_frames-push, c.new.ensures.items) refl)
    (omega (arith, c.in_ok-push.ensures.len))
