use Rattle.std.proofs.Common.{[], ◌∷◌, length, refl, sym, ap, ◌∙◌, arith, length-append}
use Rattle.std.proofs.lemmas.Bool.{eqb-true}
use Rattle.bit_grammar.specs.Machine.{leaves}
use Rattle.bit_tree.specs.declared.marked_builder.MarkedBuilder.{MarkedBuilder}
use Rattle.bit_tree.proofs.MarkedFlats.{flat-close_top}
use Rattle.bit_tree.proofs.Gathered.{built_more, block_added, some_left}
use Rattle.bit_tree.proofs.marked_builder.MarkedBuilderGatherer.leave.Goals as goal

pub returns-then-is_empty-clause-gathers : goal.returns-then-is_empty-clause-gathers
returns-then-is_empty-clause-gathers c = λ first done deepest built some.
    let none_open = eqb-true _ _ (sym c.is_empty.ensures ∙ c.if-is_empty.true) in
    let new : MarkedBuilder = record { alloc = c.args.self.now.alloc; blocks = c.push.new.self; frames = c.pop.new.self } in
    built_more (leaves c.args.after) done c.args.self.now new built
    (λ following. rw (c.in_ok-push.ensures.items, c.in-Some.ensures.items, c.shrink_to_fit.ensures.items) (flat-close_top _ _ _ _ _ (omega (arith, c.pop.new.self.ok.0, none_open)) refl))
    (let len = ap length c.in-Some.ensures.items in omega (arith, len, length-append c.pop.new.self.items (c.in-Some.frame ∷ []), c.args.self.now.frames.ok.0, c.pop.new.self.ok.0))

pub returns-clause-gathers : goal.returns-clause-gathers
returns-clause-gathers c =
    block_added _ c.args.self.now c.pop.new.self c.add_marked.new.frames c.in-Some.frame c.add_marked.result c.in-Some.ensures.items (some_left _ c.if-is_empty.ensures) (λ following. rw c.shrink_to_fit.ensures.items refl) c.add_marked.ensures.items c.add_marked.ensures.len
