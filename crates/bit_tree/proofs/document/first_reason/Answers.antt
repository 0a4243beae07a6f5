use Rattle.std.proofs.Common.{refl, sym}
use Rattle.bit_tree.specs.TreeView.{forest_of_blocks}
use Rattle.bit_tree.proofs.Documents.{Passed, shallow, passed_fit, rule_broken}
use Rattle.bit_tree.proofs.document.first_reason.Goals as goal

pub returns-then-not-keep_info_rule-clause-some : goal.returns-then-not-keep_info_rule-clause-some
returns-then-not-keep_info_rule-clause-some c = (
  λ e. let t = c.is_wrapper.ensures.wrapper.1 e in absurd cc,
  shallow _ c.if-are_deep.ensures.deep,
  rule_broken (forest_of_blocks c.args.blocks.now) (sym c.if-not-keep_info_rule.ensures),
)

pub returns-clause-none : goal.returns-clause-none
returns-clause-none c =
    let passed : Passed c.args.magic c.args.blocks.now = record {
      fits = c.is_wrapper.ensures.fits;
      bare = λ e. let t = c.is_wrapper.ensures.wrapper.1 e in absurd cc;
      range = c.if-are_deep.ensures.range refl;
      depth = shallow _ c.if-are_deep.ensures.deep;
    } in
    passed_fit _ _ passed (sym c.if-not-keep_info_rule.ensures)
