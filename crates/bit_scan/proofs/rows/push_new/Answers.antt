use Rattle.std.proofs.Common.{◌∙◌}
use Rattle.indexmap.proofs.CallerLemmas.{insert_entry-new}
use Rattle.bit_scan.proofs.rows.push_new.Goals as goal

pub returns-then-is_full : goal.returns-then-is_full
returns-then-is_full g c =
    c.shrink_to.ensures.entries ∙ c.in_ok-insert.ensures.entries ∙ insert_entry-new g.K.PartialEq.eq c.args.rows.now c.args.key c.args.value c.requires

pub returns-else-is_full : goal.returns-else-is_full
returns-else-is_full g c = c.in_ok-insert.ensures.entries ∙ insert_entry-new g.K.PartialEq.eq c.args.rows.now c.args.key c.args.value c.requires
