use Rattle.std.proofs.Common.{ap, ◌∙◌}
use Rattle.bit_abbrev.specs.declared.finished.FinishedInfo.{FinishedInfo}
use Rattle.bit_abbrev.specs.InForce.{finished}
use Rattle.bit_abbrev.specs.Ready.{InfoMade, later_list, table_of}
use Rattle.bit_abbrev.proofs.Tables.{same_later}
use Rattle.bit_abbrev.proofs.in_force.SharedInfo.share.Goals as goal

pub returns : goal.returns
returns c =
    ap (λ (t : FinishedInfo). table_of (finished t)) c.in_ok-table.ensures.ok
    ∙ same_later c.table.inside.groups.items (later_list c.table.inside.later) c.in_ok-later.later c.in_ok-later.ensures.same
    ∙ ap (λ (m : InfoMade). table_of m.made) c.table.view_is
