use Rattle.std.proofs.Common.{sym}
use Rattle.indexmap.specs.IndexMap.{get, keys}
use Rattle.std.specs.Prelude.{nat_eq}
use Rattle.bit_scan.proofs.Changes.{added_absent}
use Rattle.bit_scan.proofs.Changing.{found_at, not_some}
use Rattle.bit_scan.proofs.rows.BlockRows.add_by_id.Goals as goal

pub returns-in_ok-add_at-in-Some : goal.returns-in_ok-add_at-in-Some
returns-in_ok-add_at-in-Some g c tallies shown = c.in_ok-add_at-in-Some.ensures c.args.id tallies (found_at (keys c.args.self.now.rows) c.in-Some.place c.args.id (sym c.in-Some.ensures.index)) shown

pub returns-in_ok-push_new-in-None : goal.returns-in_ok-push_new-in-None
returns-in_ok-push_new-in-None g c tallies shown =
    rw c.in_ok-push_new-in-None.ensures
    (added_absent c.args.self.now.rows.entries tallies c.args.id c.args.addition c.new-row.result c.add.new.self (c.new-row.ensures c.args.id) (c.in_ok-add-in-None.ensures c.args.id) shown (not_some (get nat_eq c.args.self.now.rows c.args.id) c.in-None.ensures.found))
