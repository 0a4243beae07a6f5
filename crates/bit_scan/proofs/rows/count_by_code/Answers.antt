use Rattle.std.proofs.Common.{arith, refl, sym}
use Rattle.indexmap.specs.IndexMap.{get, keys}
use Rattle.std.specs.Prelude.{nat_eq}
use Rattle.bit_scan.proofs.Changes.{use_absent}
use Rattle.bit_scan.proofs.Changing.{found_at, not_some}
use Rattle.bit_scan.proofs.Saturating.{fits_stays}
use Rattle.bit_scan.proofs.rows.count_by_code.Goals as goal

pub returns-in-Some : goal.returns-in-Some
returns-in-Some g c tallies shown = c.count_at.ensures c.args.code tallies (found_at (keys c.args.rows.now) c.in-Some.place c.args.code (sym c.in-Some.ensures.index)) shown

pub returns-in_ok-push_new-in-None : goal.returns-in_ok-push_new-in-None
returns-in_ok-push_new-in-None g c tallies shown =
    rw c.in_ok-push_new-in-None.ensures
    (use_absent c.args.rows.now.entries tallies c.args.code c.args.bits (record { count = 1; bits = c.args.bits }) refl (sym (fits_stays c.args.bits (omega arith))) shown (not_some (get nat_eq c.args.rows.now c.args.code) c.in-None.ensures.found))
