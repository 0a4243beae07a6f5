use Rattle.std.proofs.Common.{[]}
use Rattle.bit_scan.proofs.rows.BlockRows.pass.Goals as goal

pub returns-then-not-is_at : goal.returns-then-not-is_at
returns-then-not-is_at g c = ([], c.none.ensures c.args.width c.args.definitions.now.all, λ tallies shown. shown)
