use Rattle.std.proofs.Common.{ap, ◌∙◌}
use Rattle.bit_grammar.specs.Counting.{Counts}
use Rattle.bit_scan.proofs.OpenBlocks.{entered}
use Rattle.bit_scan.proofs.counter.Counter.open_block.Goals as goal

pub returns : goal.returns
returns g c counts opened id first is =
    let all = c.self.view_is ∙ is in
    entered counts opened c.args.id c.in_ok-place.place c.args.first _ c.self.inside.open.items c.push.new.self.items id first
    (c.in_ok-place.ensures counts.rows (ap (λ (x : Counts). x.rows) all))
    (ap (λ (x : Counts). x.around) all) c.in_ok-push.ensures.items
