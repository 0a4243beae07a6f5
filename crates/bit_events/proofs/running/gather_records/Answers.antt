use Rattle.std.proofs.Common.{◌-◌}
use Rattle.std.proofs.lemmas.Result.{IfOk-weaker, on_err_weaker}
use Rattle.bit_fields.specs.Buffered.{beyond}
use Rattle.bit_fields.specs.BufferedParts.{bits_of_parts}
use Rattle.bit_events.specs.Runs.{GathersRun}
use Rattle.bit_events.proofs.Counting.{run_then}
use Rattle.bit_events.proofs.Runs.{gathers_none, gathers_then, stop_later}
use Rattle.bit_events.proofs.running.gather_records.Goals as goal

pub gather_on-requires-clause-there : goal.gather_on-requires-clause-there
gather_on-requires-clause-there g c =
    let a = c.args in
    let bits = bits_of_parts a.parts in
    let from = beyond bits (a.start - a.parts.position) in
    let t = c.pass_placed.new in
    (run_then g.G.Gatherer.gathered a.limits.now a.frame.now a.used.now bits from a.gatherer.now a.used.now a.start a.gatherer.now t.used c.in_ok-run.run'.after t.gatherer c.requires.least c.requires.there (gathers_none g.G.Gatherer.gathered a.limits.now a.frame.now a.used.now from a.gatherer.now) c.in_ok-run.ensures.gathers).1

pub returns-clause-gathers : goal.returns-clause-gathers
returns-clause-gathers g c =
    let a = c.args in
    let bits = bits_of_parts a.parts in
    let from = beyond bits (a.start - a.parts.position) in
    let t = c.pass_placed.new in
    let u = c.gather_on.new in
    let first = c.in_ok-run.run'.after in
    let one = run_then g.G.Gatherer.gathered a.limits.now a.frame.now a.used.now bits from a.gatherer.now a.used.now a.start a.gatherer.now t.used first t.gatherer c.requires.least c.requires.there (gathers_none g.G.Gatherer.gathered a.limits.now a.frame.now a.used.now from a.gatherer.now) c.in_ok-run.ensures.gathers in
    IfOk-weaker c.gather_on.result (λ after. GathersRun g.G.Gatherer.gathered a.limits.now a.frame.now t.used (beyond bits (first - a.parts.position)) t.gatherer u.used after u.gatherer) (λ after. GathersRun g.G.Gatherer.gathered a.limits.now a.frame.now a.used.now from a.gatherer.now u.used after u.gatherer)
    (λ after run. (run.0, run.1, gathers_then g.G.Gatherer.gathered a.limits.now a.frame.now a.used.now from a.gatherer.now t.used (beyond bits (first - a.parts.position)) t.gatherer u.used run.0 u.gatherer one.2 run.2))
    c.gather_on.ensures.gathers

pub returns-clause-stops : goal.returns-clause-stops
returns-clause-stops g c =
    let a = c.args in
    let bits = bits_of_parts a.parts in
    let from = beyond bits (a.start - a.parts.position) in
    let t = c.pass_placed.new in
    let first = c.in_ok-run.run'.after in
    let one = run_then g.G.Gatherer.gathered a.limits.now a.frame.now a.used.now bits from a.gatherer.now a.used.now a.start a.gatherer.now t.used first t.gatherer c.requires.least c.requires.there (gathers_none g.G.Gatherer.gathered a.limits.now a.frame.now a.used.now from a.gatherer.now) c.in_ok-run.ensures.gathers in
    on_err_weaker c.gather_on.result
    (λ stops. stop_later g.G.Gatherer.gathered g.G.Gatherer.fails a.limits.now a.frame.now a.used.now from a.gatherer.now t.used (beyond bits (first - a.parts.position)) t.gatherer c.gather_on.new.gatherer one.2 stops)
    c.gather_on.ensures.stops
