use Rattle.std.proofs.Common.{◌≡◌, ◌-◌, sym, subst, arith}
use Rattle.std.proofs.lemmas.Result.{err_from_is_err_and}
use Rattle.bit_fields.specs.Buffered.{BufferedBits, beyond}
use Rattle.bit_fields.specs.BufferedParts.{bits_of_parts}
use Rattle.bit_events.specs.Passing.{PassesRun}
use Rattle.bit_events.proofs.Counting.{run_passed}
use Rattle.bit_events.proofs.Runs.{gathers_none, stop_bits}
use Rattle.bit_events.proofs.running.pass_placed.Goals as goal

pub returns-in_default-clause-gathers : goal.returns-in_default-clause-gathers
returns-in_default-clause-gathers g c =
    let a = beyond (bits_of_parts c.args.parts) (c.args.first - c.args.parts.position) in
    (a, omega (arith, c.requires.least), gathers_none g.G.Gatherer.gathered c.args.limits.now c.args.frame.now c.args.used.now a c.args.gatherer.now)

pub returns-then-not-passes-clause-gathers : goal.returns-then-not-passes-clause-gathers
returns-then-not-passes-clause-gathers g c =
    let a = beyond (bits_of_parts c.args.parts) (c.args.first - c.args.parts.position) in
    (a, omega (arith, c.requires.least), gathers_none g.G.Gatherer.gathered c.args.limits.now c.args.frame.now c.args.used.now a c.args.gatherer.now)

pub returns-in_err-run-clause-stops : goal.returns-in_err-run-clause-stops
returns-in_err-run-clause-stops g c =
    let a = beyond (bits_of_parts c.args.parts) (c.args.first - c.args.parts.position) in
    let p = err_from_is_err_and c.from_residual.result c.from_residual.ensures.1 in
    rw p.1 (stop_bits g.G.Gatherer.gathered g.G.Gatherer.fails c.args.limits.now c.args.frame.now c.args.used.now a c.args.gatherer.now c.pass.new.self c.in_err-run.ensures.fails)

pub returns-clause-gathers : goal.returns-clause-gathers
returns-clause-gathers g c =
    let run = c.in_ok-run.run' in
    let h = c.pass.new.self in
    let here = c.in-Some.ensures.1 in
    let left : c.args.limits.now.values - c.args.used.now ≡ c.saturating_sub-room.result = omega (arith, c.saturating_sub-room.ensures, c.values.ensures.values) in
    let passes = subst (λ (b : BufferedBits). PassesRun g.G.Gatherer.gathered c.from.result c.args.frame.now.definitions.all c.saturating_sub-room.result b c.args.gatherer.now run h) here c.in_ok-run.ensures.gathers in
    run_passed g.G.Gatherer.gathered c.args.limits.now c.args.frame.now c.args.used.now (beyond (bits_of_parts c.args.parts) (c.args.first - c.args.parts.position)) c.args.gatherer.now c.from.result c.saturating_sub-room.result run h (sym c.from.ensures) c.requires.plain left passes
