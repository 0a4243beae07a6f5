use Rattle.std.proofs.Common.{◌≡◌, ◌<◌, ◌-◌, ℕ, Option, Some, sym, subst, arith}
use Rattle.std.specs.Prelude.{IfSome}
use Rattle.std.proofs.lemmas.Result.{err_from_is_err_and}
use Rattle.bit_grammar.specs.Machine.{step}
use Rattle.bit_fields.specs.Buffered.{BufferedBits, beyond}
use Rattle.bit_fields.specs.BufferedParts.{bits_of_parts}
use Rattle.bit_fields.specs.PlacedView.{placed}
use Rattle.bit_events.specs.declared.machine.Machine.{Machine}
use Rattle.bit_events.specs.declared.machine.Step.{Step}
use Rattle.bit_events.specs.MachineView.{bit_after, machine_shown}
use Rattle.bit_events.specs.Runs.{GathersUpTo, StepsHere}
use Rattle.bit_events.proofs.Blocks.{up_to_none, up_to_both, up_to_there, up_to_step, stop_at_step, stop_behind, stop_here}
use Rattle.bit_events.proofs.folding.gather_blocks.Goals as goal

pub loop-first-init : goal.loop-first-init
loop-first-init g c = record {
  on = up_to_none g.G.Gatherer.gathered c.args.limits.now c.args.machine.now (bits_of_parts c.args.parts) c.args.gatherer.now c.position-first.result (sym c.position-first.ensures) (λ none. absurd (omega (arith, c.requires.some, none)));
  took = c.requires.took;
}

pub gather_innermost-requires-clause-aligned : goal.gather_innermost-requires-clause-aligned
gather_innermost-requires-clause-aligned g c = (up_to_there g.G.Gatherer.gathered c.args.limits.now c.args.machine.now (bits_of_parts c.args.parts) c.args.gatherer.now c.loop-first.machine c.loop-first.first c.loop-first.gatherer c.loop-first.invariant.on).2

pub returns-in_err-first-clause-stops : goal.returns-in_err-first-clause-stops
returns-in_err-first-clause-stops g c =
    let a = c.args in
    let s = c.loop-first in
    let t = c.gather_innermost.new in
    let p = err_from_is_err_and c.from_residual.result c.from_residual.ensures.1 in
    rw p.1 (stop_behind g.G.Gatherer.gathered g.G.Gatherer.fails a.limits.now a.machine.now (bits_of_parts a.parts) a.gatherer.now s.machine s.first s.gatherer t.gatherer s.invariant.on c.in_err-first.ensures.stops)

pub returns-in_default-clause-gathers : goal.returns-in_default-clause-gathers
returns-in_default-clause-gathers g c =
    let a = c.args in
    let s = c.loop-first in
    let t = c.gather_innermost.new in
    up_to_both g.G.Gatherer.gathered a.limits.now a.machine.now (bits_of_parts a.parts) a.gatherer.now s.machine s.first s.gatherer t.machine c.in_ok-first.first t.gatherer s.invariant.on c.in_ok-first.ensures.gathers

pub returns-then-not-has-clause-gathers : goal.returns-then-not-has-clause-gathers
returns-then-not-has-clause-gathers g c =
    let a = c.args in
    let s = c.loop-first in
    let t = c.gather_innermost.new in
    up_to_both g.G.Gatherer.gathered a.limits.now a.machine.now (bits_of_parts a.parts) a.gatherer.now s.machine s.first s.gatherer t.machine c.in_ok-first.first t.gatherer s.invariant.on c.in_ok-first.ensures.gathers

pub returns-in_err-step-clause-stops : goal.returns-in_err-step-clause-stops
returns-in_err-step-clause-stops g c =
    let a = c.args in
    let s = c.loop-first in
    let t = c.gather_innermost.new in
    let all = up_to_both g.G.Gatherer.gathered a.limits.now a.machine.now (bits_of_parts a.parts) a.gatherer.now s.machine s.first s.gatherer t.machine c.in_ok-first.first t.gatherer s.invariant.on c.in_ok-first.ensures.gathers in
    let p = err_from_is_err_and c.from_residual-in_err-step.result c.from_residual-in_err-step.ensures.1 in
    rw p.1 (stop_behind g.G.Gatherer.gathered g.G.Gatherer.fails a.limits.now a.machine.now (bits_of_parts a.parts) a.gatherer.now t.machine c.in_ok-first.first t.gatherer t.gatherer all (stop_here g.G.Gatherer.gathered g.G.Gatherer.fails a.limits.now t.machine (beyond (bits_of_parts a.parts) (c.in_ok-first.first - a.parts.position)) t.gatherer))

pub returns-in_default-2-clause-gathers : goal.returns-in_default-2-clause-gathers
returns-in_default-2-clause-gathers g c =
    let a = c.args in
    let s = c.loop-first in
    let t = c.gather_innermost.new in
    let all = up_to_both g.G.Gatherer.gathered a.limits.now a.machine.now (bits_of_parts a.parts) a.gatherer.now s.machine s.first s.gatherer t.machine c.in_ok-first.first t.gatherer s.invariant.on c.in_ok-first.ensures.gathers in
    let u = c.placed_block.new.self in
    let stays : u ≡ t.machine = subst (λ (found : Option Step). StepsHere (step a.limits.now (machine_shown t.machine)) a.limits.now.depth t.machine (placed c.in-Some.bits) found u) c.in_default-2.is c.in_ok-step.ensures.steps in
    subst (λ (n : Machine). GathersUpTo g.G.Gatherer.gathered a.limits.now a.machine.now (bits_of_parts a.parts) a.gatherer.now n c.in_ok-first.first t.gatherer) (sym stays) all

pub loop-first-preserved : goal.loop-first-preserved
loop-first-preserved g c =
    let a = c.args in
    let s = c.loop-first in
    let t = c.gather_innermost.new in
    let all = up_to_both g.G.Gatherer.gathered a.limits.now a.machine.now (bits_of_parts a.parts) a.gatherer.now s.machine s.first s.gatherer t.machine c.in_ok-first.first t.gatherer s.invariant.on c.in_ok-first.ensures.gathers in
    let u = c.placed_block.new.self in
    let h = c.hand_on.new.gatherer in
    let found = c.in-Some-2.step in
    let was = c.in_ok-first.ensures.took in
    let from = beyond (bits_of_parts a.parts) (c.in_ok-first.first - a.parts.position) in
    let here : placed c.in-Some.bits ≡ from = c.in-Some.ensures.1 in
    let steps = subst (λ (b : BufferedBits). StepsHere (step a.limits.now (machine_shown t.machine)) a.limits.now.depth t.machine b (Some found) u) here (subst (λ (o : Option Step). StepsHere (step a.limits.now (machine_shown t.machine)) a.limits.now.depth t.machine (placed c.in-Some.bits) o u) c.in-Some-2.is c.in_ok-step.ensures.steps) in
    let moves = subst (λ (b : BufferedBits). b.position < bit_after found) here (subst (λ (o : Option Step). IfSome o (λ (step : Step). (placed c.in-Some.bits).position < bit_after step)) c.in-Some-2.is c.in_ok-step.ensures.moves) in
    let more = up_to_step g.G.Gatherer.gathered a.limits.now t.machine from t.gatherer was.0 found u h steps moves (c.in_ok-hand_on.ensures.gathers was.0 was.1) in
    record {
      on = up_to_both g.G.Gatherer.gathered a.limits.now a.machine.now (bits_of_parts a.parts) a.gatherer.now t.machine c.in_ok-first.first t.gatherer u c.after-first.result h all (subst (λ (q : ℕ). GathersUpTo g.G.Gatherer.gathered a.limits.now t.machine from t.gatherer u q h) (sym c.after-first.ensures) more);
      took = c.in_ok-hand_on.ensures.took;
    }

pub returns-in_err-hand_on-clause-stops : goal.returns-in_err-hand_on-clause-stops
returns-in_err-hand_on-clause-stops g c =
    let a = c.args in
    let s = c.loop-first in
    let t = c.gather_innermost.new in
    let all = up_to_both g.G.Gatherer.gathered a.limits.now a.machine.now (bits_of_parts a.parts) a.gatherer.now s.machine s.first s.gatherer t.machine c.in_ok-first.first t.gatherer s.invariant.on c.in_ok-first.ensures.gathers in
    let u = c.placed_block.new.self in
    let h = c.hand_on.new.gatherer in
    let found = c.in-Some-2.step in
    let was = c.in_ok-first.ensures.took in
    let from = beyond (bits_of_parts a.parts) (c.in_ok-first.first - a.parts.position) in
    let here : placed c.in-Some.bits ≡ from = c.in-Some.ensures.1 in
    let steps = subst (λ (b : BufferedBits). StepsHere (step a.limits.now (machine_shown t.machine)) a.limits.now.depth t.machine b (Some found) u) here (subst (λ (o : Option Step). StepsHere (step a.limits.now (machine_shown t.machine)) a.limits.now.depth t.machine (placed c.in-Some.bits) o u) c.in-Some-2.is c.in_ok-step.ensures.steps) in
    let moves = subst (λ (b : BufferedBits). b.position < bit_after found) here (subst (λ (o : Option Step). IfSome o (λ (step : Step). (placed c.in-Some.bits).position < bit_after step)) c.in-Some-2.is c.in_ok-step.ensures.moves) in
    let p = err_from_is_err_and c.from_residual-in_err-hand_on.result c.from_residual-in_err-hand_on.ensures.1 in
    rw p.1 (stop_behind g.G.Gatherer.gathered g.G.Gatherer.fails a.limits.now a.machine.now (bits_of_parts a.parts) a.gatherer.now t.machine c.in_ok-first.first t.gatherer h all
    (stop_at_step g.G.Gatherer.gathered g.G.Gatherer.fails a.limits.now t.machine from t.gatherer was.0 found u h steps moves (c.in_err-hand_on.ensures.fails was.0 was.1)))
