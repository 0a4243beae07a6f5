use Rattle.std.proofs.Common.{◌≡◌, ℕ, ◌+◌, ◌≤◌, List, Some, length, take, ap, ◌∙◌, subst, arith}
use Rattle.std.proofs.lemmas.List.{length-take-le}
use Rattle.std.proofs.lemmas.Result.{err_from_is_err_and}
use Rattle.bit_grammar.specs.declared.op.Op.{Op}
use Rattle.bit_grammar.specs.Blocks.{entry}
use Rattle.bit_fields.specs.Buffered.{Reads, beyond}
use Rattle.bit_fields.specs.PlacedView.{placed}
use Rattle.bit_events.specs.Gathering.{Gathers}
use Rattle.bit_events.specs.MachineView.{record_of}
use Rattle.bit_events.proofs.FewRecords.{few_seen, id_fits}
use Rattle.bit_events.proofs.Runs.{gathers_none, gathers_more, stop_later, stop_record}
use Rattle.bit_events.proofs.running.gather_few.Goals as goal

pub loop-definitions-init : goal.loop-definitions-init
loop-definitions-init g c = record {
  gathers = gathers_none g.G.Gatherer.gathered c.args.limits.now c.args.frame.now c.args.used.now (placed c.args.bits) c.args.gatherer.now;
  room = omega (arith, c.saturating_sub-room.ensures, c.values.ensures.values);
}

pub after-after-requires : goal.after-after-requires
after-after-requires g c = (c.in-Some.ensures.reads 0).0

pub overflow_cast-id : goal.overflow_cast-id
overflow_cast-id g c =
    let b = placed c.loop-definitions.bits in
    let there : 2240 ≤ length b.bits = c.has.ensures c.loop-definitions-test.true in
    let most : c.from-width.result ≤ 32 = omega (arith, c.from-width.ensures, c.args.frame.now.head.most) in
    omega (arith, id_fits c.from-width.result c.fixed-id.result b (beyond b c.from-width.result) most (omega (arith, there, most)) c.fixed-id.ensures)

pub returns-in_err-few-clause-stops : goal.returns-in_err-few-clause-stops
returns-in_err-few-clause-stops g c =
    let l = c.loop-definitions in
    let f = c.args.frame.now in
    let b = placed l.bits in
    let fields = placed c.after-fields.result in
    let d = placed c.after-after.result in
    let id = c.fixed-id.result in
    let code = c.in-Some.read.code in
    let list : List ℕ = take c.in-Some.read.count c.read_few.new.values in
    let here : fields ≡ beyond b c.from-width.result = c.after-fields.ensures.rest ∙ ap (beyond b) c.from.ensures in
    let entered = subst (λ (ds : List (List Op)). Reads (entry l.room b.position id ds) fields (record { code = code; values = list }) (beyond fields c.in-Some.read.len)) c.all-definitions.ensures (c.in-Some.ensures.reads b.position).1 in
    let step = few_seen c.args.limits.now f l.spent l.room c.from-width.result id c.in-Some.read.len code list b fields d c.requires.plain (omega arith) c.from-width.ensures l.invariant.room c.fixed-id.ensures here c.after-after.ensures.rest entered in
    let p = err_from_is_err_and c.from_residual.result c.from_residual.ensures.1 in
    let failed = subst (λ (n : ℕ). g.G.Gatherer.fails l.gatherer (Some (record_of id list b.position (code, n))) c.few.new.self) c.position-in-loop-definitions.ensures (subst (λ (n : ℕ). g.G.Gatherer.fails l.gatherer (Some (record_of id list n (code, c.position-in-loop-definitions.result))) c.few.new.self) c.position.ensures c.in_err-few.ensures.fails) in
    rw p.1 (stop_later g.G.Gatherer.gathered g.G.Gatherer.fails c.args.limits.now f c.args.used.now (placed c.args.bits) c.args.gatherer.now l.spent b l.gatherer c.few.new.self l.invariant.gathers
    (stop_record g.G.Gatherer.gathered g.G.Gatherer.fails c.args.limits.now f l.spent b l.gatherer c.few.new.self id code list d step failed))

pub loop-definitions-preserved : goal.loop-definitions-preserved
loop-definitions-preserved g c =
    let l = c.loop-definitions in
    let f = c.args.frame.now in
    let b = placed l.bits in
    let fields = placed c.after-fields.result in
    let d = placed c.after-after.result in
    let id = c.fixed-id.result in
    let code = c.in-Some.read.code in
    let list : List ℕ = take c.in-Some.read.count c.read_few.new.values in
    let here : fields ≡ beyond b c.from-width.result = c.after-fields.ensures.rest ∙ ap (beyond b) c.from.ensures in
    let entered = subst (λ (ds : List (List Op)). Reads (entry l.room b.position id ds) fields (record { code = code; values = list }) (beyond fields c.in-Some.read.len)) c.all-definitions.ensures (c.in-Some.ensures.reads b.position).1 in
    let step = few_seen c.args.limits.now f l.spent l.room c.from-width.result id c.in-Some.read.len code list b fields d c.requires.plain (omega arith) c.from-width.ensures l.invariant.room c.fixed-id.ensures here c.after-after.ensures.rest entered in
    let count : ℕ = c.in-Some.read.count in
    let few = c.in-Some.ensures.few in
    let many : length list ≡ count = length-take-le count c.read_few.new.values (omega (arith, few.1, c.read_few.auto.values)) in
    let gathered = subst (λ (n : ℕ). Gathers g.G.Gatherer.gathered l.gatherer (record_of id list b.position (code, n)) c.few.new.self) c.position-in-loop-definitions.ensures (subst (λ (n : ℕ). Gathers g.G.Gatherer.gathered l.gatherer (record_of id list n (code, c.position-in-loop-definitions.result)) c.few.new.self) c.position.ensures (c.in_ok-few.ensures.gathers c.if-not-branch.false)) in
    record {
      gathers = gathers_more g.G.Gatherer.gathered c.args.limits.now f c.args.used.now (placed c.args.bits) c.args.gatherer.now l.spent b l.gatherer id code list d c.few.new.self (l.spent + count) l.invariant.gathers (omega (arith, many)) step gathered;
      room = omega (arith, l.invariant.room);
    }
