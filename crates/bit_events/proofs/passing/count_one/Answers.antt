use Rattle.std.proofs.Common.{◌≡◌, ℕ, ◌+◌, ◌-◌, ◌≤◌, length, sym, ap, ◌∙◌, subst, arith}
use Rattle.std.proofs.lemmas.List.{length-drop}
use Rattle.bit_grammar.specs.Blocks.{entry}
use Rattle.bit_fields.specs.Buffered.{BufferedBits, Reads, beyond}
use Rattle.bit_fields.specs.PlacedView.{placed}
use Rattle.bit_events.specs.declared.passing.CountedRecord.{CountedRecord}
use Rattle.bit_events.specs.Passing.{PassesOn}
use Rattle.bit_events.proofs.PassedOver.{on_none, on_one, some_bits}
use Rattle.bit_events.proofs.PlacedHeads.{beyond_both, placed_fits}
use Rattle.bit_events.proofs.passing.count_one.Goals as goal

pub overflow_add-from : goal.overflow_add-from
overflow_add-from g c = omega (arith, c.from.ensures, c.requires.within, placed_fits c.args.bits)

pub returns-clause-moves : goal.returns-clause-moves
returns-clause-moves g c =
    let b = placed c.args.bits in
    let there = c.requires.within in
    let some = some_bits c.args.width c.args.id b (beyond b c.args.width) (omega (arith, there)) c.requires.id c.requires.reads in
    let left = ap (λ (x : BufferedBits). length x.bits) c.after-after.ensures.rest ∙ length-drop (c.from.result + c.args.passed.len) b.bits in
    omega (arith, some, left, there, c.from.ensures)

pub returns-clause-steps : goal.returns-clause-steps
returns-clause-steps g c = λ definitions passes.
    let passed = c.args.passed in
    let room = c.args.room in
    let b = placed c.args.bits in
    let few : passed.count ≤ room = omega arith in
    let over = passes b.position few in
    let one : CountedRecord = record { id = c.args.id; code = passed.code; count = passed.count; first = c.position.result; after = c.position-2.result } in
    let end : beyond (beyond b c.args.width) passed.len ≡ placed c.after-after.result = beyond_both b c.args.width passed.len (c.from.result + passed.len) (ap (λ (n : ℕ). n + passed.len) c.from.ensures) ∙ sym c.after-after.ensures.rest in
    let seen = subst (Reads (entry room b.position c.args.id definitions) (beyond b c.args.width) (record { code = passed.code; values = over.1.0 })) end over.1.2 in
    let more = on_one g.C.RunCounter.counted c.args.width definitions c.args.counter.now room b c.args.counter.now room b one over.1.0 c.count.new.self (placed c.after-after.result) (on_none g.C.RunCounter.counted c.args.width definitions c.args.counter.now room b) c.requires.id c.requires.reads seen (omega (arith, over.1.1, few)) c.position.ensures c.position-2.ensures (c.in_ok-counts.ensures.counts c.if-not-counts.false over.1.0 over.1.1) in
    subst (λ (n : ℕ). PassesOn g.C.RunCounter.counted c.args.width definitions c.args.counter.now room b c.count.new.self (room - n) (placed c.after-after.result)) over.1.1 more
