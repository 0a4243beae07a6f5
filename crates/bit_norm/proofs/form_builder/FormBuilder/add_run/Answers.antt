use Rattle.std.proofs.Common.{◌≡◌, ℕ, ◌*◌, ◌≤◌, false, List, ◌++◌, length, take, drop, refl, sym, ap, ◌∙◌, subst, arith, length-append}
use Rattle.bit_grammar.specs.Bits.{bits_of_bytes}
use Rattle.bit_fields.specs.Pens.{HoldBits}
use Rattle.bit_fields.specs.PlacedView.{placed}
use Rattle.bit_events.specs.declared.passing.PassedRun.{PassedRun}
use Rattle.bit_events.proofs.PassedOver.{passes_records}
use Rattle.bit_norm.specs.Written.{WritesRun, records_bits}
use denote.Enum.Bare.{differs_false}
use Rattle.bit_norm.specs.contracts.form_run.End.{the_type}
use Rattle.bit_norm.specs.declared.form_run.End.TheVariants as end
use Rattle.bit_norm.proofs.BuiltRuns.{added_gathered, filled, items_back, more_added, none_added, with_text}
use Rattle.bit_norm.proofs.form_builder.FormBuilder.add_run.Goals as goal

pub loop-self-init : goal.loop-self-init
loop-self-init c =
    none_added c.args.width c.args.definitions.now c.args.room (placed c.args.bits) c.args.self.now

pub give_back-requires-clause-there : goal.give_back-requires-clause-there
give_back-requires-clause-there c =
    let l = c.loop-self in
    let b = placed l.bits in
    let lent = c.in_ok-lent.lent.items in
    let at = c.in_ok-lent.at in
    let text = c.lend.new.self in
    let bytes = c.write_records-run.new.bytes in
    let pen = c.write_records-run.result.pen in
    let left = c.write_records-run.result.room in
    let end = placed c.write_records-run.result.bits in
    let lends = c.in_ok-lent.ensures in
    let run : WritesRun c.args.width c.args.definitions.now l.room b at lent pen left end bytes = subst (λ (x : List ℕ). WritesRun c.args.width c.args.definitions.now l.room b at x pen left end bytes) c.deref_mut.ensures.value c.write_records-run.ensures.writes in
    let items = take c.in_ok-lent.lent.len (bytes ++ drop (length bytes) lent) in
    let back : items ≡ bytes = items_back c.in_ok-lent.lent.len bytes lent c.in_ok-lent.lent.ok.0 run.puts.same in
    let f = filled lent at pen bytes lends.held (records_bits run.records) lends.holds lends.ends run.puts in
    subst (λ (x : List ℕ). pen ≤ 8 * length x) (sym back) f.there

pub give_back-requires-clause-holds : goal.give_back-requires-clause-holds
give_back-requires-clause-holds c =
    let l = c.loop-self in
    let b = placed l.bits in
    let lent = c.in_ok-lent.lent.items in
    let at = c.in_ok-lent.at in
    let text = c.lend.new.self in
    let bytes = c.write_records-run.new.bytes in
    let pen = c.write_records-run.result.pen in
    let left = c.write_records-run.result.room in
    let end = placed c.write_records-run.result.bits in
    let lends = c.in_ok-lent.ensures in
    let run : WritesRun c.args.width c.args.definitions.now l.room b at lent pen left end bytes = subst (λ (x : List ℕ). WritesRun c.args.width c.args.definitions.now l.room b at x pen left end bytes) c.deref_mut.ensures.value c.write_records-run.ensures.writes in
    let items = take c.in_ok-lent.lent.len (bytes ++ drop (length bytes) lent) in
    let back : items ≡ bytes = items_back c.in_ok-lent.lent.len bytes lent c.in_ok-lent.lent.ok.0 run.puts.same in
    let f = filled lent at pen bytes lends.held (records_bits run.records) lends.holds lends.ends run.puts in
    subst (λ (x : List ℕ). HoldBits x (take pen (bits_of_bytes x))) (sym back) f.holds

pub give_back-requires-clause-room : goal.give_back-requires-clause-room
give_back-requires-clause-room c =
    let l = c.loop-self in
    let b = placed l.bits in
    let lent = c.in_ok-lent.lent.items in
    let at = c.in_ok-lent.at in
    let text = c.lend.new.self in
    let bytes = c.write_records-run.new.bytes in
    let pen = c.write_records-run.result.pen in
    let left = c.write_records-run.result.room in
    let end = placed c.write_records-run.result.bits in
    let lends = c.in_ok-lent.ensures in
    let run : WritesRun c.args.width c.args.definitions.now l.room b at lent pen left end bytes = subst (λ (x : List ℕ). WritesRun c.args.width c.args.definitions.now l.room b at x pen left end bytes) c.deref_mut.ensures.value c.write_records-run.ensures.writes in
    let items = take c.in_ok-lent.lent.len (bytes ++ drop (length bytes) lent) in
    let back : items ≡ bytes = items_back c.in_ok-lent.lent.len bytes lent c.in_ok-lent.lent.ok.0 run.puts.same in
    let f = filled lent at pen bytes lends.held (records_bits run.records) lends.holds lends.ends run.puts in
    omega (arith, f.there, run.puts.same, lends.few, c.loop-self-test.ensures.few refl, ap length lends.is, length-append text lends.held)

pub returns-then-ne : goal.returns-then-ne
returns-then-ne c =
    let l = c.loop-self in
    let b = placed l.bits in
    let lent = c.in_ok-lent.lent.items in
    let at = c.in_ok-lent.at in
    let text = c.lend.new.self in
    let bytes = c.write_records-run.new.bytes in
    let pen = c.write_records-run.result.pen in
    let left = c.write_records-run.result.room in
    let end = placed c.write_records-run.result.bits in
    let lends = c.in_ok-lent.ensures in
    let run : WritesRun c.args.width c.args.definitions.now l.room b at lent pen left end bytes = subst (λ (x : List ℕ). WritesRun c.args.width c.args.definitions.now l.room b at x pen left end bytes) c.deref_mut.ensures.value c.write_records-run.ensures.writes in
    let items = take c.in_ok-lent.lent.len (bytes ++ drop (length bytes) lent) in
    let back : items ≡ bytes = items_back c.in_ok-lent.lent.len bytes lent c.in_ok-lent.lent.ok.0 run.puts.same in
    let last = c.give_back.new.self in
    let is : last ≡ text ++ take pen (bits_of_bytes bytes) = c.in_ok-give_back.ensures ∙ ap (λ (x : List ℕ). text ++ take pen (bits_of_bytes x)) back in
    let more = more_added c.args.width c.args.definitions.now c.args.room (placed c.args.bits) c.args.self.now l.room b l.self 5600 lent at text pen left end bytes last l.invariant lends run is in
    let ends : PassedRun = record { after = c.position.result; room = left; is_over = c.eq.result } in (
      more.passed.less,
      (
        more.records,
        passes_records c.args.width c.args.definitions.now c.args.room (placed c.args.bits) more.records left end ends more.passed refl c.position.ensures,
        added_gathered c.args.width c.args.definitions.now c.args.room (placed c.args.bits) c.args.self.now left end (with_text l.self last) more c.requires.short c.requires.kept,
      ),
    )

pub loop-self-smaller : goal.loop-self-smaller
loop-self-smaller c =
    let full : c.write_records-run.result.end ≡ end.Full = differs_false the_type tt c.write_records-run.result.end end.Full (sym c.if-ne.ensures) in
    let lends = c.in_ok-lent.ensures in
    let short = c.loop-self-test.ensures.no refl in
    let room : c.in_ok-lent.at ≤ c.min-last.result = omega (arith, short, c.min-last.ensures, c.saturating_sub-most.ensures, c.len.ensures, c.len-in-loop-self.ensures, c.bytes.ensures.bytes, lends.ends, lends.space, ap length lends.is, length-append c.lend.new.self lends.held, c.in_ok-lent.lent.ok.0) in
    c.write_records-run.ensures.moves full room

pub loop-self-preserved : goal.loop-self-preserved
loop-self-preserved c =
    let l = c.loop-self in
    let b = placed l.bits in
    let lent = c.in_ok-lent.lent.items in
    let at = c.in_ok-lent.at in
    let text = c.lend.new.self in
    let bytes = c.write_records-run.new.bytes in
    let pen = c.write_records-run.result.pen in
    let left = c.write_records-run.result.room in
    let end = placed c.write_records-run.result.bits in
    let lends = c.in_ok-lent.ensures in
    let run : WritesRun c.args.width c.args.definitions.now l.room b at lent pen left end bytes = subst (λ (x : List ℕ). WritesRun c.args.width c.args.definitions.now l.room b at x pen left end bytes) c.deref_mut.ensures.value c.write_records-run.ensures.writes in
    let items = take c.in_ok-lent.lent.len (bytes ++ drop (length bytes) lent) in
    let back : items ≡ bytes = items_back c.in_ok-lent.lent.len bytes lent c.in_ok-lent.lent.ok.0 run.puts.same in
    let last = c.give_back.new.self in
    let is : last ≡ text ++ take pen (bits_of_bytes bytes) = c.in_ok-give_back.ensures ∙ ap (λ (x : List ℕ). text ++ take pen (bits_of_bytes x)) back in
    let more = more_added c.args.width c.args.definitions.now c.args.room (placed c.args.bits) c.args.self.now l.room b l.self 5600 lent at text pen left end bytes last l.invariant lends run is in
    more

pub returns : goal.returns
returns c =
    let l = c.loop-self in
    let run : PassedRun = record { after = c.position-2.result; room = l.room; is_over = false } in (
      l.invariant.passed.less,
      (
        l.invariant.records,
        passes_records c.args.width c.args.definitions.now c.args.room (placed c.args.bits) l.invariant.records l.room (placed l.bits) run l.invariant.passed refl c.position-2.ensures,
        added_gathered c.args.width c.args.definitions.now c.args.room (placed c.args.bits) c.args.self.now l.room (placed l.bits) l.self l.invariant c.requires.short c.requires.kept,
      ),
    )
