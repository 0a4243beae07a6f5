use Rattle.std.proofs.Common.{◌%◌, arith, sym, subst, ℕ, ap, ◌∙◌, ◌≡◌, [], Some, None, false}
use Rattle.std.proofs.lemmas.Result.{err_from_is_err_and}
use Rattle.bit_fields.specs.Buffered.{BufferedBits, Sees}
use Rattle.bit_fields.specs.Devices.{Incoming}
use Rattle.bit_fields.specs.Reader.{Reader}
use Rattle.bit_events.specs.Events.{Begun, coming_of}
use Rattle.bit_events.specs.SliceEvents.{reader_seen}
use Rattle.bit_events.proofs.Advancing.{began, declined}
use Rattle.bit_events.proofs.InSlices.{nothing_seen}
use Rattle.bit_events.proofs.slice_events.SliceEvents.start.Goals as goal

pub returns-in_err-reader-clause-declined : goal.returns-in_err-reader-clause-declined
returns-in_err-reader-clause-declined c =
    let p = err_from_is_err_and c.from_residual.result c.from_residual.ensures.1 in
    rw (p.1, p.2) (declined c.args.limits _ c.in_err-reader.field-0.0.0 _ (omega (arith, c.bytes-bytes.ensures.capped.bytes)) c.in_err-reader.ensures.refused)

pub returns-clause-begun : goal.returns-clause-begun
returns-clause-begun c =
    let r = c.in_ok-reader.reader in
    let a = c.new-buffered.result in
    let there : r.position ≡ a.position = c.parts_in_slice.ensures.sees.position ∙ sym (ap (λ (x : BufferedBits). x.position) c.new-buffered.ensures) in
    let i : Incoming = record { to_come = Some c.args.source.rest.now; pulls = c.args.source.pulls; failures = 0; accounts = [] } in
    let m = c.new.result in
    let head = c.in_ok-reader.head in
    let values = c.new-3.result.taker in
    let begun = began c.args.limits i head m values r c.bytes-bytes.ensures.capped c.new.ensures.machine (c.new-3.ensures.taker ∙ c.new-2.ensures) c.new.ensures.none c.in_ok-reader.ensures.begun in
    subst (λ (p : ℕ). Begun c.args.limits i (coming_of false c.args.limits head m values None p (reader_seen r a))) there
    (subst (λ (x : Reader). Begun c.args.limits i (coming_of false c.args.limits head m values None r.position x)) (sym (nothing_seen r a there)) begun)

pub invariant_of-result : goal.invariant_of-result
invariant_of-result c =
    let r = c.in_ok-reader.reader in
    let a = c.new-buffered.result in
    let there : r.position ≡ a.position = c.parts_in_slice.ensures.sees.position ∙ sym (ap (λ (x : BufferedBits). x.position) c.new-buffered.ensures) in
    record {
      depth = omega (arith, c.new.ensures.none);
      behind = λ _. omega (arith, there);
      there = λ _ _. omega (arith, there);
      sees = λ _. rw (nothing_seen r a there) (subst (λ (x : BufferedBits). Sees r x) (sym c.new-buffered.ensures) c.parts_in_slice.ensures.sees);
      aligned = λ _ _ _. sym (ap (λ (p : ℕ). p % 8) there) ∙ omega (arith, c.in_ok-reader.ensures.place);
      closed = λ e. absurd (cc);
    }
