use Rattle.std.proofs.Common.{◌≡◌, ◌-◌, ◌∙◌, ℕ, List, true, Option, None, Some, Ok, Err, arith, refl, subst, sym}
use Rattle.std.proofs.lemmas.Result.{err_from_is_err_and}
use Rattle.bit_grammar.specs.Input.{any_bits}
use Rattle.bit_fields.specs.Reader.{Reader, Why}
use Rattle.bit_events.specs.declared.machine.Step.{Step}
use Rattle.bit_events.specs.Coming.{Coming, Goes}
use Rattle.bit_events.specs.Events.{coming_of}
use Rattle.bit_events.specs.MachineView.{step_shown, step_lent}
use Rattle.bit_events.specs.Next.{FindsEvent, FindsNext}
use Rattle.bit_events.specs.SliceEvents.{reader_seen}
use Rattle.bit_events.proofs.Advancing.{kept_goes, kept_misses, kept_ends, values_held}
use Rattle.bit_events.proofs.InSlices.{found_behind, seen_at, nothing_seen, not_caught, like_seen}
use Rattle.bit_events.proofs.slice_events.SliceEvents.find.Goals as goal

pub returns-in_err-catch_up : goal.returns-in_err-catch_up
returns-in_err-catch_up c =
    let p = err_from_is_err_and c.from_residual.result c.from_residual.ensures.1 in
    let s = c.self.inside in
    let live = sym c.is_live.ensures ∙ c.if-not-is_live.false in
    let bits : c.position.result - c.position-2.result ≡ s.buffered.position - s.reader.position = omega (arith, c.position.ensures, c.position-2.ensures.position) in
    let why = subst (λ (n : ℕ). Why (any_bits n) s.reader c.in_err-catch_up.field-0.0 c.catch_up.new.self) bits c.in_err-catch_up.ensures.takes in
    rw (← c.self.view_is, p.1, p.2) (kept_misses s.over s.limits s.head s.machine s.machine s.values.taker s.values.taker s.found s.buffered.position (reader_seen s.reader s.buffered) c.catch_up.new.self (reader_seen c.catch_up.new.self s.buffered) c.in_err-catch_up.field-0.0 c.if-self.false (omega arith) (not_caught s.limits s.machine s.reader s.buffered c.in_err-catch_up.field-0.0 c.catch_up.new.self live c.self.invariant why) (like_seen c.catch_up.new.self s.buffered))

pub returns-in_err-step : goal.returns-in_err-step
returns-in_err-step c =
    let p = err_from_is_err_and c.from_residual-in_err-step.result c.from_residual-in_err-step.ensures.1 in
    let s = c.self.inside in
    let live = sym c.is_live.ensures ∙ c.if-not-is_live.false in
    let finds = found_behind s.limits s.machine c.next_lent.new.self s.reader s.buffered c.catch_up.new.self c.next_lent.new.reader c.in_err-step.ensures.finds.0 (c.position.result - c.position-2.result) (Err c.in_err-step.field-0.0) live c.self.invariant (omega (arith, c.position.ensures, c.position-2.ensures.position)) c.in_ok-catch_up.ensures.takes c.in_ok-catch_up.ensures.moves c.in_err-step.ensures.finds.2 in
    rw (← c.self.view_is, p.1, p.2) (kept_misses s.over s.limits s.head s.machine c.next_lent.new.self s.values.taker c.next_lent.new.values.taker s.found s.buffered.position (reader_seen s.reader s.buffered) c.next_lent.new.reader (reader_seen c.next_lent.new.reader s.buffered) c.in_err-step.field-0.0 c.if-self.false c.in_err-step.ensures.fewer finds (like_seen c.next_lent.new.reader s.buffered))

pub returns-in_default : goal.returns-in_default
returns-in_default c =
    let s = c.self.inside in
    let live = sym c.is_live.ensures ∙ c.if-not-is_live.false in
    let given = subst (λ (o : Option Step). FindsNext s.limits s.machine c.catch_up.new.self c.in_ok-step.ensures.finds.0 (Ok o) c.next_lent.new.self c.next_lent.new.reader) c.in_default.is c.in_ok-step.ensures.finds.2 in
    let finds = found_behind s.limits s.machine c.next_lent.new.self s.reader s.buffered c.catch_up.new.self c.next_lent.new.reader c.in_ok-step.ensures.finds.0 (c.position.result - c.position-2.result) (Ok None) live c.self.invariant (omega (arith, c.position.ensures, c.position-2.ensures.position)) c.in_ok-catch_up.ensures.takes c.in_ok-catch_up.ensures.moves given in
    rw (← c.self.view_is) (kept_ends s.over true s.limits s.head s.machine c.next_lent.new.self s.values.taker c.next_lent.new.values.taker s.found s.buffered.position s.buffered.position (reader_seen s.reader s.buffered) c.next_lent.new.reader (reader_seen c.next_lent.new.reader s.buffered) c.if-self.false refl (sym (seen_at live c.self.invariant)) refl finds (like_seen c.next_lent.new.reader s.buffered))

pub returns : goal.returns
returns c =
    let s = c.self.inside in
    let live = sym c.is_live.ensures ∙ c.if-not-is_live.false in
    let next = c.new-self-inside.result in
    let given = subst (λ (o : Option Step). FindsNext s.limits s.machine c.catch_up.new.self c.in_ok-step.ensures.finds.0 (Ok o) c.next_lent.new.self c.next_lent.new.reader) c.in-Some.is c.in_ok-step.ensures.finds.2 in
    let finds = found_behind s.limits s.machine c.next_lent.new.self s.reader s.buffered c.catch_up.new.self c.next_lent.new.reader c.in_ok-step.ensures.finds.0 (c.position.result - c.position-2.result) (Ok (Some c.in-Some.step)) live c.self.invariant (omega (arith, c.position.ensures, c.position-2.ensures.position)) c.in_ok-catch_up.ensures.takes c.in_ok-catch_up.ensures.moves given in
    let there : c.next_lent.new.reader.position ≡ next.position = rw (c.new-self-inside.ensures) c.parts_in_slice.ensures.sees.position in
    let keeps = rw c.in-Some.is at c.in_ok-step.ensures.keeps in
    let event = subst (λ (list : List ℕ). FindsEvent s.limits s.machine (reader_seen s.reader s.buffered) (step_shown c.next_lent.new.self list c.in-Some.step) c.next_lent.new.self c.next_lent.new.reader) (sym c.in_ok-step.ensures.finds.1) finds.0 in
    subst (λ (old : Coming). Goes old (Ok (step_lent c.next_lent.new.self c.next_lent.new.values.taker c.in-Some.step)) (coming_of s.over s.limits s.head c.next_lent.new.self c.next_lent.new.values.taker (Some c.in-Some.step) next.position (reader_seen c.next_lent.new.reader next))) c.self.view_is
    (subst (λ (r : Reader). Goes (coming_of s.over s.limits s.head s.machine s.values.taker s.found s.buffered.position (reader_seen s.reader s.buffered)) (Ok (step_lent c.next_lent.new.self c.next_lent.new.values.taker c.in-Some.step)) (coming_of s.over s.limits s.head c.next_lent.new.self c.next_lent.new.values.taker (Some c.in-Some.step) next.position r)) (sym (nothing_seen c.next_lent.new.reader next there))
    (kept_goes s.over s.over s.limits s.head s.machine c.next_lent.new.self s.values.taker c.next_lent.new.values.taker s.found c.in-Some.step s.buffered.position next.position (reader_seen s.reader s.buffered) c.next_lent.new.reader c.if-self.false c.if-self.false (sym (seen_at live c.self.invariant)) (sym there) event (rw c.in-Some.is at c.in_ok-step.ensures.lends) (values_held (λ (v : List ℕ). v) c.next_lent.new.self c.in-Some.step s.values.taker c.next_lent.new.values.taker keeps) finds.1 (omega (arith, there, c.parts_in_slice.ensures.sees.position, c.parts_in_slice.ensures.lawful.fits))))
