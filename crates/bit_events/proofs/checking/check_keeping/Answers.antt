use Rattle.std.proofs.Common.{◌≡◌, ℕ, List, Vec}
use Rattle.std.specs.Global.{Global}
use Rattle.bit_grammar.specs.Input.{SpellsInput}
use Rattle.bit_grammar.specs.Terms.{Marked}
use Rattle.bit_events.proofs.Kept.{stands, kept_misread, kept_lost, kept_read}
use Rattle.bit_events.proofs.checking.check_keeping.Goals as goal

pub returns-in-Ok-Ok : goal.returns-in-Ok-Ok
returns-in-Ok-Ok g c =
    kept_read (λ (bytes : List ℕ). (m : Marked) × SpellsInput c.args.limits bytes m) c.args.limits c.in-Ok-Ok.bytes.items (g.S.Source.incoming c.args.source) _ _ (g.S.Source.incoming c.into_parts-kept.result.1) c.in-Ok-Ok.field-0-0 c.new.ensures (rw c.in-Ok-Ok.is-1 at c.into_parts-kept.ensures) (rw c.in-Ok-Ok.is-0 at c.check-answer.ensures)

pub returns-in-Ok-Err : goal.returns-in-Ok-Err
returns-in-Ok-Err g c =
    kept_lost (λ bytes _. (m : Marked) × SpellsInput c.args.limits bytes m) c.args.limits (g.S.Source.incoming c.args.source) _ _ (g.S.Source.incoming c.into_parts-kept.result.1) c.in-Ok-Err.field-0-0 c.new.ensures (stands (λ v. v.items) c.into_parts-kept.result.0 _ _ c.into_parts-kept.ensures) (rw c.in-Ok-Err.is-0 at c.check-answer.ensures)

pub returns-in-Err-default : goal.returns-in-Err-default
returns-in-Err-default g c =
    let Accepted : List ℕ → Type 0 = λ bytes. (m : Marked) × SpellsInput c.args.limits bytes m in
    let Holds : List ℕ → Unit {0} → Type 0 = λ bytes _. Accepted bytes in
    let Others : List ℕ → Vec ℕ Global → Type 0 = λ bytes kept. (kept.items ≡ bytes) × Accepted bytes in
    kept_misread Holds Others c.args.limits (g.S.Source.incoming c.args.source) _ _ (g.S.Source.incoming c.into_parts-kept.result.1) c.in-Err-default.fault c.new.ensures (stands (λ v. v.items) c.into_parts-kept.result.0 _ _ c.into_parts-kept.ensures) (rw c.in-Err-default.is-0 at c.check-answer.ensures)
