use Rattle.std.proofs.Common.{List, ℕ, refl, ap}
use Rattle.bit_grammar.specs.Input.{SpellsInput}
use Rattle.bit_grammar.specs.Terms.{Marked}
use Rattle.bit_fields.specs.Devices.{Incoming}
use Rattle.bit_c.specs.Calls.{Checks}
use Rattle.bit_c.proofs.Inputs.{not_read}
use Rattle.bit_c.proofs.checking.judge.Goals as goal

pub returns-in-Err : goal.returns-in-Err
returns-in-Err c =
    not_read (λ (bytes : List ℕ) (_ : Unit {0}). (m : Marked) × SpellsInput c.args.limits bytes m) c.args.limits _ _ c.args.bytes.now 0 c.check-answer.result.0 c.in-Err.fault c.of.result
    (Checks c.args.limits c.args.bytes.now) (ap (λ (i : Incoming). i.to_come) c.new.ensures) c.in-Err.is c.of.ensures (λ reason bit breaks. (refl, breaks)) tt c.check-answer.ensures
