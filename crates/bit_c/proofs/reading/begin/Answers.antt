use Rattle.std.proofs.Common.{List, ℕ, Err, refl, ap}
use Rattle.bit_fields.specs.Devices.{Incoming}
use Rattle.bit_events.proofs.WholeInputs.{not_begun}
use Rattle.bit_c.specs.Bytes.{bytes_in}
use Rattle.bit_c.specs.Calls.{FailsCall}
use Rattle.bit_c.proofs.Inputs.{not_read}
use Rattle.bit_c.proofs.Sources.{come_back}
use Rattle.bit_c.proofs.reading.begin.Goals as goal

pub returns-in-Err : goal.returns-in-Err
returns-in-Err c =
    let bytes = bytes_in c.args.bytes in let declined = c.in-Err.ensures.declined in (
      not_read (λ (bytes : List ℕ) (_ : Unit {0}). Unit {0}) c.args.limits _ _ bytes 0 (Err c.in-Err.fault) c.in-Err.fault c.of.result (FailsCall c.args.limits bytes)
          (ap (λ (i : Incoming). i.to_come) c.new.ensures) refl c.of.ensures (λ reason bit breaks. (refl, breaks)) tt (not_begun (λ (bytes : List ℕ) (_ : Unit {0}). Unit {0}) c.args.limits _ _ c.in-Err.fault declined),
      come_back c.args.limits _ _ c.in-Err.fault c.args.bytes c.into_bytes.result (ap (λ (i : Incoming). i.accounts) c.new.ensures) c.into_bytes.ensures declined,
    )
