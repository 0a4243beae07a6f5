use Rattle.std.proofs.Common.{refl, ap}
use Rattle.bit_fields.specs.Devices.{Incoming}
use Rattle.bit_scan.specs.Analysing.{HasTally}
use Rattle.bit_c.specs.declared.outcome.Outcome.{Outcome}
use Rattle.bit_c.specs.Rows.{Analyses, no_tally}
use Rattle.bit_c.proofs.Inputs.{not_read}
use Rattle.bit_c.proofs.analysing.analyse_under.Goals as goal

pub returns-in-Err : goal.returns-in-Err
returns-in-Err c =
    not_read (HasTally c.args.limits) c.args.limits _ _ c.args.bytes.now 0 c.analyse_with_hasher-answer.result.0 c.in-Err.fault c.of.result
    (λ (o : Outcome). Analyses c.args.limits c.args.bytes.now no_tally c.args.block_room.now c.args.block_room.now c.args.code_room.now c.args.code_room.now o)
    (ap (λ (i : Incoming). i.to_come) c.new.ensures) c.in-Err.is c.of.ensures (λ reason bit breaks. ((refl, breaks), refl, (refl, refl))) (tt, refl, (refl, refl)) c.analyse_with_hasher-answer.ensures
