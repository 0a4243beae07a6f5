use Rattle.std.proofs.Common.{sym, ◌∙◌}
use Rattle.bit_norm.specs.Entries.{has_record}
use Rattle.bit_norm.specs.InStep.{stand_of}
use Rattle.bit_norm.specs.declared.in_step.Weighed.TheVariants.{Passed, Stands}
use Rattle.bit_norm.proofs.InStep.{stepped, took_behind}
use Rattle.bit_norm.proofs.in_step.next_beside_record.Goals as goal

pub returns-in-Some-Stands : goal.returns-in-Some-Stands
returns-in-Some-Stands c = λ tells.
    let s = stand_of c.args.walk.now c.args.ended in
    let blocks = c.events.blocks in
    let sign = has_record c.args.code c.args.values.now in
    let now = c.events.invariant tells in
    let read = rw c.in-Some-Stands.is at c.in_ok-beside.ensures.some in
    let next = rw c.in-Some-Stands.field-0-is at read in
    took_behind c.args.blocks.now blocks blocks s c.args.events.now c.events.events c.weigh_record.new.events sign c.in-Some-Stands.beside c.weigh_record.new.apart now.1
    (stepped blocks blocks s c.events.events c.weigh_record.new.events next.event sign (Stands c.in-Some-Stands.beside) c.weigh_record.new.apart next.gave (sym next.stays) (next.weighs c.args.ended) now.0)

pub events-preserved-in-Some-Passed : goal.events-preserved-in-Some-Passed
events-preserved-in-Some-Passed c = λ tells.
    let s = stand_of c.args.walk.now c.args.ended in
    let blocks = c.events.blocks in
    let sign = has_record c.args.code c.args.values.now in
    let now = c.events.invariant tells in
    let read = rw c.in-Some-Passed.is at c.in_ok-beside.ensures.some in
    let next = rw c.in-Some-Passed.field-0-is at read in
    let passed = stepped blocks blocks s c.events.events c.weigh_record.new.events next.event sign Passed c.weigh_record.new.apart next.gave (sym next.stays) (next.weighs c.args.ended) in
    (passed.tells now.0, now.1 ∙ passed.same now.0)
