use Rattle.std.proofs.Common.{◌∙◌, arith}
use Rattle.bit_grammar.specs.Bits.{bits_of_bytes}
use Rattle.bit_fields.proofs.Pens.{filling_starts, later_bytes, bytes_next, bytes_one, bytes_ended}
use Rattle.bit_fields.proofs.pen.put_bytes.Goals as goal

pub loop-rest-init : goal.loop-rest-init
loop-rest-init c = record {
  filling = filling_starts bits_of_bytes 8 64 c.args.at c.args.bytes.now c.args.values.now c.requires.room c.requires.counted;
  small = λ k. omega (arith, c.type_inv.values k);
}

pub loop-rest-preserved : goal.loop-rest-preserved
loop-rest-preserved c =
    let rest = c.loop-rest.rest.now in
    record {
      filling = bytes_next c.args.at c.args.bytes.now c.loop-rest.pen c.loop-rest.bytes c.put-pen.result c.put-pen.new.bytes c.args.values.now rest c.from.result
          c.in-len4-up.len_at_least c.loop-rest.invariant.small (c.from.ensures ∙ c.from_le_bytes.ensures) c.loop-rest.invariant.filling c.put-pen.ensures;
      small = later_bytes rest c.in-len4-up.len_at_least c.loop-rest.invariant.small;
    }

pub loop-value-init : goal.loop-value-init
loop-value-init c = c.loop-rest.invariant.filling

pub loop-value-preserved : goal.loop-value-preserved
loop-value-preserved c =
    let rest = c.loop-rest.rest.now in
    bytes_one c.args.at c.args.bytes.now c.loop-value.pen c.loop-value.bytes c.put-pen-in-loop-value.result c.put-pen-in-loop-value.new.bytes c.args.values.now rest c.loop-value.value-index c.from-in-loop-value.result
    (omega (arith, c.loop-value-test.true)) c.from-in-loop-value.ensures c.loop-value.invariant c.put-pen-in-loop-value.ensures

pub returns : goal.returns
returns c = bytes_ended c.args.at c.args.bytes.now c.loop-value.pen c.loop-value.bytes c.args.values.now c.loop-rest.rest.now c.loop-value.value-index (omega (arith, c.loop-value-test.false)) c.loop-value.invariant
