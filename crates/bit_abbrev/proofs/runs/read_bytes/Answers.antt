use Rattle.std.proofs.Common.{◌+◌, ◌++◌, length, refl, arith, length-append}
use Rattle.bit_grammar.specs.Grammar.{repeat}
use Rattle.bit_grammar.specs.Fields.{fixed}
use Rattle.bit_fields.specs.Buffered.{reader_at}
use Rattle.bit_abbrev.proofs.Buffered.{took_at}
use Rattle.bit_abbrev.proofs.Several.{far_goes_by}
use Rattle.bit_abbrev.proofs.Taking.{far_begins, far_ends}
use Rattle.bit_abbrev.proofs.runs.read_bytes.Goals as goal

pub returns-clause-adds : goal.returns-clause-adds
returns-clause-adds g c = λ before t.
    let held = c.in_ok-held.held in
    let bytes = c.bytes-bytes.result.now in
    let total = held + length bytes in
    let a = reader_at c.args.buffered.now in
    let b = reader_at c.read_held_bytes.new.buffered in
    let d = reader_at c.bytes-bytes.new.self in
    let took = g.V.ValueTaker.took in
    let first = far_goes_by took c.args.values.now c.read_held_bytes.new.values (fixed 8) total a before 0 a held b (omega arith) (far_begins took c.args.values.now (fixed 8) total a before refl t) c.in_ok-held.ensures.adds in
    let second = far_goes_by took c.read_held_bytes.new.values c.take_bytes.new.self (fixed 8) total a before (0 + held) b (length bytes) d (omega arith) first
    (λ values t. (values ++ bytes, c.in_ok-take_bytes.ensures.ok values t, ((bytes, refl, took_at (repeat (length bytes) (fixed 8)) c.read_held_bytes.new.buffered bytes c.bytes-bytes.new.self c.bytes-bytes.ensures.reads), length-append values bytes))) in
    far_ends took c.take_bytes.new.self (fixed 8) total a before (0 + held + length bytes) d (omega arith) (omega arith) second
