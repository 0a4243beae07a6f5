use Rattle.std.proofs.Common.{◌+◌, ◌-◌, ◌∷◌, List, arith, drop, subst, sym}
use Rattle.std.proofs.lemmas.Result.{err_from_is_err_and}
use Rattle.bit_grammar.specs.declared.op.Op.{Op}
use Rattle.bit_grammar.specs.declared.op.Op.TheVariants.{Array, Blob}
use Rattle.bit_grammar.specs.Record.{singles, values_of}
use Rattle.bit_grammar.specs.FormatDefinition.{op_at}
use Rattle.bit_abbrev.specs.Values.{AddsFew, Gains}
use Rattle.bit_abbrev.proofs.Missing.{answers_so}
use Rattle.bit_abbrev.proofs.Records.{front_single, front_fails, front_is_all, front_then, blob_behind, array_behind}
use Rattle.bit_abbrev.proofs.record.read_values.Goals as goal

pub read_singles-requires-clause-single : goal.read_singles-requires-clause-single
read_singles-requires-clause-single g c = rw c.requires.singles (front_single c.args.ops.now)

pub returns-in_err-read_singles-clause-adds : goal.returns-in_err-read_singles-clause-adds
returns-in_err-read_singles-clause-adds g c =
    let ops = c.args.ops.now in
    let count = singles ops in
    let failed = err_from_is_err_and c.from_residual.result c.from_residual.ensures.1 in
    let first = rw c.requires.singles at (c.in_err-read_singles.ensures.adds (c.args.room - count) (drop count ops)) in
    rw (failed.1, failed.2) (λ fault stands before t.
    let h = first fault stands before t in
    (h.0, h.1, front_fails c.args.room ops (g.B.Bits.as_reader c.args.bits.now) fault before h.0 (g.B.Bits.as_reader c.read_singles.new.bits) h.2))

pub read_array-requires-clause-element : goal.read_array-requires-clause-element
read_array-requires-clause-element g c = rw c.requires.singles (array_behind c.args.ops.now c.requires.order (omega (arith, c.requires.singles))).1

pub returns-then-last-eq0-clause-adds : goal.returns-then-last-eq0-clause-adds
returns-then-last-eq0-clause-adds g c = λ before t.
    let ops = c.args.ops.now in
    let count = singles ops in
    let first = rw c.requires.singles at (c.in_ok-read_singles.ensures.adds (c.args.room - count) (drop count ops)) in
    let h = first before t in
    (h.0, h.1, front_is_all c.args.room ops (g.B.Bits.as_reader c.args.bits.now) (g.B.Bits.as_reader c.read_singles.new.bits) before h.0 c.requires.fits (omega (arith, c.requires.singles)) h.2)

pub returns-then-last-eq1-clause-adds : goal.returns-then-last-eq1-clause-adds
returns-then-last-eq1-clause-adds g c =
    let ops = c.args.ops.now in
    let count = singles ops in
    let room = c.args.room - count in
    let a = g.B.Bits.as_reader c.args.bits.now in
    let b = g.B.Bits.as_reader c.read_singles.new.bits in
    let d = g.B.Bits.as_reader c.read_blob.new.bits in
    let first = rw c.requires.singles at (c.in_ok-read_singles.ensures.adds room (drop count ops)) in
    let blob = rw c.requires.singles at (c.read_blob.ensures.adds (drop (count + 1) ops)) in
    let next = blob_behind ops c.requires.order (omega (arith, c.requires.singles)) in
    answers_so g.B.Bits.faults (λ r. Gains g.V.ValueTaker.took c.read_singles.new.values c.read_blob.new.values (AddsFew (values_of room (Blob ∷ drop (count + 1) ops)) room b r d))
    (λ r. Gains g.V.ValueTaker.took c.args.values.now c.read_blob.new.values (AddsFew (values_of room ops) c.args.room a r d)) c.read_blob.result
    (λ r gains before t.
    let h = first before t in
    let k = gains h.0 h.1 in
    (k.0, k.1, front_then c.args.room ops a b before h.0 k.0 r d c.requires.fits h.2 (subst (λ (tail : List Op). AddsFew (values_of room tail) room b r d h.0 k.0) (sym next) k.2)))
    blob

pub returns-clause-adds : goal.returns-clause-adds
returns-clause-adds g c =
    let ops = c.args.ops.now in
    let count = singles ops in
    let room = c.args.room - count in
    let a = g.B.Bits.as_reader c.args.bits.now in
    let b = g.B.Bits.as_reader c.read_singles.new.bits in
    let d = g.B.Bits.as_reader c.read_array.new.bits in
    let first = rw c.requires.singles at (c.in_ok-read_singles.ensures.adds room (drop count ops)) in
    let array = rw c.requires.singles at (c.read_array.ensures.adds (drop (count + 1 + 1) ops)) in
    let next = (array_behind ops c.requires.order (omega (arith, c.requires.singles))).0 in
    answers_so g.B.Bits.faults (λ r. Gains g.V.ValueTaker.took c.read_singles.new.values c.read_array.new.values (AddsFew (values_of room (Array ∷ op_at ops (count + 1) ∷ drop (count + 1 + 1) ops)) room b r d))
    (λ r. Gains g.V.ValueTaker.took c.args.values.now c.read_array.new.values (AddsFew (values_of room ops) c.args.room a r d)) c.read_array.result
    (λ r gains before t.
    let h = first before t in
    let k = gains h.0 h.1 in
    (k.0, k.1, front_then c.args.room ops a b before h.0 k.0 r d c.requires.fits h.2 (subst (λ (tail : List Op). AddsFew (values_of room tail) room b r d h.0 k.0) (sym next) k.2)))
    array
