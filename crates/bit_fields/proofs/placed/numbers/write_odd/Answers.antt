use Rattle.std.proofs.Common.{◌≡◌, ℕ, ◌+◌, ◌-◌, ◌≤◌, length, drop, max, sym, ap, subst, arith, length-drop}
use Rattle.bit_grammar.specs.Bits.{bits_of_bytes}
use Rattle.bit_fields.specs.Buffered.{BufferedBits}
use Rattle.bit_fields.specs.Pens.{WritesSixes}
use Rattle.bit_fields.specs.Placed.{bits_at}
use Rattle.bit_fields.specs.PlacedView.{placed}
use Rattle.bit_fields.proofs.Placing.{length_at}
use Rattle.bit_fields.proofs.SixRows.{behind_at}
use Rattle.bit_fields.proofs.WrittenSixes.{sixes_long, sixes_moved}
use Rattle.bit_fields.proofs.placed.numbers.write_odd.Goals as goal

pub front-rest-requires-clause-there : goal.front-rest-requires-clause-there
front-rest-requires-clause-there c =
    let rest = ap (λ (a : BufferedBits). length a.bits) c.after.ensures.rest in
    omega (arith, rest, length-drop 48 (drop c.args.place (bits_of_bytes c.args.from.now)), length_at c.args.place c.args.from.now, c.requires.there)

pub returns-then-front-ne0-clause-writes : goal.returns-then-front-ne0-clause-writes
returns-then-front-ne0-clause-writes c = λ some start. (
    let place = c.args.place in
    let from = c.args.from.now in
    let first = c.args.first in
    let old = c.args.bytes.now in
    let new = c.put.new.bytes in
    let len = c.in-Some.len in
    let a : BufferedBits = bits_at 0 place from in
    let b : BufferedBits = bits_at 0 (place + len) from in
    let last : BufferedBits = placed c.after-last.result in
    let rest : BufferedBits = placed c.after.result in
    let last_has : 70 ≤ length last.bits = c.has.ensures c.if-has.true in
    let more : 64 ≤ length b.bits = omega (arith, last_has, ap (λ (x : BufferedBits). length x.bits) c.after-last.ensures.rest, length-drop (len - 6) a.bits, length_at place from, length_at (place + len) from, c.in-Some.ensures.least) in
    let one : WritesSixes 1 a first old c.put.result b new = sixes_long len c.front-then-front-ne0.result c.front-rest.result first c.put-pen.result c.put.result a b last rest c.front.result old c.put-pen.new.bytes new
    c.in-Some.ensures.has c.in-Some.ensures.least c.after-last.ensures.rest c.front.ensures.front c.front.ensures.below c.if-front-ne0.true c.after.ensures.rest c.front-then-front-ne0.ensures.front c.front-rest.ensures.front (behind_at 0 place len from) more c.put-pen.ensures c.put.ensures in
    let count : max c.args.some 1 ≡ 1 = omega arith in
    subst (λ (n : ℕ). WritesSixes n (bits_at start place from) first old c.put.result (bits_at start (place + len) from) new) (sym count) (sixes_moved start 1 place (place + len) first c.put.result b from old new (omega arith) one)
    )
