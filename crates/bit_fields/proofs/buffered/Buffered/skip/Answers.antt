use Rattle.std.proofs.Common.{◌≡◌, ◌-◌, ◌/◌, ◌%◌, ℕ, List, refl, ap, length, take, drop, arith}
use Rattle.std.proofs.lemmas.List.{take_all, length-drop}
use Rattle.bit_fields.specs.Buffered.{BufferedBits, beyond}
use Rattle.bit_fields.proofs.LentParts.{buffered_of, behind_there, bits_passed}
use Rattle.bit_fields.proofs.buffered.Buffered.skip.Goals as goal
use Rattle.bit_fields.proofs.buffered.Buffered.skip.Goals.{After-bytes-2-1}

rest_of : (bytes : List ℕ) (whole : ℕ) → take (length bytes - whole) (drop whole bytes) ≡ drop whole bytes
rest_of bytes whole = take_all (length bytes - whole) (drop whole bytes) (omega (arith, length-drop whole bytes))

passed : (c : After-bytes-2-1) → buffered_of c.self.inside.end c.rest_of_byte-window.result.0 c.rest_of_byte-window.result.1.now ≡ beyond c.args.self.now c.args.bits
passed c =
    let behind = c.args.bits - c.from-held.result in
    let bytes = c.self.inside.bytes.now in
    let rest = rest_of bytes (behind / 8) in
    let there = behind_there c.self.inside.end c.args.bits c.from-held.result c.args.self.now c.self.inside.window c.self.inside.bytes.now c.self.view_is c.requires (omega (arith, c.from-held.ensures, c.len.ensures.length)) in
    let short : length (drop (behind / 8) bytes) ≡ length bytes - behind / 8 = length-drop (behind / 8) bytes in
    bits_passed c.self.inside.end c.args.bits behind (behind / 8) (behind % 8) c.args.self.now c.self.inside.window c.rest_of_byte-window.result.0 bytes (drop (behind / 8) bytes) c.rest_of_byte-window.result.1.now c.self.view_is c.self.invariant
    (omega (arith, c.if-bits-held.false, c.from-held.ensures, c.len.ensures.length)) (omega arith) there.0 (omega (arith, short, there.1)) refl (rw rest at c.rest_of_byte-window.ensures.bits) (rw rest at c.rest_of_byte-window.ensures.fewer)

pub slice_bounds-rest_of_byte-count : goal.slice_bounds-rest_of_byte-count
slice_bounds-rest_of_byte-count c = (behind_there c.self.inside.end c.args.bits c.from-held.result c.args.self.now c.self.inside.window c.self.inside.bytes.now c.self.view_is c.requires (omega (arith, c.from-held.ensures, c.len.ensures.length))).0

pub slice_bounds-rest_of_byte-start : goal.slice_bounds-rest_of_byte-start
slice_bounds-rest_of_byte-start c = (behind_there c.self.inside.end c.args.bits c.from-held.result c.args.self.now c.self.inside.window c.self.inside.bytes.now c.self.view_is c.requires (omega (arith, c.from-held.ensures, c.len.ensures.length))).0

pub rest_of_byte-window-requires-clause-there : goal.rest_of_byte-window-requires-clause-there
rest_of_byte-window-requires-clause-there c = rw (rest_of c.self.inside.bytes.now ((c.args.bits - c.from-held.result) / 8), length-drop ((c.args.bits - c.from-held.result) / 8) c.self.inside.bytes.now) (behind_there c.self.inside.end c.args.bits c.from-held.result c.args.self.now c.self.inside.window c.self.inside.bytes.now c.self.view_is c.requires (omega (arith, c.from-held.ensures, c.len.ensures.length))).1

pub returns-clause-skipped : goal.returns-clause-skipped
returns-clause-skipped c = passed c

pub returns-clause-moves : goal.returns-clause-moves
returns-clause-moves c = ap (λ (a : BufferedBits). a.position) (passed c)
