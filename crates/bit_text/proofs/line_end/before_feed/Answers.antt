use Rattle.std.proofs.Common.{ℕ, ◌+◌, ◌<◌, ◌∙◌, sym, subst, arith, map, eqb, w8}
use Rattle.std.specs.Int.Count.{count_trailing_zeros}
use Rattle.std.specs.Simd.Lanes.{chunk, mask_l}
use Rattle.std.proofs.lemmas.Simd.{bitmask_splat, length-chunk, trailing_mask_l}
use Rattle.bit_text.specs.Places.{IsLineEnd}
use Rattle.bit_text.proofs.Places.{feeds, no_feed, first_feed}
use Rattle.bit_text.proofs.line_end.before_feed.Goals as goal

pub returns-then-feeds-eq0 : goal.returns-then-feeds-eq0
returns-then-feeds-eq0 c =
    let text = c.args.bytes.now in
    let i = c.args.from in
    let long = length-chunk i 16 text c.requires in
    no_feed text i c.requires (sym (bitmask_splat w8 eqb (chunk i 16 text) 16 10 long (omega arith)) ∙ c.if-feeds-eq0.true)

pub returns-else-feeds-eq0 : goal.returns-else-feeds-eq0
returns-else-feeds-eq0 c =
    let text = c.args.bytes.now in
    let i = c.args.from in
    let long = length-chunk i 16 text c.requires in
    let marks = mask_l (map feeds (chunk i 16 text)) in
    let same = bitmask_splat w8 eqb (chunk i 16 text) 16 10 long (omega arith) in
    let some : 0 < marks = omega (arith, same, c.if-feeds-eq0.false) in
    subst (λ (m : ℕ). IsLineEnd text i (i + 16) (i + count_trailing_zeros 64 m)) (sym same) (first_feed text i (count_trailing_zeros 64 marks) c.requires (trailing_mask_l feeds 64 (chunk i 16 text) (omega (arith, long)) some))
