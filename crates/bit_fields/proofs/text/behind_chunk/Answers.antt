use Rattle.std.proofs.Common.{◌≡◌, ℕ, ◌+◌, ◌-◌, ◌≤◌, List, [], ◌++◌, length, take, drop, replicate, ap, sym, ◌∙◌, arith, length-drop}
use Rattle.std.proofs.lemmas.List.{take_all}
use Rattle.bit_fields.proofs.BitLaws.{left_after}
use Rattle.bit_fields.proofs.text.behind_chunk.Goals as goal

filled : (bytes first part more next : List ℕ) (len : ℕ) → 1048576 ≤ length bytes → length bytes ≤ 1081344 → first ≡ [] → drop 1048576 bytes ≡ part → more ≡ first ++ part → len ≡ length more → next ≡ take 1081344 more ++ replicate (1081344 - len) 0 → next ≡ drop 1048576 bytes ++ replicate (2129920 - length bytes) 0
filled bytes first part more next len some few first_is part_is more_is len_is next_is =
    let all : more ≡ drop 1048576 bytes = more_is ∙ ap (λ (xs : List ℕ). xs ++ part) first_is ∙ sym part_is in
    let size : length more + 1048576 ≡ length bytes = omega (arith, ap length all, length-drop 1048576 bytes, some) in
    let count : 1081344 - len ≡ 2129920 - length bytes = omega (arith, len_is, size) in
    next_is ∙ ap (λ (xs : List ℕ). xs ++ replicate (1081344 - len) 0) (take_all 1081344 more (omega (arith, size, few)) ∙ all) ∙ ap (λ (k : ℕ). drop 1048576 bytes ++ replicate k 0) count

pub returns : goal.returns
returns c =
    filled c.args.bytes.now c.in_ok-next.next.items _ c.extend_from_slice.new.self.items c.resize.new.self.items c.extend_from_slice.new.self.len c.requires.some c.requires.few c.in_ok-next.ensures.items (left_after 1048576 c.args.bytes.now) c.in_ok-extend_from_slice.ensures.items (omega (arith, c.extend_from_slice.new.self.ok.0)) c.in_ok-resize.ensures.items
