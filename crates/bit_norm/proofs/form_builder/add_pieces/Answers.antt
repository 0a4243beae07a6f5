use Rattle.std.proofs.Common.{◌≡◌, ◌+◌, ◌-◌, ◌/◌, ◌<◌, ◌++◌, ℕ, List, Bool, length, take, drop, sym, ap, ◌∙◌, arith, append_assoc, length-append}
use Rattle.std.proofs.Math.Seq.{take-add}
use Rattle.std.proofs.lemmas.List.{append-nil, drop_all, length-take}
use Rattle.bit_grammar.specs.Normal.{values_bits}
use Rattle.bit_norm.specs.Writing.{record_front, record_text}
use Rattle.bit_norm.proofs.Building.{record_in_parts}
use Rattle.bit_norm.proofs.ValueTexts.{values_few, values_text-append}
use Rattle.bit_norm.proofs.form_builder.add_pieces.Goals as goal

pub returns-then-is_long : goal.returns-then-is_long
returns-then-is_long c =
    let text = c.args.text.now in
    let list = c.args.values.now in
    let rest = values_bits (drop c.loop-done.done list) in
    let all : length (c.loop-done.text ++ rest) ≡ length (text ++ record_text c.args.code list (length text)) = ap length (record_in_parts text c.loop-done.text c.args.code c.loop-done.done list c.loop-done.invariant.text) in
    let over : c.args.limits.bytes < length (text ++ record_text c.args.code list (length text)) / 8 = omega (arith, c.is_long.ensures.yes c.if-is_long.true, all, length-append c.loop-done.text rest) in
    over

pub numbers-requires : goal.numbers-requires
numbers-requires c =
    let others = drop c.loop-done.done c.args.values.now in
    let count = c.loop-done.done + c.min-count.result - c.loop-done.done in
    omega (arith, c.is_long.ensures.few c.if-is_long.false, values_few (take count others), length-take count others, c.min-count.ensures)

pub loop-done-preserved : goal.loop-done-preserved
loop-done-preserved c =
    let list = c.args.values.now in
    let done = c.loop-done.done in
    let count = c.min-count.result in
    let front = c.args.text.now ++ record_front c.args.code (length list) in
    let first = take done list in
    let piece = take (done + count - done) (drop done list) in
    let wide : done + count - done ≡ count = omega arith in
    let same : first ++ piece ≡ take (done + count) list = ap (λ (n : ℕ). first ++ take n (drop done list)) wide ∙ sym (take-add done count list) in
    record {
      within = omega (arith, c.min-count.ensures);
      text =
          c.in_ok-numbers.ensures
          ∙ ap (λ (s : List Bool). s ++ values_bits piece) c.loop-done.invariant.text
          ∙ append_assoc front (values_bits first) (values_bits piece)
          ∙ ap (λ (s : List Bool). front ++ s) (sym (values_text-append first piece) ∙ ap values_bits same);
    }

pub returns : goal.returns
returns c =
    let text = c.loop-done.text in
    let list = c.args.values.now in
    let none = drop_all c.loop-done.done list c.loop-done-test.false in
    sym (append-nil text)
    ∙ ap (λ (vs : List ℕ). text ++ values_bits vs) (sym none)
    ∙ record_in_parts c.args.text.now text c.args.code c.loop-done.done list c.loop-done.invariant.text
