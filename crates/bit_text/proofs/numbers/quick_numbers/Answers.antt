use Rattle.std.proofs.Common.{◌≡◌, ◌+◌, ◌<◌, get_or, refl, take, ◌∙◌, arith}
use Rattle.std.proofs.lemmas.List.{get_or-take, length-set, take_more_set}
use Rattle.bit_text.proofs.Digits.{word_done, word_there}
use Rattle.bit_text.proofs.numbers.quick_numbers.Goals as goal

pub loop-from-preserved : goal.loop-from-preserved
loop-from-preserved c =
    let text = c.args.text.now in
    let end = c.args.end in
    let from = c.loop-from.from in
    let count = c.loop-from.count in
    let n = c.quick_word-n.result.0 in
    let to = c.quick_word-n.result.1 in
    let more : from < to = omega (arith, c.quick_word-n.ensures.low, c.if-to-from.false) in
    let room : count < 256 = omega (arith, c.loop-from.invariant.few, c.requires.short, c.loop-from-test.true) in
    record {
      long = length-set c.loop-from.batch count n ∙ c.loop-from.invariant.long;
      few = omega (arith, c.loop-from.invariant.few, more);
      reading = λ within.
          let inside : to < end = omega (arith, within) in
          let space : get_or (take end text) to 0 ≡ 32 = get_or-take end text to 0 inside ∙ c.if-text-to-ne32.false in
          let run = c.quick_word-n.ensures.number end (omega (arith, inside)) (omega (arith, c.requires.room)) in
          rw (take_more_set c.loop-from.batch count n (rw c.loop-from.invariant.long room))
          (word_done (take end text) (take count c.loop-from.batch) n from to (to + 1) refl more (word_there (take end text) from to n space run) (c.loop-from.invariant.reading (omega (arith, more, inside))));
    }
