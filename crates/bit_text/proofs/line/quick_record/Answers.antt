use Rattle.std.proofs.Common.{◌≡◌, ◌-◌, length, take, drop, sym, ◌∙◌, ap, arith}
use Rattle.std.proofs.lemmas.List.{length-drop, length-take-le, take_rest}
use Rattle.bit_text.proofs.Runs.{front_behind, record_item}
use Rattle.bit_text.proofs.line.quick_record.Goals as goal

pub quick_numbers-requires-clause-room : goal.quick_numbers-requires-clause-room
quick_numbers-requires-clause-room c =
    let text = c.args.text.now in
    let long = length-take-le c.args.end text c.requires in
    rw (take_rest text 7) (simp length-drop (omega (arith, c.in-Some.ensures.after.1, long, c.if-text-end-lt7.false, c.requires)))

pub quick_numbers-requires-clause-short : goal.quick_numbers-requires-clause-short
quick_numbers-requires-clause-short c =
    let long = length-take-le c.args.end c.args.text.now c.requires in
    omega (arith, c.in-Some.ensures.after.1, long, c.if-end-gt-MOST.false)

pub returns-in-Some-clause-item : goal.returns-in-Some-clause-item
returns-in-Some-clause-item c = λ some.
    let text = c.args.text.now in
    let end = c.args.end in
    let rest = c.in-Some.numbers.now in
    let found = take c.quick_numbers.result c.quick_numbers.new.batch in
    let long = length-take-le end text c.requires in
    let fewer : length rest ≡ end - 7 = omega (arith, c.in-Some.ensures.after.1, long) in
    let same : take (length rest) (take (length text - 7) (drop 7 text)) ≡ rest =
    ap (take (length rest)) (take_rest text 7) ∙ ap (λ n. take n (drop 7 text)) fewer ∙ front_behind text 7 end (omega (arith, c.in-Some.ensures.after.1, long)) ∙ sym c.in-Some.ensures.after.0 in
    let held = length-take-le c.quick_numbers.result c.quick_numbers.new.batch (omega (arith, c.quick_numbers.ensures.few, c.quick_numbers.array_long)) in
    record_item (take end text) rest found c.in-Some.ensures.found (omega (arith, held, some)) (rw same at (c.quick_numbers.ensures.read some))
