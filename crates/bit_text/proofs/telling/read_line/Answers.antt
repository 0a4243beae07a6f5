use Rattle.std.proofs.Common.{◌≡◌, ◌≤◌, ◌-◌, arith, length, take, drop, Ok, Option, sym, ◌∙◌, ap, subst, List, ℕ}
use Rattle.std.proofs.lemmas.List.{length-take-le, take_rest}
use Rattle.std.proofs.lemmas.Result.{err_from_is_err_and}
use Rattle.bit_norm.specs.declared.form_writer.FormWriter.{FormWriter}
use Rattle.bit_text.specs.declared.line.Item.TheVariants.{Record}
use Rattle.bit_text.specs.Lines.{item_of}
use Rattle.bit_text.specs.Stops.{call_of, IsAt}
use Rattle.bit_text.proofs.Runs.{front_behind}
use Rattle.bit_text.proofs.Tellings.{content_is, free_line, item_line, item_stopped, first_line}
use Rattle.bit_text.proofs.telling.read_line.Goals as goal

pub returns-then-is_free : goal.returns-then-is_free
returns-then-is_free c = λ now here.
    free_line c.args.limits now (take c.args.end c.args.text.now) (take (length (take c.args.end c.args.text.now) - c.spaces-count.result) (drop c.spaces-count.result (take c.args.end c.args.text.now))) c.args.writer.now
    (content_is (take c.args.end c.args.text.now) c.spaces-count.result c.spaces-count.ensures.spaces) (sym c.if-is_free.ensures) here

pub returns-then-quick-gt0 : goal.returns-then-quick-gt0
returns-then-quick-gt0 c = λ now here.
    let text = c.args.text.now in
    let end = c.args.end in
    let line = take end text in
    let count = c.spaces-count.result in
    let content = take (length line - count) (drop count line) in
    let front = take (end - count) (take (length text - count) (drop count text)) in
    let within : count ≤ end = omega (arith, c.spaces-count.ensures.within, length-take-le end text c.requires) in
    let same : content ≡ front = take_rest line count ∙ sym (front_behind text count end within) ∙ sym (ap (take (end - count)) (take_rest text count)) in
    item_line c.args.limits now line content count (call_of Record (take c.quick_record-quick.result c.quick_record-quick.new.batch)) c.tell_item.result c.in-Some.writer c.tell_item.new.writer
    c.spaces-count.ensures.spaces (content_is line count c.spaces-count.ensures.spaces) (sym c.if-is_free.ensures)
    (ap item_of same ∙ c.quick_record-quick.ensures.item c.if-quick-gt0.true)
    c.tell_item.ensures
    (subst (λ (w : Option FormWriter). IsAt c.args.limits now w) c.in-Some.is here)

pub returns-in_ok-item-in-Some : goal.returns-in_ok-item-in-Some
returns-in_ok-item-in-Some c = λ now here.
    item_line c.args.limits now (take c.args.end c.args.text.now) (take (length (take c.args.end c.args.text.now) - c.spaces-count.result) (drop c.spaces-count.result (take c.args.end c.args.text.now))) c.spaces-count.result (call_of c.in_ok-item-in-Some.item c.deref.result.now) c.tell_item-in-Some.result c.in-Some.writer c.tell_item-in-Some.new.writer
    c.spaces-count.ensures.spaces (content_is (take c.args.end c.args.text.now) c.spaces-count.result c.spaces-count.ensures.spaces) (sym c.if-is_free.ensures)
    (c.in_ok-item-in-Some.ensures.0 ∙ ap (λ (ns : List ℕ). Ok (call_of c.in_ok-item-in-Some.item ns)) (sym c.deref.ensures.value))
    c.tell_item-in-Some.ensures
    (subst (λ (w : Option FormWriter). IsAt c.args.limits now w) c.in-Some.is here)

pub returns-in_err-item-in-Some : goal.returns-in_err-item-in-Some
returns-in_err-item-in-Some c =
    let failed = err_from_is_err_and c.from_residual.result c.from_residual.ensures.1 in
    rw (failed.1, failed.2) (λ now here.
    item_stopped c.args.limits now (take c.args.end c.args.text.now) (take (length (take c.args.end c.args.text.now) - c.spaces-count.result) (drop c.spaces-count.result (take c.args.end c.args.text.now))) c.read_item.new.numbers.items c.in_err-item-in-Some.field-0.0 c.in-Some.writer
    (content_is (take c.args.end c.args.text.now) c.spaces-count.result c.spaces-count.ensures.spaces) (sym c.if-is_free.ensures) c.in_err-item-in-Some.ensures
    (subst (λ (w : Option FormWriter). IsAt c.args.limits now w) c.in-Some.is here))

pub returns-in-None : goal.returns-in-None
returns-in-None c = λ now here.
    first_line c.args.limits now (take c.args.end c.args.text.now) (take (length (take c.args.end c.args.text.now) - c.spaces-count.result) (drop c.spaces-count.result (take c.args.end c.args.text.now))) c.begin.result c.begin.new.writer
    (content_is (take c.args.end c.args.text.now) c.spaces-count.result c.spaces-count.ensures.spaces) (sym c.if-is_free.ensures) c.begin.ensures
    (subst (λ (w : Option FormWriter). IsAt c.args.limits now w) c.in-None.is here)
