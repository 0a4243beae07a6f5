use Rattle.bit_fields.specs.Devices.{known_bytes}
use Rattle.bit_fields.specs.Opening.{head_told}
use Rattle.bit_tree.proofs.Gathered.{marked_fit}
use Rattle.bit_tree.proofs.reading.read.Goals as goal

pub returns-in-Ok-clause-whole : goal.returns-in-Ok-clause-whole
returns-in-Ok-clause-whole g c =
    let all = rw c.in-Ok.is at c.fold-answer.ensures.whole in
    (all.0, λ tells. ((marked_fit c.args.limits (known_bytes (g.S.Source.incoming c.args.source).to_come) c.new.result c.in-Ok.folded.gatherer (head_told c.in-Ok.folded.head) c.finish.result c.in-Ok.folded.after (all.1 tells).0 c.finish.ensures).0, (all.1 tells).1))

pub returns-in-Ok-clause-some : goal.returns-in-Ok-clause-some
returns-in-Ok-clause-some g c =
    let some = rw c.in-Ok.is at c.fold-answer.ensures.some in
    (some.0, (marked_fit c.args.limits some.0 c.new.result c.in-Ok.folded.gatherer (head_told c.in-Ok.folded.head) c.finish.result c.in-Ok.folded.after some.1 c.finish.ensures).0)

pub returns-in-Ok-clause-fit : goal.returns-in-Ok-clause-fit
returns-in-Ok-clause-fit g c =
    let some = rw c.in-Ok.is at c.fold-answer.ensures.some in
    (marked_fit c.args.limits some.0 c.new.result c.in-Ok.folded.gatherer (head_told c.in-Ok.folded.head) c.finish.result c.in-Ok.folded.after some.1 c.finish.ensures).1
