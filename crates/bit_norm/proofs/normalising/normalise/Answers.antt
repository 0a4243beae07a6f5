use Rattle.std.proofs.Common.{◌<◌, ◌≤◌, ◌+◌, ◌/◌, [], length, refl, ap, sym, arith}
use Rattle.bit_grammar.specs.Blocks.{Limits}
use Rattle.bit_grammar.specs.Forest.{Tree}
use Rattle.bit_grammar.specs.Machine.{flat}
use Rattle.bit_grammar.specs.Size.{size_of}
use Rattle.bit_fields.specs.Opening.{head_told, magic_number}
use Rattle.bit_tree.specs.Reading.{HasFit}
use Rattle.bit_grammar.specs.Setting.{setting_of}
use Rattle.bit_tree.proofs.Gathered.{open_behind-flat}
use Rattle.bit_norm.specs.Building.{left_events}
use Rattle.bit_norm.specs.Told.{told_at_level}
use Rattle.bit_norm.proofs.Forms.{Found, found, form_bytes, wrote_form, read_tree, unread}
use Rattle.bit_norm.proofs.Readings.{not_read}
use Rattle.bit_norm.proofs.normalising.normalise.Goals as goal

pub returns-in-Err : goal.returns-in-Err
returns-in-Err g c =
    let i = g.S.Source.incoming c.args.source in
    let now = g.S.Source.incoming c.fold-answer.result.1 in
    not_read (setting_of c.args.info) c.args.limits i (g.K.Sink.outgoing c.args.sink) c.in-Err.fault now (unread {A = Unit {0}} (λ bytes done. Unit {0}) (HasFit (setting_of c.args.info) c.args.limits) c.args.limits i now c.in-Err.fault (rw c.in-Err.is at c.fold-answer.ensures.whole))

pub give-written-requires-clause-whole : goal.give-written-requires-clause-whole
give-written-requires-clause-whole g c =
    let some = rw c.in-Ok.is at c.fold-answer.ensures.some in
    let m = some.1.marked in
    (c.in-Some.ensures.form c.new-builder.result (flat m.blocks []) some.1.gathers (open_behind-flat m.blocks [] 0)).1

pub returns-in-Some : goal.returns-in-Some
returns-in-Some g c =
    let i = g.S.Source.incoming c.args.source in
    let all = rw c.in-Ok.is at c.fold-answer.ensures.whole in
    let some = rw c.in-Ok.is at c.fold-answer.ensures.some in
    let magic = magic_number c.in-Ok.folded.head.magic in
    let f : Found (setting_of c.args.info) c.args.limits i.to_come c.new-builder.result c.in-Ok.folded.gatherer magic = found (setting_of c.args.info) c.args.limits i.to_come c.new-builder.result c.in-Ok.folded.gatherer (head_told c.in-Ok.folded.head) c.in-Ok.folded.after magic some (λ known. (all.1 known).0) c.new-builder.ensures.setting refl in
    let told = c.in-Some.ensures.form c.new-builder.result f.events f.form f.closed in
    let tree : Tree = record { magic = magic; blocks = told_at_level (left_events c.new-builder.result f.events) 0 } in
    let fits : 4 + length c.in-Some.text / 8 ≤ c.args.limits.bytes = omega (arith, told.2, ap (λ (l : Limits). l.bytes) c.new-builder.ensures.limits) in
    wrote_form (setting_of c.args.info) c.args.limits i (g.K.Sink.outgoing c.args.sink) c.give-written.result.0 (g.S.Source.incoming c.fold-answer.result.1) (g.K.Sink.outgoing c.give-written.result.1) tree
    (read_tree (setting_of c.args.info) c.args.limits i (g.S.Source.incoming c.fold-answer.result.1) c.new-builder.result c.in-Ok.folded.gatherer (head_told c.in-Ok.folded.head) c.in-Ok.folded.after magic f all)
    (c.give-written.ensures tree c.args.limits.bytes refl (sym told.0) fits)

pub returns-in-None : goal.returns-in-None
returns-in-None g c =
    let i = g.S.Source.incoming c.args.source in
    let all = rw c.in-Ok.is at c.fold-answer.ensures.whole in
    let some = rw c.in-Ok.is at c.fold-answer.ensures.some in
    let magic = magic_number c.in-Ok.folded.head.magic in
    let f : Found (setting_of c.args.info) c.args.limits i.to_come c.new-builder.result c.in-Ok.folded.gatherer magic = found (setting_of c.args.info) c.args.limits i.to_come c.new-builder.result c.in-Ok.folded.gatherer (head_told c.in-Ok.folded.head) c.in-Ok.folded.after magic some (λ known. (all.1 known).0) c.new-builder.ensures.setting refl in
    let told = c.in-None.ensures.form c.new-builder.result f.events f.form f.closed in
    let tree : Tree = record { magic = magic; blocks = told_at_level (left_events c.new-builder.result f.events) 0 } in
    let over : c.args.limits.bytes < size_of tree = omega (arith, told, ap (λ (l : Limits). l.bytes) c.new-builder.ensures.limits, form_bytes tree _ refl) in
    (tree, read_tree (setting_of c.args.info) c.args.limits i (g.S.Source.incoming c.fold-answer.result.1) c.new-builder.result c.in-Ok.folded.gatherer (head_told c.in-Ok.folded.head) c.in-Ok.folded.after magic f all, (over, refl))
