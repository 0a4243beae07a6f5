use Rattle.std.proofs.Common.{ap, sym, arith, refl, Ok, Err}
use Rattle.bit_fields.specs.Writer.{Writer}
use Rattle.bit_tree.specs.TreeView.{tree_with}
use Rattle.bit_norm.proofs.Gains.{form_written, form_lost, between}
use Rattle.bit_norm.proofs.Texts.{form_fits}
use Rattle.bit_norm.proofs.writing.write_form.Goals as goal

pub write_tree-requires-clause-room : goal.write_tree-requires-clause-room
write_tree-requires-clause-room g c =
    form_fits (tree_with c.args.magic c.args.blocks.now) c.new-writer.result (ap (λ (w : Writer). w.live) c.new-writer.ensures) (ap (λ (w : Writer). w.position) c.new-writer.ensures) (omega (arith, (c.in-Some.ensures.len (tree_with c.args.magic c.args.blocks.now) refl).0, c.in-Some.ensures.capped))

pub returns-in-Ok : goal.returns-in-Ok
returns-in-Ok g c =
    let a = c.new-writer.result in
    let b = c.write_tree.new.writer in
    let written = form_written (tree_with c.args.magic c.args.blocks.now) c.args.limits.bytes c.in-Some.bytes a b (c.in-Some.ensures.len (tree_with c.args.magic c.args.blocks.now) refl).0 (c.in-Some.ensures.len (tree_with c.args.magic c.args.blocks.now) refl).1 (ap (λ (w : Writer). w.held) c.new-writer.ensures) c.in-Ok.ensures.all c.in-Ok.ensures.writes in
    between (tree_with c.args.magic c.args.blocks.now) c.args.limits.bytes (Ok c.in-Some.bytes) a.outgoing (g.K.Sink.outgoing c.args.sink) b.outgoing (g.K.Sink.outgoing c.into_sink.result) (ap (λ (w : Writer). w.outgoing) c.new-writer.ensures) (sym c.into_sink.ensures) written

pub returns-in-Err : goal.returns-in-Err
returns-in-Err g c =
    let a = c.new-writer.result in
    let b = c.write_tree.new.writer in
    let lost = form_lost (tree_with c.args.magic c.args.blocks.now) c.args.limits.bytes c.in-Some.bytes a b c.in-Err.fault (c.in-Some.ensures.len (tree_with c.args.magic c.args.blocks.now) refl).0 (c.in-Some.ensures.len (tree_with c.args.magic c.args.blocks.now) refl).1 (ap (λ (w : Writer). w.live) c.new-writer.ensures) (ap (λ (w : Writer). w.held) c.new-writer.ensures) c.in-Err.ensures.writes in
    between (tree_with c.args.magic c.args.blocks.now) c.args.limits.bytes (Err c.in-Err.fault) a.outgoing (g.K.Sink.outgoing c.args.sink) b.outgoing (g.K.Sink.outgoing c.into_sink-in-Err.result) (ap (λ (w : Writer). w.outgoing) c.new-writer.ensures) (sym c.into_sink-in-Err.ensures) lost
