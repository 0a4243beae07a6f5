use Rattle.std.proofs.Common.{◌≡◌, ◌∙◌, ap, subst}
use Rattle.bit_grammar.specs.Fields.{padding_length}
use Rattle.bit_fields.specs.Buffered.{BufferedBits, Reads}
use Rattle.bit_fields.specs.Inside.{part_of}
use Rattle.bit_fields.proofs.LentParts.{pad_reads}
use Rattle.bit_fields.proofs.buffered.Buffered.pad.Goals as goal
use Rattle.bit_fields.proofs.buffered.Buffered.pad.Goals.{then-len-count, else-len-count}

pub returns-clause-reads : goal.returns-clause-reads
returns-clause-reads c =
    let a = c.args.self.now in
    let n = padding_length c.position.result in
    let same : c.if-len-count.self ≡ a = elim c.if-len-count.branch [ then-len-count w ↦ w.self-is ∙ w.fill.ensures | else-len-count w ↦ w.self-is ] in
    let seen : Reads (part_of a.position n) a c.in_ok-zeros.zeros c.held_part.new.self = subst (λ (s : BufferedBits). Reads (part_of a.position n) s c.in_ok-zeros.zeros c.held_part.new.self) same (c.in_ok-zeros.ensures.reads a.position) in
    pad_reads n c.in_ok-zeros.zeros a c.held_part.new.self (ap padding_length c.position.ensures) seen c.if-zeros-ne0.false
