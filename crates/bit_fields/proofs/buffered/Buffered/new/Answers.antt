use Rattle.std.proofs.Common.{◌+◌, ◌*◌, ℕ, ap, length}
use Rattle.bit_fields.proofs.LentParts.{lent_told, parts_fit}
use Rattle.bit_fields.proofs.buffered.Buffered.new.Goals as goal

pub invariant_of-result : goal.invariant_of-result
invariant_of-result c = parts_fit c.args.buffered_parts.word c.args.buffered_parts.held c.args.buffered_parts.position _ c.of.result c.args.buffered_parts.bytes.now c.of.ensures (ap (λ (k : ℕ). c.args.buffered_parts.position + (k + 8 * length c.args.buffered_parts.bytes.now)) c.from.ensures)

pub returns : goal.returns
returns c = lent_told c.args.buffered_parts.word c.args.buffered_parts.held c.args.buffered_parts.position _ c.of.result c.args.buffered_parts.bytes c.of.ensures (ap (λ (k : ℕ). c.args.buffered_parts.position + (k + 8 * length c.args.buffered_parts.bytes.now)) c.from.ensures)
