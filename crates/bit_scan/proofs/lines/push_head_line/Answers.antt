use Rattle.std.proofs.Common.{string_bytes}
use Rattle.bit_fields.specs.Opening.{magic_number}
use Rattle.bit_scan.specs.Lines.{listing_head}
use Rattle.bit_scan.proofs.Appending.{line_placed}
use Rattle.bit_scan.proofs.lines.push_head_line.Goals as goal

pub returns : goal.returns
returns c = line_placed c.args.begin (listing_head (magic_number c.args.magic)) c.push_listing_head.result (string_bytes c.args.text.now) (string_bytes c.push_bit.new.text) (string_bytes c.push_listing_head.new.text) c.in_ok-push_bit.ensures c.push_listing_head.ensures
