use Rattle.std.proofs.Common.{string_bytes}
use Rattle.bit_scan.proofs.Appending.{all_parts}
use Rattle.bit_scan.proofs.lines.push_block_row.Goals as goal

pub returns : goal.returns
returns g c =
    all_parts (c.args.id, c.args.row.now) c.push_block_end.result (string_bytes c.args.text.now) (string_bytes c.push_block_start.new.text) (string_bytes c.push_block_middle.new.text) (string_bytes c.push_block_end.new.text) c.in_ok-push_block_start.ensures
    (c.in_ok-push_block_middle.ensures c.args.id) (c.push_block_end.ensures c.args.id)
