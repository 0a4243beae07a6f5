use Rattle.std.proofs.Common.{[], ◌∷◌, string_bytes}
use Rattle.std.specs.Prelude.{codes}
use Rattle.bit_scan.specs.Json.{object}
use Rattle.bit_scan.proofs.Appending.{pushed_on_ok, then_pushed}
use Rattle.bitstool.proofs.json_differences.push_block.Goals as goal

pub returns-clause-pushed : goal.returns-clause-pushed
returns-clause-pushed c =
    let block = object (codes "block") ((codes "id", c.args.block.id) ∷ (codes "item", c.args.block.items) ∷ []) in
    let middle = string_bytes c.push_object.new.text in
    let new = string_bytes c.push_str.new.self in
    then_pushed block (codes ",") c.push_str.result (string_bytes c.args.text.now) middle new c.in_ok-push_object.ensures (pushed_on_ok (codes ",") c.push_str.result middle new c.push_str.ensures.bytes)
