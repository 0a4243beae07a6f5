use Rattle.std.proofs.Common.{List, [], ◌∷◌, ◌^◌, ap, subst, ◌∙◌, ◌++◌, string_bytes}
use Rattle.std.specs.Prelude.{codes, flat_map}
use Rattle.std.specs.List.{AllByRecursion}
use Rattle.bit_norm.specs.Entries.{at_item}
use Rattle.bit_norm.specs.declared.differences.OpenBlock.{OpenBlock}
use Rattle.bit_scan.specs.Json.{object}
use Rattle.bit_scan.proofs.Appending.{then_pushed}
use Rattle.bitstool.specs.JsonDifferences.{BlockFits, PlaceFits, open_json}
use Rattle.bitstool.proofs.Pushing.{on_ok}
use Rattle.bitstool.proofs.json_differences.push_place.Goals as goal

pub returns-in_ok-push_blocks-in-Item : goal.returns-in_ok-push_blocks-in-Item
returns-in_ok-push_blocks-in-Item c =
    let old = string_bytes c.args.text.now in
    let blocks = c.in_ok-push_blocks-in-Item.ensures in
    rw (c.in-Item.is) (record {
      pushed = then_pushed (flat_map open_json c.in-Item.open.items) (object (codes "item") ((codes "item", c.in-Item.items) ∷ [])) c.push_items.result old (string_bytes c.push_blocks.new.text) (string_bytes c.push_items.new.text)
          (blocks.pushed ∙ ap (λ (blocks : List OpenBlock). old ++ flat_map open_json blocks) c.deref.ensures.value) c.push_items.ensures.pushed;
      fits = on_ok (PlaceFits (2 ^ 64) (at_item c.in-Item.open.items c.in-Item.items)) c.push_items.result (subst (AllByRecursion (BlockFits (2 ^ 64))) c.deref.ensures.value blocks.fit, c.push_items.ensures.fits);
    })
