use Rattle.bit_norm.specs.Entries.{difference_shown}
use Rattle.bitstool.specs.Differences.{difference_text}
use Rattle.bitstool.specs.JsonDifferences.{difference_json}
use Rattle.bitstool.proofs.perform.tell_difference.Goals as goal

pub returns-in-Lines : goal.returns-in-Lines
returns-in-Lines g c = rw c.in-Lines.is (c.tell_text.ensures (difference_text (difference_shown c.args.difference.now)) c.text_of.ensures)

pub returns-in-Json : goal.returns-in-Json
returns-in-Json g c = rw c.in-Json.is (c.tell_text-in-Json.ensures (difference_json (difference_shown c.args.difference.now)) c.json_of.ensures.text)
