use Rattle.bit_text.proofs.Spelling.{after_is, behind_is}
use Rattle.bit_text.proofs.numbers.behind.Goals as goal

pub returns : goal.returns
returns c = record {
  found = behind_is c.args.front.now c.args.text.now c.strip_prefix.result c.strip_prefix.ensures.cases;
  after = after_is c.args.front.now c.args.text.now c.strip_prefix.result c.strip_prefix.ensures.cases;
}
