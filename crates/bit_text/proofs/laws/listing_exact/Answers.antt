use Rattle.bit_text.proofs.InWords.{text_lists}
use Rattle.bit_text.proofs.Spelled.{listed_read, lists_one}
use Rattle.bit_text.proofs.laws.listing_exact.Goals as goal

pub returns-clause-exact : goal.returns-clause-exact
returns-clause-exact c = λ limits text tree capped. (text_lists limits text tree capped, listed_read limits text tree)

pub returns-clause-one : goal.returns-clause-one
returns-clause-one c = lists_one
