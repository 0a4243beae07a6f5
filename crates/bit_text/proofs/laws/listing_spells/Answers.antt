use Rattle.bit_text.proofs.Fitting.{read_fit}
use Rattle.bit_text.proofs.Spelled.{listing_spells, listing_determines}
use Rattle.bit_text.proofs.laws.listing_spells.Goals as goal

pub returns-clause-spells : goal.returns-clause-spells
returns-clause-spells c = listing_spells

pub returns-clause-determines : goal.returns-clause-determines
returns-clause-determines c = listing_determines

pub returns-clause-fit : goal.returns-clause-fit
returns-clause-fit c = read_fit
