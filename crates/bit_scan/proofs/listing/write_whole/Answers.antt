use Rattle.std.proofs.Common.{ℕ, List, subst}
use Rattle.bit_grammar.specs.Texts.{record_line}
use Rattle.bit_scan.specs.Printing.{PrintsWhole}
use Rattle.bit_scan.proofs.listing.write_whole.Goals as goal

pub returns-in-Some : goal.returns-in-Some
returns-in-Some g c = subst (λ (l : List ℕ). PrintsWhole (record_line c.args.around c.args.code l) c.args.printer.now c.record_line.result c.record_line.new.self) c.in-Some.ensures.0 c.record_line.ensures
