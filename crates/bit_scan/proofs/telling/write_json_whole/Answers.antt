use Rattle.std.proofs.Common.{ℕ, List, subst}
use Rattle.std.specs.Prelude.{codes}
use Rattle.bit_scan.specs.Json.{joined, list_line, noted_fields, number_json}
use Rattle.bit_scan.specs.Printing.{PrintsWhole}
use Rattle.bit_scan.proofs.telling.write_json_whole.Goals as goal

pub returns-in-Some : goal.returns-in-Some
returns-in-Some g c =
    let n = c.args.noted in
    subst (λ (l : List ℕ). PrintsWhole (list_line (codes "record") (noted_fields c.args.around n.first n.code n.abbreviation n.count) (codes "values") (joined number_json l)) c.args.printer.now c.json_record.result c.json_record.new.self) c.in-Some.ensures.0 c.json_record.ensures
