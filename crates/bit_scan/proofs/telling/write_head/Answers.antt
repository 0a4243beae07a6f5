use Rattle.std.proofs.Common.{ℕ, [], ◌∷◌, subst}
use Rattle.std.specs.Prelude.{codes, flat_map}
use Rattle.bit_grammar.specs.Texts.{hex_text, magic_bytes}
use Rattle.bit_fields.specs.Opening.{magic_number}
use Rattle.bit_scan.specs.Json.{text_line}
use Rattle.bit_scan.specs.Printing.{Prints}
use Rattle.bit_scan.proofs.telling.write_head.Goals as goal

pub returns-in-JsonLines : goal.returns-in-JsonLines
returns-in-JsonLines g c =
    rw (c.in-JsonLines.is)
    (subst (λ (n : ℕ). Prints (text_line (codes "magic") ((codes "bit", n) ∷ []) (codes "magic") (flat_map hex_text (magic_bytes (magic_number c.args.head.magic)))) c.args.printer.now c.magic_line.result c.magic_line.new.self) c.begin_of-begin.ensures c.magic_line.ensures)
