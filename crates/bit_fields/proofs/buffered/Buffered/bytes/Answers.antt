use Rattle.std.proofs.Common.{◌-◌, ◌++◌, ◌∙◌, sym, ap, arith, length, take, drop, List, ℕ}
use Rattle.std.proofs.lemmas.List.{take-append-drop, take_all, length-drop}
use Rattle.bit_fields.proofs.LentParts.{bytes_reads}
use Rattle.bit_fields.proofs.buffered.Buffered.bytes.Goals as goal

pub returns-clause-reads : goal.returns-clause-reads
returns-clause-reads c =
    let count = c.min-count.result in
    let bytes = c.self.inside.bytes.now in
    let rest = take (length bytes - count) (drop count bytes) in
    let all = take_all (length bytes - count) (drop count bytes) (omega (arith, length-drop count bytes)) in
    bytes_reads c.self.inside.end c.args.self.now c.self.inside.window bytes (take count bytes) rest (omega (arith, c.if-len-gt0.false, c.len.ensures.length)) c.self.view_is c.self.invariant
    (sym (ap (λ (s : List ℕ). take count bytes ++ s) all ∙ take-append-drop count bytes)) c.are_bytes.ensures
