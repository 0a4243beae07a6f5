use Rattle.std.proofs.Common.{◌^◌, ℕ, ◌++◌, take, min, ap, ◌∙◌, sym}
use Rattle.std.proofs.lemmas.List.{append-nil}
use Rattle.bit_fields.specs.Expected.{Expected}
use Rattle.bit_fields.proofs.Expecting.{expected_first}
use Rattle.bit_fields.proofs.expected.ExpectedValues.new.Goals as goal

pub returns-clause-is : goal.returns-clause-is
returns-clause-is c = expected_first (2 ^ 62) c.min-expected.result c.args.others.now (c.min-expected.ensures ∙ ap (λ (n : ℕ). min n (2 ^ 62)) c.len.ensures)

pub returns-clause-took : goal.returns-clause-took
returns-clause-took c =
    let all = take (2 ^ 62) c.args.others.now in
    let first = expected_first (2 ^ 62) c.min-expected.result c.args.others.now (c.min-expected.ensures ∙ ap (λ (n : ℕ). min n (2 ^ 62)) c.len.ensures) in
    sym (append-nil all) ∙ ap (λ (e : Expected). e.others ++ take e.taken e.others) (sym first)
