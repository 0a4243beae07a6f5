use Rattle.std.proofs.Common.{◌≡◌, List, ℕ, Vec}
use Rattle.std.specs.Global.{Global}
use Rattle.bit_grammar.specs.Input.{SpellsInput}
use Rattle.bit_grammar.specs.Setting.{setting_of}
use Rattle.bit_grammar.specs.Terms.{Marked}
use Rattle.bit_norm.proofs.Comparisons.{finds_in_parts, parts_misread}
use Rattle.bit_norm.proofs.comparing.first_difference_in_parts.Goals as goal

pub returns-in-Ok : goal.returns-in-Ok
returns-in-Ok g c =
    finds_in_parts (setting_of c.args.info) c.args.limits c.args.first c.into_inner-rest.ensures.0 c.into_inner-rest.ensures.1 c.into_inner-rest.ensures.2 (g.S.Source.incoming c.args.source) _ _ (g.S.Source.incoming c.into_inner-rest.result) (g.S.Source.incoming c.compare_checked.result.1) c.in-Ok.bytes.items c.compare_checked.result.0 c.bytes-bytes.ensures.capped c.new.ensures c.into_inner-rest.ensures.3
    (rw c.in-Ok.is at c.check_keeping-kept.ensures) (rw c.deref.ensures.value at c.compare_checked.ensures)

pub returns-in-Err : goal.returns-in-Err
returns-in-Err g c =
    let Holds : List ℕ → Vec ℕ Global → Type 0 = λ bytes kept. (kept.items ≡ bytes) × ((m : Marked) × SpellsInput c.args.limits bytes m) in
    rw c.faulty.ensures (parts_misread Holds (setting_of c.args.info) c.args.limits c.args.first c.into_inner-rest.ensures.0 c.into_inner-rest.ensures.1 c.into_inner-rest.ensures.2 (g.S.Source.incoming c.args.source) _ _ (g.S.Source.incoming c.into_inner-rest.result) c.in-Err.fault c.new.ensures c.into_inner-rest.ensures.3 (rw c.in-Err.is at c.check_keeping-kept.ensures))
